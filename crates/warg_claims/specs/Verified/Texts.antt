-- Texts of claims, a line each.
use Rattle.std.specs.Prelude.{◌≡◌, ◌||◌, ℕ, List, All, IsOk, map, take, Some, Ok, Err}
use Rattle.std.specs.List.{list_any, slice_get}
use Rattle.warg_claims.specs.Verified.Claims.{ClaimData, same_claim}
use Rattle.warg_claims.specs.Verified.Lines.{claim_of}
use Rattle.warg_claims.specs.declared.verified.error.ClaimParseError.{ClaimParseError}

-- new holds the claim, and otherwise what old holds
abbrev pub IsAdded : List ClaimData → ClaimData → List ClaimData → Type 0
IsAdded old claim new = (c : ClaimData) → list_any (same_claim c) new ≡ (list_any (same_claim c) old || same_claim claim c)

-- the line says a claim, and new is old with it
pub record IsLineAdded (old : List ClaimData) (line : List ℕ) (new : List ClaimData) : Type 0 where
  pub claim : ClaimData
  pub said : claim_of line ≡ Ok claim
  pub added : IsAdded old claim new

-- the lines say claims, and these are what is held
pub record IsReadFrom (text_lines : List (List ℕ)) (held : List ClaimData) : Type 0 where
  pub claims : List ClaimData
  pub said : map claim_of text_lines ≡ map Ok claims
  pub same : (c : ClaimData) → list_any (same_claim c) held ≡ list_any (same_claim c) claims

-- the lines before the place say claims, and this is the fault of the one there
pub record IsFirstFault (text_lines : List (List ℕ)) (place : ℕ) (fault : ClaimParseError) : Type 0 where
  pub before : All (λ line. IsOk (claim_of line)) (take place text_lines)
  pub line : List ℕ
  pub at : slice_get text_lines place ≡ Some line
  pub here : claim_of line ≡ Err fault

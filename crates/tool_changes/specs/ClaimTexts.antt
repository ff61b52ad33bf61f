-- What is listed of the claims of a log.
use Rattle.std.specs.Prelude.{◌≡◌, ℕ, List, length, map, take, Result}
use Rattle.warg_audit.specs.Files.Lines.{IsFirstBad, Spell}
use Rattle.warg_audit.specs.Printouts.{OutputData, bad_line}
use Rattle.warg_claims.specs.Claimed.{AreClaims, IsRefusedAnyway}
use Rattle.warg_protocol.specs.Logs.{Cause, EnvelopeData, Kind}
use Rattle.warg_audit.specs.Files.Texts.{all_lines, no, yes}
use Rattle.tool_answers.specs.Texts.{within}
use Rattle.warg_claims.specs.Verified.Claims.{ClaimData, claim_text}

-- what is printed are the claims of the inputs, a line each; or those of the inputs before one that can't come next whatever its signature
pub data IsClaimList {View Offence F : Type 0} (k : Kind View Offence) (read : List ℕ → Result EnvelopeData F) (inputs : List (List ℕ)) (printed : OutputData) : Type 0 where
  whole : (claims : List ClaimData) → AreClaims k read inputs claims
      → printed ≡ yes (all_lines (map claim_text claims)) → IsClaimList k read inputs printed
  cut : (claims : List ClaimData) (why : Cause F Offence) → AreClaims k read (take (length claims) inputs) claims
      → IsRefusedAnyway k read inputs (length claims) why
      → printed ≡ no (all_lines (map claim_text claims)) → IsClaimList k read inputs printed

-- what is printed to lines: of the first that spells no bytes, or the claims of the inputs that they spell, within the limit
pub data IsClaimsAnswer {View Offence F : Type 0} (limit : ℕ) (k : Kind View Offence) (read : List ℕ → Result EnvelopeData F) (lines : List (List ℕ)) (printed : OutputData) : Type 0 where
  first_bad : (index : ℕ) → IsFirstBad lines index → printed ≡ bad_line index → IsClaimsAnswer limit k read lines printed
  listed : (inputs : List (List ℕ)) → Spell lines inputs → (list : OutputData) → IsClaimList k read inputs list → printed ≡ within limit list
      → IsClaimsAnswer limit k read lines printed

-- Texts of claims, line by line.
use Rattle.std.proofs.Common.{◌≡◌, ◌||◌, ℕ, ◌+◌, ◌<◌, Bool, true, false, List, [], ◌∷◌, ◌++◌, All, IsOk, length, map, take, get_or, Ok, Some, Result, refl, sym, ap, ◌∙◌, arith, zero-add, zero, suc, drop, ◌⊎◌, inl, inr, Err}
use Rattle.std.specs.List.{enumerate_from, list_any}
use Rattle.std.proofs.lemmas.List.{length_push, map_push, take_all, take_more}
use Rattle.std.proofs.lemmas.List.Folds.{list_any-append}
use Rattle.std.proofs.lemmas.List.FromFn.{get_or-enumerate_from, length-enumerate_from}
use Rattle.warg_claims.specs.Verified.Claims.{ClaimData, same_claim}
use Rattle.warg_claims.specs.Verified.Lines.{claim_of}
use Rattle.warg_claims.specs.Verified.SameClaims.{same_claim_equiv}
use Rattle.warg_claims.specs.Verified.Texts.{IsAdded, IsFirstFault, IsLineAdded, IsReadFrom}
use Rattle.warg_claims.specs.declared.verified.error.ClaimParseError.{ClaimParseError}
use Rattle.warg_claims.specs.declared.verified.error.ClaimParseError.TheVariants as fault
use Rattle.std.proofs.lemmas.Option.{slice_get-get_or}

abbrev is_nil : {X : Type 0} → List X → Bool
is_nil [] = true
is_nil (x ∷ xs) = false

nil_not : true ≡ false → ⊥
nil_not e = cc e

or_more : (a x y : Bool) → x ≡ y → (a || x) ≡ (a || (y || false))
or_more a x true e = rw e refl
or_more a x false e = rw e refl

-- one claim more
held-more : (old claims new : List ClaimData) (claim c : ClaimData) → list_any (same_claim c) old ≡ list_any (same_claim c) claims
    → IsAdded old claim new → list_any (same_claim c) new ≡ list_any (same_claim c) (claims ++ claim ∷ [])
held-more old claims new claim c same added =
    added c ∙ ap (λ b. b || same_claim claim c) same
    ∙ or_more (list_any (same_claim c) claims) (same_claim claim c) (same_claim c claim) (same_claim_equiv.symm claim c)
    ∙ sym (list_any-append (same_claim c) claims (claim ∷ []))

-- one line more
pub read-more : (ls : List (List ℕ)) (line : List ℕ) (old new : List ClaimData) → IsReadFrom ls old → IsLineAdded old line new
    → IsReadFrom (ls ++ line ∷ []) new
read-more ls line old new so_far one = record {
  claims = so_far.claims ++ one.claim ∷ [];
  said = map_push claim_of ls line ∙ ap (λ rs. rs ++ claim_of line ∷ []) so_far.said ∙ ap (λ r. map Ok so_far.claims ++ r ∷ []) one.said ∙ sym (map_push Ok so_far.claims one.claim);
  same = λ c. held-more old so_far.claims new one.claim c (so_far.same c) one.added;
}

ok-from : (r : Result ClaimData ClaimParseError) (claim : ClaimData) → r ≡ Ok claim → IsOk r
ok-from r claim e = rw e refl

-- the lines that were read say claims
pub all-said : (ls : List (List ℕ)) (claims : List ClaimData) → map claim_of ls ≡ map Ok claims → All (λ line. IsOk (claim_of line)) ls
all-said [] claims said k d below = elim below [ ]
all-said (l ∷ ls) [] said zero d below = absurd (nil_not (sym (ap is_nil said)))
all-said (l ∷ ls) [] said (suc k) d below = absurd (nil_not (sym (ap is_nil said)))
all-said (l ∷ ls) (c ∷ claims) said zero d below = ok-from (claim_of l) c (ap (λ rs. get_or rs 0 (Ok c)) said)
all-said (l ∷ ls) (c ∷ claims) said (suc k) d below = all-said ls claims (ap (drop 1) said) k d (omega arith)

-- the item that a turn gave, with its place
pub at-turn : (ls : List (List ℕ)) (n place : ℕ) (line : List ℕ) → n < length (enumerate_from 0 ls)
    → (place, line) ≡ get_or (enumerate_from 0 ls) n (place, line) → (n < length ls) × (place ≡ n) × (line ≡ get_or ls n line)
at-turn ls n place line below at =
    let inside : n < length ls = rw (length-enumerate_from 0 ls) at below in
    let item : (place, line) ≡ (0 + n, get_or ls n line) = at ∙ get_or-enumerate_from 0 ls n (place, line) inside in
    (inside, ap (λ p. p.0) item ∙ zero-add n, ap (λ p. p.1) item)

-- where a turn's line says no claim
pub first-fault : (ls : List (List ℕ)) (n place : ℕ) (line : List ℕ) (held : List ClaimData) (error : ClaimParseError)
    → (n < length ls) × (place ≡ n) × (line ≡ get_or ls n line) → IsReadFrom (take n ls) held
    → (error ≡ fault.OutOfMemory) ⊎ (claim_of line ≡ Err error) → (error ≡ fault.OutOfMemory) ⊎ IsFirstFault ls place error
first-fault ls n place line held error at so_far (inl memory) = inl memory
first-fault ls n place line held error at so_far (inr here) =
    inr
    (rw (at.1)
    (record {
      before = all-said (take n ls) so_far.claims so_far.said;
      line = line;
      at = slice_get-get_or ls n line at.0 ∙ ap Some (sym at.2);
      here = here;
    }))

-- where a turn's line says a claim
pub read-turn : {X : Type 0} (ls : List (List ℕ)) (yielded : List X) (x : X) (place : ℕ) (line : List ℕ) (old new : List ClaimData)
    → (length yielded < length ls) × (place ≡ length yielded) × (line ≡ get_or ls (length yielded) line)
    → IsReadFrom (take (length yielded) ls) old → IsLineAdded old line new → IsReadFrom (take (length (yielded ++ x ∷ [])) ls) new
read-turn ls yielded x place line old new at so_far one =
    let more : take (length (yielded ++ x ∷ [])) ls ≡ take (length yielded) ls ++ line ∷ [] =
    ap (λ n. take n ls) (length_push yielded x) ∙ take_more ls (length yielded) line at.0 ∙ ap (λ (l : List ℕ). take (length yielded) ls ++ l ∷ []) (sym at.2) in
    rw more (read-more (take (length yielded) ls) line old new so_far one)

-- after the last line
pub read-end : (ls : List (List ℕ)) (n : ℕ) (held : List ClaimData) → n ≡ length (enumerate_from 0 ls) → IsReadFrom (take n ls) held → IsReadFrom ls held
read-end ls n held all so_far =
    let whole : take n ls ≡ ls = take_all n ls (rw (all, length-enumerate_from 0 ls) (omega arith)) in
    rw whole at so_far

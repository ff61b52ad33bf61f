-- Claims that are held, as a relation.
use Rattle.std.proofs.Common.{◌≡◌, ℕ, true, List, Contains, Some}
use Rattle.std.specs.List.{slice_get}
use Rattle.std.proofs.lemmas.Map.Views.{Contains-from_any, list_any-from_Contains}
use Rattle.std.proofs.lemmas.Option.{get_or_from_slice_get, slice_get_within}
use Rattle.warg_log_records.specs.Kinds.{AcceptsNoMore, SignatureRelation}
use Rattle.warg_claims.specs.Claimed.{HoldsOf}
use Rattle.warg_claims.specs.Verified.Claims.{ClaimData, is_claimed}
use Rattle.warg_claims.specs.Verified.SameClaims.{same_claim_equiv}
use Rattle.warg_claims.proofs.VerifiedLemmas.SameLemmas.{same_claim-one}

-- an element at a place is one of the list
contains-at : {X : Type 0} (xs : List X) (i : ℕ) (x : X) → slice_get xs i ≡ Some x → Contains xs x
contains-at xs i x at = (i, slice_get_within xs i x at, get_or_from_slice_get xs i x x at)

-- more claims take all that fewer take
pub claimed-within : (few many : List ClaimData) → ((c : ClaimData) → Contains few c → Contains many c) → AcceptsNoMore (is_claimed few) (is_claimed many)
claimed-within few many more key message signature taken =
    let claim : ClaimData = record { key = key; message = message; signature = signature } in
    list_any-from_Contains same_claim_equiv claim many (more claim (Contains-from_any same_claim-one claim few taken))

-- where what is held holds under a relation, that holds of the claims that are held
pub held-holds : (cs held : List ClaimData) (b : SignatureRelation)
    → ((c : ClaimData) → Contains held c → b c.key c.message c.signature ≡ true) → HoldsOf (is_claimed held) cs → HoldsOf b cs
held-holds cs held b right holds = λ i c at. right c (Contains-from_any same_claim-one c held (holds i c at))

-- where all claims that hold under a relation are held, and all hold, all are held
pub holds-held : (cs held : List ClaimData) (b : SignatureRelation)
    → ((c : ClaimData) → Contains cs c → b c.key c.message c.signature ≡ true → Contains held c) → HoldsOf b cs → HoldsOf (is_claimed held) cs
holds-held cs held b whole holds = λ i c at. list_any-from_Contains same_claim_equiv c held (whole c (contains-at cs i c at) (holds i c at))

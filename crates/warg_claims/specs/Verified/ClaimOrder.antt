-- The order of claims: by the key, then the message, then the signature.
use Rattle.std.specs.Prelude.{◌≡◌, IsTrue, List, ℕ, Some}
use Rattle.std.specs.Cmp.{IsTotalOrder, IsPartialOrder, on_total, po, then_total}
use Rattle.std.specs.Cmp.Derive.{Tied, on_tied, then_tied, tie}
use Rattle.std.specs.Cmp.Lexicographic.{slice_cmp, nat_list_cmp_total, texts_ties}
use Rattle.std.specs.Ordering.{eq_by_cmp, is_le, nat_cmp, ordering_then}
use Rattle.std.specs.declared.cmp.Ordering.{Ordering}
use Rattle.std.specs.declared.cmp.Ordering.TheVariants.{Less, Equal, Greater}
use Rattle.std.specs.Str.{bytes_eq}
use Rattle.std.proofs.Common.{refl, sym, ap, ◌∙◌, true≢false}
use Rattle.warg_crypto.specs.NamedBytes.{NamedBytes, same_named_bytes}
use Rattle.warg_claims.specs.Verified.Claims.{ClaimData, same_claim}

-- keys and signatures, by their names and then by their bytes
abbrev pub named_cmp : NamedBytes → NamedBytes → Ordering
named_cmp a b = ordering_then (slice_cmp nat_cmp a.name b.name) (slice_cmp nat_cmp a.bytes b.bytes)

abbrev pub claim_cmp : ClaimData → ClaimData → Ordering
claim_cmp a b = ordering_then (named_cmp a.key b.key) (ordering_then (slice_cmp nat_cmp a.message b.message) (named_cmp a.signature b.signature))

texts_total : {K : Type 0} (f : K → List ℕ) → IsTotalOrder (λ a b. slice_cmp nat_cmp (f a) (f b))
texts_total f = on_total f nat_list_cmp_total

texts_tied : {K : Type 0} (f : K → List ℕ) → Tied (λ a b. bytes_eq (f a) (f b)) (λ a b. slice_cmp nat_cmp (f a) (f b))
texts_tied f = on_tied f (tie (slice_cmp nat_cmp) texts_ties)

named_total : IsTotalOrder named_cmp
named_total = then_total (texts_total (λ (t : NamedBytes). t.name)) (texts_total (λ (t : NamedBytes). t.bytes))

named_tied : Tied same_named_bytes named_cmp
named_tied = then_tied (texts_tied (λ (t : NamedBytes). t.name)) (texts_tied (λ (t : NamedBytes). t.bytes))

pub claim_total : IsTotalOrder claim_cmp
claim_total =
    then_total (on_total (λ (c : ClaimData). c.key) named_total)
    (then_total (texts_total (λ (c : ClaimData). c.message)) (on_total (λ (c : ClaimData). c.signature) named_total))

claim_tied : Tied same_claim claim_cmp
claim_tied =
    then_tied (on_tied (λ (c : ClaimData). c.key) named_tied)
    (then_tied (texts_tied (λ (c : ClaimData). c.message)) (on_tied (λ (c : ClaimData). c.signature) named_tied))

-- claims are the same exactly where the order does not tell them apart
pub claim_ties : (a b : ClaimData) → same_claim a b ≡ eq_by_cmp claim_cmp a b
claim_ties = claim_tied.ties

pub claim_po : IsPartialOrder same_claim (λ a b. Some (claim_cmp a b))
claim_po = po claim_total claim_ties

-- what is not above a claim is below each that is above it
pub below_later : (a b c : ClaimData) → IsTrue (is_le (claim_cmp a b)) → claim_cmp b c ≡ Less → claim_cmp a c ≡ Less
below_later a b c le lt = from (claim_cmp a b) refl
  where
    from : (r : Ordering) → claim_cmp a b ≡ r → claim_cmp a c ≡ Less
    from Less e = claim_total.trans a b c e lt
    from Equal e = claim_total.congr a b c e ∙ lt
    from Greater e = absurd (true≢false (sym le ∙ ap is_le e))

-- When two envelopes are the same.
use Rattle.std.specs.Prelude.{Bool, ◌&&◌}
use Rattle.std.specs.Cmp.{IsEquivalence, IsPartialEquivalence, on_equiv, on_per, and_per, partial_equiv_from_equiv}
use Rattle.std.specs.Cmp.Lexicographic.{nat_list_eq_equiv}
use Rattle.std.specs.Str.{bytes_eq}
use Rattle.std.proofs.lemmas.Cmp.{and_equiv}
use Rattle.warg_crypto.specs.SameLaws.{same_named_bytes_equiv}
use Rattle.warg_crypto.specs.NamedBytes.{same_named_bytes}
use Rattle.warg_envelope.specs.EnvelopeData.{EnvelopeData, DecodedEnvelope}

-- whether two envelopes are the same: in content bytes, key id and signature
abbrev pub same_envelope_data : EnvelopeData → EnvelopeData → Bool
same_envelope_data a b = bytes_eq a.content b.content && (bytes_eq a.key_id b.key_id && same_named_bytes a.signature b.signature)

-- the records held are the same, and so are the envelopes
abbrev pub same_decoded_envelope : {C : Type 0} → (C → C → Bool) → DecodedEnvelope C → DecodedEnvelope C → Bool
same_decoded_envelope same a b = same a.contents b.contents && same_envelope_data a.envelope b.envelope

-- to be the same is an equivalence of envelopes
pub same_envelope_data_equiv : IsEquivalence same_envelope_data
same_envelope_data_equiv =
    and_equiv (on_equiv (λ (l : EnvelopeData). l.content) nat_list_eq_equiv)
    (and_equiv (on_equiv (λ (l : EnvelopeData). l.key_id) nat_list_eq_equiv) (on_equiv (λ (l : EnvelopeData). l.signature) same_named_bytes_equiv))

-- where it is one of records, it is one of envelopes with their records
pub same_decoded_envelope_equiv : {C : Type 0} {same : C → C → Bool} → IsEquivalence same → IsEquivalence (same_decoded_envelope same)
same_decoded_envelope_equiv {C} e = and_equiv (on_equiv (λ (h : DecodedEnvelope C). h.contents) e) (on_equiv (λ (h : DecodedEnvelope C). h.envelope) same_envelope_data_equiv)

-- where it is a partial equivalence of records, it is one of envelopes with their records
pub same_decoded_envelope_per : {C : Type 0} {same : C → C → Bool} → IsPartialEquivalence same
    → IsPartialEquivalence (same_decoded_envelope same)
same_decoded_envelope_per {C} e = and_per (on_per (λ (h : DecodedEnvelope C). h.contents) e) (on_per (λ (h : DecodedEnvelope C). h.envelope) (partial_equiv_from_equiv same_envelope_data_equiv))

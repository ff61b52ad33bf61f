-- The messages that the claims of a log are on are of bytes.
use Rattle.std.proofs.Common.{◌≡◌, ℕ, suc, Bool, true, List, [], ◌∷◌, ◌++◌, length, Option, Some, None, Result, Ok, Err, refl, ap, ◌∙◌, arith}
use Rattle.std.specs.Prelude.{nat_lt}
use Rattle.std.specs.List.{AllByRecursion, list_all, slice_get}
use Rattle.std.specs.Option.{option_map, option_map_or, option_or}
use Rattle.std.proofs.lemmas.Bool.{lt-ltb, ltb-true}
use Rattle.warg_claims.specs.Claimed.{AreClaims, AsksClaim, any_signature, seen_before}
use Rattle.warg_crypto.specs.NamedBytes.{NamedBytes}
use Rattle.warg_crypto.specs.Signed.{signed_message}
use Rattle.warg_crypto.specs.declared.signing.error.SignatureError.TheVariants.{Refused}
use Rattle.warg_envelope.specs.EnvelopeData.{EnvelopeData}
use Rattle.warg_permissions.specs.KeyMaps.AuthorityData.{AccessView}
use Rattle.warg_log.specs.KindOfRules.{kind_of, offence_in}
use Rattle.warg_log.specs.Offences.{KeyIDNotRecognized, Offence, WrongSignature, unless}
use Rattle.warg_log.specs.RecordOffences.{signer_offence}
use Rattle.warg_log.specs.Rules.{Event, LogOffence, Rules, View, record_events, state_view_after, unsigned_offence}
use Rattle.warg_log.specs.States.{with_envelope}
use Rattle.warg_log_records.specs.Asked.{AsksFor}
use Rattle.warg_log_records.specs.Kinds.{Kind, SignatureRelation}
use Rattle.warg_log_records.specs.RecordData.{RecordData}
use Rattle.warg_claims.specs.Verified.Claims.{ClaimData}
use Rattle.tool_laws.specs.Plain.Plain.{AreBytes}
use Rattle.tool_laws.proofs.PlainLemmas.PlainLemmas.{and_both, and_first, and_then}

-- ---- bytes, as a test

abbrev pub are_bytes : List ℕ → Bool
are_bytes message = list_all (λ b. nat_lt b 256) message

pub from_test : (message : List ℕ) → are_bytes message ≡ true → AreBytes message
from_test [] h = tt
from_test (b ∷ message) h =
    (ltb-true b 256 (and_first (nat_lt b 256) (are_bytes message) h), from_test message (and_then (nat_lt b 256) (are_bytes message) h))

to_test : (message : List ℕ) → AreBytes message → are_bytes message ≡ true
to_test [] h = refl
to_test (b ∷ message) h = and_both (nat_lt b 256) (are_bytes message) (lt-ltb b 256 h.0) (to_test message h.1)

-- the signatures of messages that are bytes
abbrev of_bytes : SignatureRelation
of_bytes key message signature = are_bytes message

-- ---- what is asked

module _ {P : Type 0} (s : AccessView P) (signer message : List ℕ) (signature : NamedBytes) (bytes : are_bytes message ≡ true) where
  by_key : (key : Option NamedBytes)
      → option_map_or (λ it. unless {O = Offence P} (of_bytes it message signature) (WrongSignature Refused)) key (Some (KeyIDNotRecognized signer))
      ≡ option_map_or (λ it. unless {O = Offence P} (any_signature it message signature) (WrongSignature Refused)) key (Some (KeyIDNotRecognized signer))
  by_key None = refl
  by_key (Some key) = ap (λ (b : Bool). unless {O = Offence P} b (WrongSignature Refused)) bytes

  same_signer : signer_offence of_bytes s signer message signature ≡ signer_offence any_signature s signer message signature
  same_signer = by_key (s.key signer)

-- the prefixes of signed messages are of bytes
module _ {P O V F D : Type 0} (rules : Rules P O V F) (same : P → P → Bool) (read : List ℕ → Result (RecordData P O) D) (own_state : List (Event O) → V)
    (prefix : AreBytes (rules.signing_prefix ++ 58 ∷ [])) where
  abbrev k : Kind (View P V) (LogOffence P F)
  k = kind_of rules same read own_state

  message_bytes : (content : List ℕ) → AreBytes content → AreBytes (signed_message rules.signing_prefix content)
  message_bytes content h = by rules.signing_prefix prefix
    where
      by : (xs : List ℕ) → AreBytes (xs ++ 58 ∷ []) → AreBytes (xs ++ 58 ∷ content)
      by [] g = (g.0, h)
      by (x ∷ xs) g = (g.0, by xs g.1)

  same_offence : (v : View P V) (e : EnvelopeData) (said : Result (RecordData P O) D) → AreBytes e.content
      → offence_in rules same read of_bytes v e said ≡ offence_in rules same read any_signature v e said
  same_offence v e (Err fault) h = refl
  same_offence v e (Ok s) h =
      ap (λ (o : Option (Offence P)). option_or (unsigned_offence rules same v (with_envelope s e)) (option_map LogOffence.Shared o))
      (same_signer (state_view_after rules same v.state (record_events rules.id_of (with_envelope s e))).authority e.key_id
      (signed_message rules.signing_prefix e.content) e.signature (to_test (signed_message rules.signing_prefix e.content) (message_bytes e.content h)))

  -- the message that is asked about
  asked_bytes : (v : View P V) (e : EnvelopeData) (c : ClaimData) → AsksFor k v e c.key c.message c.signature → AreBytes e.content → AreBytes c.message
  asked_bytes v e c asks h =
      from_test c.message ((asks of_bytes).0 (same_offence v e (read e.content) h ∙ (asks any_signature).1 refl))

  module _ {G : Type 0} (reads : List ℕ → Result EnvelopeData G) (keeps : (bytes : List ℕ) (e : EnvelopeData) → reads bytes ≡ Ok e → AreBytes bytes → AreBytes e.content) where
    claim_bytes : (v : View P V) (bytes : List ℕ) (found : Result EnvelopeData G) (c : ClaimData) → reads bytes ≡ found → AsksClaim k v found c → AreBytes bytes
        → AreBytes c.message
    claim_bytes v bytes (Ok e) c same asks h = asked_bytes v e c asks (keeps bytes e same h)
    claim_bytes v bytes (Err fault) c same asks h = absurd asks

    all_bytes : (inputs : List (List ℕ)) (claims : List ClaimData) → length claims ≡ length inputs → AllByRecursion AreBytes inputs
        → (seen : ℕ → View P V)
        → ((i : ℕ) (s : List ℕ) (c : ClaimData) → slice_get inputs i ≡ Some s → slice_get claims i ≡ Some c → AsksClaim k (seen i) (reads s) c)
        → AllByRecursion (λ (c : ClaimData). AreBytes c.message) claims
    all_bytes inputs [] counted h seen asked = tt
    all_bytes [] (c ∷ claims) counted h seen asked = cc counted
    all_bytes (s ∷ inputs) (c ∷ claims) counted h seen asked =
        let fewer : length claims ≡ length inputs = omega arith in (
          claim_bytes (seen 0) s (reads s) c refl (asked 0 s c refl refl) h.0,
          all_bytes inputs claims fewer h.1 (λ i. seen (suc i)) (λ i. asked (suc i)),
        )

    -- those of all claims
    pub claims_bytes : (inputs : List (List ℕ)) (claims : List ClaimData) → AreClaims k reads inputs claims → AllByRecursion AreBytes inputs
        → AllByRecursion (λ (c : ClaimData). AreBytes c.message) claims
    claims_bytes inputs claims are h = all_bytes inputs claims are.counted h (seen_before k reads inputs) are.asked

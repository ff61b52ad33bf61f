-- Why a record is refused.
use Rattle.std.proofs.Common.{◌≡◌, ℕ, List, refl, Option, Some, None, Result}
use Rattle.std.specs.Option.{option_map}
use Rattle.warg_envelope.specs.ErrorTexts.{error_text as fault_text}
use Rattle.warg_protocol.specs.Errors.{DecodeError, ParseEnvelopeError}
use Rattle.warg_protocol.specs.Logs.{Cause, DecodedEnvelope, EnvelopeFault, Unlawful, Unread, cause_named_by, envelope_fault_of}
use Rattle.warg_protocol.specs.RunCauses.{Parse, Validation}
use Rattle.tool_answers.specs.Explanations.{Explains, IsEntryOf, IsEntryOfInput}

module _ {E C M F View Offence : Type 0} (sentence_of : E → List ℕ) (fault_of_error : DecodeError → Option F) (offence_of : E → Option Offence)
    (read : List ℕ → Result M F) (meaning : C → M) (tells_entry : View → DecodedEnvelope C → Offence → Option ℕ → Type 0)
    (view : View) (input : List ℕ) (cause : Cause (EnvelopeFault F) Offence) (text : List ℕ) where
  none_told : (named : Option (EnvelopeFault F)) → option_map Unread named ≡ Some cause
      → IsEntryOf sentence_of fault_of_error offence_of read meaning tells_entry view input cause None
  none_told None names = cc
  none_told (Some fault) names =
      let same : cause ≡ Unread fault = cc in
      rw same refl

  pub fault_explained : (fault : ParseEnvelopeError) → cause_named_by (envelope_fault_of fault_of_error) offence_of (Parse fault) ≡ Some cause
      → text ≡ fault_text fault → Explains sentence_of fault_of_error offence_of read meaning tells_entry view input cause text None
  fault_explained fault names is = record {
    sentence = record { error = Parse fault; names = names; is = is };
    place = none_told (envelope_fault_of fault_of_error fault) names;
  }

  place_told : (error : E) (named : Option Offence) → offence_of error ≡ named → option_map Unlawful named ≡ Some cause → (entry : Option ℕ)
      → ((o : Offence) → offence_of error ≡ Some o → IsEntryOfInput read meaning tells_entry view input o entry)
      → IsEntryOf sentence_of fault_of_error offence_of read meaning tells_entry view input cause entry
  place_told error None is names entry found = cc
  place_told error (Some o) is names entry found =
      let same : cause ≡ Unlawful o = cc in
      rw same (found o is)

  pub offence_explained : (error : E) → cause_named_by (envelope_fault_of fault_of_error) offence_of (Validation error) ≡ Some cause
      → text ≡ sentence_of error → (entry : Option ℕ)
      → ((o : Offence) → offence_of error ≡ Some o → IsEntryOfInput read meaning tells_entry view input o entry)
      → Explains sentence_of fault_of_error offence_of read meaning tells_entry view input cause text entry
  offence_explained error names is entry found = record {
    sentence = record { error = Validation error; names = names; is = is };
    place = place_told error (offence_of error) refl names entry found;
  }

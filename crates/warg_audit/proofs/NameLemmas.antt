-- Names of faults, whichever type says them.
use Rattle.std.proofs.Common.{◌≡◌, ◌≢◌, ℕ, List, ◌++◌, codes, refl, sym, ap, ◌∙◌, Option, Some, None, unwrap_or}
use Rattle.std.specs.Option.{option_map}
use Rattle.warg_crypto.specs.declared.coding.DecodeError.{DecodeError}
use Rattle.warg_envelope.specs.declared.proto_envelope.error.ParseEnvelopeError.{ParseEnvelopeError}
use Rattle.warg_envelope.specs.Envelopes.{contents_fault_of, envelope_fault_of}
use Rattle.warg_replay.specs.Inputs.{Unread, Unlawful}
use Rattle.warg_envelope.specs.FaultNames.{record_fault_name, envelope_fault_name, error_name}
use Rattle.warg_envelope.specs.Faults.{fault_of}
use Rattle.warg_envelope.specs.declared.proto_envelope.error.ParseEnvelopeError.TheVariants as error
use Rattle.warg_audit.specs.LogAnswers.{cause_name}

-- an error that says a fault has its name
pub error_named : (e : ParseEnvelopeError) → e ≢ error.OutOfMemory → Some (error_name e) ≡ option_map (envelope_fault_name record_fault_name) (envelope_fault_of fault_of e)
error_named (error.ProtobufEnvelope w) other = refl
error_named (error.Contents e) other = refl
error_named (error.KeyID h) other = refl
error_named (error.Signature s) other = refl
error_named error.OutOfMemory other = absurd (other refl)

contents_named : {F : Type 0} (fault_name : F → List ℕ) (fault : Option F)
    → envelope_fault_name fault_name (contents_fault_of fault) ≡ codes "Contents." ++ unwrap_or (option_map fault_name fault) (codes "OutOfMemory")
contents_named fault_name (Some f) = refl
contents_named fault_name None = refl

-- two types that name the faults of contents alike name those of envelopes alike
module _ {F G C : Type 0} (fault_name : F → List ℕ) (other_name : G → List ℕ) (fault_of : DecodeError → Option F) (other_of : DecodeError → Option G)
    (same : (e : DecodeError) → option_map other_name (other_of e) ≡ option_map fault_name (fault_of e)) (offence_name : C → List ℕ) where
  pub parse_named : (e : ParseEnvelopeError) → option_map (envelope_fault_name fault_name) (envelope_fault_of fault_of e)
      ≡ option_map (cause_name other_name offence_name) (option_map Unread (envelope_fault_of other_of e))
  parse_named (error.ProtobufEnvelope w) = refl
  parse_named (error.Contents e) =
      ap Some (contents_named fault_name (fault_of e) ∙ ap (λ (n : Option (List ℕ)). codes "Contents." ++ unwrap_or n (codes "OutOfMemory")) (sym (same e)) ∙ sym (contents_named other_name (other_of e)))
  parse_named (error.KeyID h) = refl
  parse_named (error.Signature s) = refl
  parse_named error.OutOfMemory = refl

-- the name of an offence that an error says is that of the cause
pub offence_named : {F C : Type 0} (fault_name : F → List ℕ) (offence_name : C → List ℕ) (offence : Option C)
    → option_map offence_name offence ≡ option_map (cause_name fault_name offence_name) (option_map Unlawful offence)
offence_named fault_name offence_name None = refl
offence_named fault_name offence_name (Some c) = refl

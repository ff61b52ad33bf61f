-- Envelopes that can't be read.
use Rattle.std.proofs.Common.{◌≡◌, Option, Result, refl}
use Rattle.std.specs.Prelude.{IsErr}
use Rattle.warg_envelope.specs.Faults.{NamesFault}
use Rattle.warg_protocol.specs.Errors.{DecodeError, ParseEnvelopeError}
use Rattle.warg_protocol.specs.Logs.{EnvelopeFault, envelope_fault_of}
use Rattle.warg_protocol.specs.ParseEnvelopeErrors as error

-- bytes whose envelope can't be read are none, if memory was there
pub unread_err : {X F : Type 0} (fault_of : DecodeError → Option F) (said : Result X (EnvelopeFault F)) (e : ParseEnvelopeError)
    → (e ≡ error.OutOfMemory → ⊥) → NamesFault said (envelope_fault_of fault_of e) → IsErr said
unread_err fault_of said (error.ProtobufEnvelope w) there names = rw names refl
unread_err fault_of said (error.Contents d) there names = rw names refl
unread_err fault_of said (error.KeyID h) there names = rw names refl
unread_err fault_of said (error.Signature s) there names = rw names refl
unread_err fault_of said error.OutOfMemory there names = absurd (there refl)

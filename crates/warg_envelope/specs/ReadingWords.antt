-- What bytes say as an envelope, in words that take how its records are read.
use Rattle.std.specs.Prelude.{ℕ, List, Option, Result}
use Rattle.warg_envelope.specs.EnvelopeData.{EnvelopeData, DecodedEnvelope}
use Rattle.warg_envelope.specs.Envelopes as envelope
use Rattle.warg_envelope.specs.Envelopes.{EnvelopeFault}
use Rattle.warg_envelope.specs.Readings.{Reading}
use Rattle.warg_crypto.specs.declared.coding.DecodeError.{DecodeError}
use Rattle.warg_envelope.specs.declared.proto_envelope.error.ParseEnvelopeError.{ParseEnvelopeError}

module _ {C M F : Type 0} {read : List ℕ → Result M F} {meaning : C → M} {fault_of : DecodeError → Option F} (reading : Reading read meaning fault_of) where
  -- the envelope that bytes say, or their first fault
  abbrev pub envelope_in : List ℕ → Result EnvelopeData (EnvelopeFault F)
  envelope_in = envelope.envelope_of read

  -- the record that is held is the one that the content bytes say
  abbrev pub ContentsMatchBytes : DecodedEnvelope C → Type 0
  ContentsMatchBytes e = envelope.ContentsMatchBytes read meaning e

  -- the answer is what the bytes say, out of memory aside
  abbrev pub IsOpening : List ℕ → Result (DecodedEnvelope C) ParseEnvelopeError → Type 0
  IsOpening bytes answer = envelope.IsOpening read meaning fault_of bytes answer

use Rattle.std.proofs.Common.{◌≡◌, Ok, refl}
use Rattle.warg_protobuf.specs.Envelope as outer
use Rattle.warg_envelope.specs.Envelopes.{envelope_message}
use Rattle.warg_envelope.proofs.laws.envelopes_read_back.Goals as goal

pub returns : goal.returns
returns g c = λ e bytes honest is sign.
    let read : outer.envelope_of bytes ≡ Ok (envelope_message e.envelope) = (c.decoding_computes.ensures.envelope bytes).value_converse (envelope_message e.envelope) is in
    rw (read, honest, sign) refl

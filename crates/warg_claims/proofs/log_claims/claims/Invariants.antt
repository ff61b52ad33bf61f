use Rattle.std.proofs.Common.{map, take}
use Rattle.std.specs.Vec.{vec_items}
use Rattle.warg_envelope.specs.Envelopes.{envelope_of}
use Rattle.warg_log_records.specs.Kinds.{IsAccepted, StandsFor}
use Rattle.warg_replay.specs.Inputs.{read_all}
use Rattle.warg_claims.specs.Claimed.{AreClaims, any_signature}
use Rattle.warg_claims.proofs.log_claims.claims.Given as goal

-- the inputs so far have their claims, and the state stands for them
abbrev pub invariant-loop-bytes : goal.invariant-loop-bytes
invariant-loop-bytes g l =
    let k = g.L.Validator.kind in
    let read = envelope_of g.L.Record.Record.read in
    let so_far = take l.bytes-index (map vec_items l.log) in
    record {
      claims : AreClaims k read so_far l.claims.items;
      accepted : IsAccepted k any_signature (read_all read so_far);
      stands : StandsFor k g.L.Validator.view l.state (read_all read so_far);
    }

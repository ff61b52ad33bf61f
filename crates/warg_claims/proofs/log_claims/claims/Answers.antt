use Rattle.std.proofs.Common.{◌≡◌, ◌<◌, ◌≤◌, [], ◌∷◌, ◌++◌, Some, length, map, take, sym, ◌∙◌, arith, rules}
use Rattle.std.specs.Vec.{vec_items}
use Rattle.std.specs.List.{slice_get}
use Rattle.std.proofs.lemmas.List.{length-map}
use Rattle.warg_envelope.specs.Envelopes.{envelope_of, envelope_fault_of}
use Rattle.warg_replay.specs.OutcomeRuns.{cause_named_by}
use Rattle.warg_log_records.proofs.KindWalks.{lawful-accepted}
use Rattle.warg_claims.specs.Claimed.{any_signature}
use Rattle.warg_claims.proofs.ClaimLaws.{claims-front, claims-none, claims-step, claims-whole, refused-at}
use Rattle.warg_claims.proofs.Places.{slice_get-map-at, take-map-next}
use Rattle.warg_claims.proofs.log_claims.claims.Goals as goal

pub loop-bytes-init : goal.loop-bytes-init
loop-bytes-init g c =
    let k = g.L.Validator.kind in
    let laws = g.met.L.Validator.laws in
    let none : c.new-claims.result.items ≡ [] = search rules in
    record {
      claims = rw none (claims-none k (envelope_of g.L.Record.Record.read));
      accepted = lawful-accepted k laws any_signature [] tt;
      stands = c.in-Ok.ensures ∙ sym (laws.by_history any_signature [] tt);
    }

pub loop-bytes-preserved : goal.loop-bytes-preserved
loop-bytes-preserved g c =
    let k = g.L.Validator.kind in
    let read = envelope_of g.L.Record.Record.read in
    let i = c.loop-bytes.bytes-index in
    let log = c.args.log.now in
    let so_far = c.loop-bytes.invariant in
    let more = take-map-next vec_items log i c.bytes-item.result c.as_slice.result.now c.loop-bytes-test.true c.bytes-item.is c.as_slice.ensures.value in
    let next = claims-step k read g.L.Validator.view c.loop-bytes.state c.take_next.new.state (take i (map vec_items log)) c.as_slice.result.now c.loop-bytes.claims.items c.in-Ok-take_next.claim so_far.claims so_far.accepted so_far.stands c.in-Ok-take_next.ensures.claim c.in-Ok-take_next.ensures.taken in
    let pushed : c.push.new.self.items ≡ c.loop-bytes.claims.items ++ c.in-Ok-take_next.claim ∷ [] = search rules in
    record { claims = rw (more, pushed) next.0; accepted = rw more next.1; stands = rw more next.2 }

pub returns-then-is_err-clause-claims : goal.returns-then-is_err-clause-claims
returns-then-is_err-clause-claims g c =
    let k = g.L.Validator.kind in
    let read = envelope_of g.L.Record.Record.read in
    let ss = map vec_items c.args.log.now in
    let here : c.loop-bytes.bytes-index < length ss = rw length-map c.loop-bytes-test.true in
    let kept : c.out_of_memory.result.claims.items ≡ c.loop-bytes.claims.items = search rules in
    rw kept ((claims-front k read ss c.loop-bytes.bytes-index c.loop-bytes.claims.items (omega (arith, here)) c.loop-bytes.invariant.claims).1)

pub returns-in-Err-clause-claims : goal.returns-in-Err-clause-claims
returns-in-Err-clause-claims g c =
    let k = g.L.Validator.kind in
    let read = envelope_of g.L.Record.Record.read in
    let ss = map vec_items c.args.log.now in
    let here : c.loop-bytes.bytes-index < length ss = rw length-map c.loop-bytes-test.true in
    (claims-front k read ss c.loop-bytes.bytes-index c.loop-bytes.claims.items (omega (arith, here)) c.loop-bytes.invariant.claims).1

pub returns-in-Err-clause-end : goal.returns-in-Err-clause-end
returns-in-Err-clause-end g c =
    let k = g.L.Validator.kind in
    let read = envelope_of g.L.Record.Record.read in
    let named_by = cause_named_by (envelope_fault_of g.L.Record.Record.fault_of) g.L.Validator.offence_of in
    let log = c.args.log.now in
    let ss = map vec_items log in
    let i = c.loop-bytes.bytes-index in
    let here : i < length ss = rw length-map c.loop-bytes-test.true in
    let front = claims-front k read ss i c.loop-bytes.claims.items (omega (arith, here)) c.loop-bytes.invariant.claims in
    let at : slice_get ss i ≡ Some c.as_slice.result.now = slice_get-map-at vec_items log i c.bytes-item.result c.as_slice.result.now c.loop-bytes-test.true c.bytes-item.is c.as_slice.ensures.value in
    rw front.0 (refused-at k read named_by (g.L.Validator.view c.loop-bytes.state) ss i c.as_slice.result.now c.in-Err.cause at c.loop-bytes.invariant.stands c.in-Err.ensures.refused)

pub returns-clause-claims : goal.returns-clause-claims
returns-clause-claims g c =
    let ss = map vec_items c.args.log.now in
    let past : length ss ≤ c.loop-bytes.bytes-index = rw length-map c.loop-bytes-test.false in
    (claims-whole g.L.Validator.kind (envelope_of g.L.Record.Record.read) ss c.loop-bytes.bytes-index c.loop-bytes.claims.items past c.loop-bytes.invariant.claims).1

pub returns-clause-end : goal.returns-clause-end
returns-clause-end g c =
    let ss = map vec_items c.args.log.now in
    let past : length ss ≤ c.loop-bytes.bytes-index = rw length-map c.loop-bytes-test.false in
    (claims-whole g.L.Validator.kind (envelope_of g.L.Record.Record.read) ss c.loop-bytes.bytes-index c.loop-bytes.claims.items past c.loop-bytes.invariant.claims).0

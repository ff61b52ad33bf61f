use Rattle.std.proofs.Common.{sym, ◌∙◌}
use Rattle.std.proofs.lemmas.Result.{err_from_is_err_and}
use Rattle.warg_protobuf.specs.Envelope.{borrowed_envelope}
use Rattle.warg_protobuf.proofs.Finishing.{view_computes, view_is, view_fails}
use Rattle.warg_protobuf.proofs.envelope.Envelope.view.Goals as goal

pub returns-in_err-read_into-clause-fault : goal.returns-in_err-read_into-clause-fault
returns-in_err-read_into-clause-fault c =
    let p = err_from_is_err_and c.from_residual.result c.from_residual.ensures.1 in
    let e = c.in_err-read_into.field-0.0 in
    rw (p.1, p.2) ((view_computes c.args.bytes.now).fault e (view_fails c.args.bytes.now e c.in_err-read_into.ensures.given c.in_err-read_into.ensures.memory))

pub returns-in_err-read_into-clause-only : goal.returns-in_err-read_into-clause-only
returns-in_err-read_into-clause-only c =
    let p = err_from_is_err_and c.from_residual.result c.from_residual.ensures.1 in
    let e = c.in_err-read_into.field-0.0 in
    rw (p.1, p.2) (λ v h. sym ((view_computes c.args.bytes.now).value_converse v h) ∙ view_fails c.args.bytes.now e c.in_err-read_into.ensures.given c.in_err-read_into.ensures.memory)

pub returns-in_err-read_into-clause-only_fault : goal.returns-in_err-read_into-clause-only_fault
returns-in_err-read_into-clause-only_fault c =
    let p = err_from_is_err_and c.from_residual.result c.from_residual.ensures.1 in
    let e = c.in_err-read_into.field-0.0 in
    rw (p.1, p.2) (λ d h. sym ((view_computes c.args.bytes.now).fault_converse d h) ∙ view_fails c.args.bytes.now e c.in_err-read_into.ensures.given c.in_err-read_into.ensures.memory)

pub returns-clause-found : goal.returns-clause-found
returns-clause-found c = (view_computes c.args.bytes.now).value (borrowed_envelope c.read_into.new.draft) (view_is c.args.bytes.now (borrowed_envelope c.read_into.new.draft) c.in_ok-read_into.ensures.given)

pub returns-clause-only : goal.returns-clause-only
returns-clause-only c = λ v h. sym ((view_computes c.args.bytes.now).value_converse v h) ∙ view_is c.args.bytes.now (borrowed_envelope c.read_into.new.draft) c.in_ok-read_into.ensures.given

pub returns-clause-only_fault : goal.returns-clause-only_fault
returns-clause-only_fault c = λ e h. sym ((view_computes c.args.bytes.now).fault_converse e h) ∙ view_is c.args.bytes.now (borrowed_envelope c.read_into.new.draft) c.in_ok-read_into.ensures.given

pub returns-clause-computed : goal.returns-clause-computed
returns-clause-computed c = view_is c.args.bytes.now (borrowed_envelope c.read_into.new.draft) c.in_ok-read_into.ensures.given

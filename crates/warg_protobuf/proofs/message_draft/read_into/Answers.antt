use Rattle.std.proofs.Common.{sym, ap, ◌∙◌}
use Rattle.std.proofs.lemmas.Result.{err_from_is_err_and}
use Rattle.warg_protobuf.specs.Reading.{fields_of}
use Rattle.warg_protobuf.specs.Values.{kept_of}
use Rattle.warg_protobuf.specs.Views.{field_view}
use Rattle.warg_protobuf.proofs.Cutting.{Fails-from, field_shorter, some_left, none_left}
use Rattle.warg_protobuf.proofs.Keeping.{keep_goes_on, keep_done, keep_fails}
use Rattle.warg_protobuf.proofs.Judged.{field_grown, field_cut_short, grown_fails, no_want}
use Rattle.warg_protobuf.proofs.message_draft.read_into.Goals as goal

pub returns-in_err-field-clause-given : goal.returns-in_err-field-clause-given
returns-in_err-field-clause-given g c =
    let T = g.D.MessageDraft.table in
    let with_field = g.D.MessageDraft.with_field in
    let rest = c.loop-rest.rest.now in
    let e = c.in_err-field.field-0.0 in
    let total = kept_of with_field (g.D.MessageDraft.kept_data c.args.draft.now) (fields_of T c.args.bytes.now) in
    let p = err_from_is_err_and c.from_residual.result c.from_residual.ensures.1 in
    rw (p.1, p.2) (Fails-from e total (keep_fails T with_field (g.D.MessageDraft.kept_data c.loop-rest.draft) rest total c.loop-rest.invariant e (some_left _ _ c.is_empty.ensures c.loop-rest-test.true) (field_cut_short T rest e c.in_err-field.ensures)))

pub returns-in_err-field-clause-memory : goal.returns-in_err-field-clause-memory
returns-in_err-field-clause-memory g c =
    let T = g.D.MessageDraft.table in
    let p = err_from_is_err_and c.from_residual.result c.from_residual.ensures.1 in
    rw (p.1, p.2) (no_want g.D.MessageDraft.TakesMemory T c.loop-rest.rest.now c.in_err-field.field-0.0 (some_left _ _ c.is_empty.ensures c.loop-rest-test.true) c.in_err-field.ensures)

pub returns-in_err-grow-clause-given : goal.returns-in_err-grow-clause-given
returns-in_err-grow-clause-given g c =
    let T = g.D.MessageDraft.table in
    let with_field = g.D.MessageDraft.with_field in
    let rest = c.loop-rest.rest.now in
    let kept = g.D.MessageDraft.kept_data c.loop-rest.draft in
    let f = field_view c.in_ok-field.field in
    let total = kept_of with_field (g.D.MessageDraft.kept_data c.args.draft.now) (fields_of T c.args.bytes.now) in
    let p = err_from_is_err_and c.from_residual-in_err-grow.result c.from_residual-in_err-grow.ensures.1 in
    rw (p.1, p.2) (grown_fails T with_field kept (with_field kept f) rest total c.loop-rest.invariant f c.in_ok-field.after.now c.in_err-grow.field-0.0 (some_left _ _ c.is_empty.ensures c.loop-rest-test.true) c.in_ok-field.ensures c.in_err-grow.ensures.given)

pub loop-rest-smaller : goal.loop-rest-smaller
loop-rest-smaller g c =
    let T = g.D.MessageDraft.table in
    let f = field_view c.in_ok-field.field in
    let kept = g.D.MessageDraft.kept_data c.loop-rest.draft in
    field_shorter T c.loop-rest.rest.now f c.in_ok-field.after.now
    (field_grown T c.loop-rest.rest.now f c.in_ok-field.after.now (g.D.MessageDraft.with_field kept f) (g.D.MessageDraft.kept_data c.grow.new.self) c.in_ok-field.ensures c.in_ok-grow.ensures.given).0

pub loop-rest-preserved : goal.loop-rest-preserved
loop-rest-preserved g c =
    let T = g.D.MessageDraft.table in
    let with_field = g.D.MessageDraft.with_field in
    let f = field_view c.in_ok-field.field in
    let kept = g.D.MessageDraft.kept_data c.loop-rest.draft in
    let after = c.in_ok-field.after.now in
    let total = kept_of with_field (g.D.MessageDraft.kept_data c.args.draft.now) (fields_of T c.args.bytes.now) in
    let grown = field_grown T c.loop-rest.rest.now f after (with_field kept f) (g.D.MessageDraft.kept_data c.grow.new.self) c.in_ok-field.ensures c.in_ok-grow.ensures.given in
    ap (λ (k : _). kept_of with_field k (fields_of T after)) (sym grown.1)
    ∙ keep_goes_on T with_field kept c.loop-rest.rest.now total c.loop-rest.invariant f after grown.0

pub returns-clause-given : goal.returns-clause-given
returns-clause-given g c =
    let T = g.D.MessageDraft.table in
    let with_field = g.D.MessageDraft.with_field in
    let total = kept_of with_field (g.D.MessageDraft.kept_data c.args.draft.now) (fields_of T c.args.bytes.now) in
    keep_done T with_field (g.D.MessageDraft.kept_data c.loop-rest.draft) c.loop-rest.rest.now total c.loop-rest.invariant (none_left _ _ c.is_empty.ensures c.loop-rest-test.false)

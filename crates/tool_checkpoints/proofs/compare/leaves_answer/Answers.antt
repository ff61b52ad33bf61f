use Rattle.std.proofs.Common.{Err}
use Rattle.std.proofs.lemmas.Result.{err_from_is_err_and}
use Rattle.tool_checkpoints.specs.Comparisons.{AreLeavesCompared, IsByLeaf}
use Rattle.tool_checkpoints.specs.Words.{IsNumber, by_value}
use Rattle.tool_checkpoints.proofs.ViewLemmas.{by_leaf, leaf_read, leaf_unread}
use Rattle.tool_checkpoints.proofs.WordLemmas.{words_said, words_unsaid}
use Rattle.tool_checkpoints.proofs.compare.leaves_answer.Goals as goal

pub returns-in_err-place-clause-answered : goal.returns-in_err-place-clause-answered
returns-in_err-place-clause-answered g c =
    let p = err_from_is_err_and c.from_residual.result c.from_residual.ensures.1 in
    let end = c.in_err-place.field-0.0 in
    rw (p.1, p.2) (
    words_unsaid (IsNumber c.args.place.now) _ end c.in_err-place.ensures.err)

pub returns-in_err-old-clause-answered : goal.returns-in_err-old-clause-answered
returns-in_err-old-clause-answered g c =
    let p = err_from_is_err_and c.from_residual-in_err-old.result c.from_residual-in_err-old.ensures.1 in
    let end = c.in_err-old.field-0.0 in
    rw (p.1, p.2) (
    words_said (IsNumber c.args.place.now) _ c.in_ok-place.place (Err end) c.in_ok-place.ensures.ok (
    leaf_unread _ c.args.old.now (λ before. IsByLeaf (g.S.Store.files c.args.store.now) c.args.new.now (AreLeavesCompared c.in_ok-place.place before)) end
    c.in_err-old.ensures.err))

pub returns-in_err-new-clause-answered : goal.returns-in_err-new-clause-answered
returns-in_err-new-clause-answered g c =
    let p = err_from_is_err_and c.from_residual-in_err-new.result c.from_residual-in_err-new.ensures.1 in
    let end = c.in_err-new.field-0.0 in
    rw (p.1, p.2) (
    words_said (IsNumber c.args.place.now) _ c.in_ok-place.place (Err end) c.in_ok-place.ensures.ok (
    leaf_read _ c.args.old.now (λ before. IsByLeaf (g.S.Store.files c.args.store.now) c.args.new.now (AreLeavesCompared c.in_ok-place.place before))
    c.in_ok-old.old (Err end) c.in_ok-old.ensures.ok (
    leaf_unread _ c.args.new.now (AreLeavesCompared c.in_ok-place.place c.in_ok-old.old) end
    (rw c.in_ok-old.ensures.kept at c.in_err-new.ensures.err))))

pub returns-clause-answered : goal.returns-clause-answered
returns-clause-answered g c =
    by_value c.in_ok-place.place c.in_ok-place.ensures.ok (
    by_leaf _ c.args.old.now (λ before. IsByLeaf (g.S.Store.files c.args.store.now) c.args.new.now (AreLeavesCompared c.in_ok-place.place before))
    c.in_ok-old.old _ c.in_ok-old.ensures.ok (
    by_leaf _ c.args.new.now (AreLeavesCompared c.in_ok-place.place c.in_ok-old.old) c.in_ok-new.new _
    (rw c.in_ok-old.ensures.kept at c.in_ok-new.ensures.ok)
    c.in_ok-leaves_line.ensures))

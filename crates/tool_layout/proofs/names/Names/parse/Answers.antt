use Rattle.std.proofs.Common.{length, rules}
use Rattle.std.specs.Str.Lines.{lines}
use Rattle.std.proofs.lemmas.Iterator.Consumers.{YieldsList-end, YieldsList-from_enumerate, YieldsList-turn}
use Rattle.std.proofs.lemmas.Iterator.Splits.{YieldsList-from_lines}
use Rattle.tool_layout.proofs.LineLemmas.{at_turn}
use Rattle.tool_layout.proofs.NameLemmas.{fault-told, names-end, names-turn}
use Rattle.tool_layout.proofs.names.Names.parse.Goals as goal

pub returns-in-Err-clause-err : goal.returns-in-Err-clause-err
returns-in-Err-clause-err c =
    let ls = lines c.args.text.now in
    let turn = YieldsList-turn (YieldsList-from_enumerate (YieldsList-from_lines c.args.text.now (search rules)) (search rules)) c.loop-place.yielded _ c.loop-place.yielded_by _ _ (c.in-Some.place, c.in-Some.line) c.in-Some.is c.next.ensures.steps in
    let at = at_turn ls (length c.loop-place.yielded) c.in-Some.place c.in-Some.line.now turn.0 turn.1 in
    fault-told ls _ _ _ _ _ _ at c.loop-place.invariant.2 c.in-Err.ensures.err

pub loop-place-preserved : goal.loop-place-preserved
loop-place-preserved c =
    let ls = lines c.args.text.now in
    let turn = YieldsList-turn (YieldsList-from_enumerate (YieldsList-from_lines c.args.text.now (search rules)) (search rules)) c.loop-place.yielded _ c.loop-place.yielded_by _ _ (c.in-Some.place, c.in-Some.line) c.in-Some.is c.next.ensures.steps in
    let at = at_turn ls (length c.loop-place.yielded) c.in-Some.place c.in-Some.line.now turn.0 turn.1 in (
      search rules,
      search rules,
      names-turn ls c.loop-place.yielded (c.in-Some.place, c.in-Some.line) _ _ _ _ _ at c.loop-place.invariant.2 c.in_default.ensures.added,
    )

pub returns-clause-ok : goal.returns-clause-ok
returns-clause-ok c =
    let end = YieldsList-end (YieldsList-from_enumerate (YieldsList-from_lines c.args.text.now (search rules)) (search rules)) c.loop-place.yielded _ c.loop-place.yielded_by _ _ c.in-None.is c.next.ensures.steps in
    names-end (lines c.args.text.now) (length c.loop-place.yielded) _ _ end.1 c.loop-place.invariant.2

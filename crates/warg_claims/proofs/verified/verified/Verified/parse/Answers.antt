use Rattle.std.proofs.Common.{length, rules}
use Rattle.std.specs.Str.Lines.{lines}
use Rattle.std.proofs.lemmas.Iterator.Consumers.{YieldsList-end, YieldsList-from_enumerate, YieldsList-turn}
use Rattle.std.proofs.lemmas.Iterator.Splits.{YieldsList-from_lines}
use Rattle.warg_claims.proofs.VerifiedLemmas.TextLemmas.{first-fault, at-turn, read-turn, read-end}
use Rattle.warg_claims.proofs.verified.verified.Verified.parse.Goals as goal

pub returns-in-Err-clause-err : goal.returns-in-Err-clause-err
returns-in-Err-clause-err c =
    let ls = lines c.args.text.now in
    let turn = YieldsList-turn (YieldsList-from_enumerate (YieldsList-from_lines c.args.text.now (search rules)) (search rules)) c.loop-line.yielded _ c.loop-line.yielded_by _ _ (c.in-Some.line, c.in-Some.claim) c.in-Some.is c.next.ensures.steps in
    let at = at-turn ls (length c.loop-line.yielded) c.in-Some.line c.in-Some.claim.now turn.0 turn.1 in
    first-fault ls _ _ _ _ _ at c.loop-line.invariant.2 c.in-Err.ensures.err

pub loop-line-preserved : goal.loop-line-preserved
loop-line-preserved c =
    let ls = lines c.args.text.now in
    let turn = YieldsList-turn (YieldsList-from_enumerate (YieldsList-from_lines c.args.text.now (search rules)) (search rules)) c.loop-line.yielded _ c.loop-line.yielded_by _ _ (c.in-Some.line, c.in-Some.claim) c.in-Some.is c.next.ensures.steps in
    let at = at-turn ls (length c.loop-line.yielded) c.in-Some.line c.in-Some.claim.now turn.0 turn.1 in
    (search rules, search rules, read-turn ls c.loop-line.yielded (c.in-Some.line, c.in-Some.claim) _ _ _ _ at c.loop-line.invariant.2 c.in_default.ensures.added)

pub returns-clause-ok : goal.returns-clause-ok
returns-clause-ok c =
    let ls = lines c.args.text.now in
    let end = YieldsList-end (YieldsList-from_enumerate (YieldsList-from_lines c.args.text.now (search rules)) (search rules)) c.loop-line.yielded _ c.loop-line.yielded_by _ _ c.in-None.is c.next.ensures.steps in
    read-end ls (length c.loop-line.yielded) _ end.1 c.loop-line.invariant.2

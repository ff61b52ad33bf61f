use Rattle.tool_layout.proofs.WordLemmas.{found_name, passed_name}
use Rattle.tool_layout.proofs.names.name_of.Goals as goal

pub returns-then-is_of : goal.returns-then-is_of
returns-then-is_of c =
    found_name c.args.names.now c.loop-it.it-index c.it-item.result c.args.id.now _ _ c.loop-it-test.true c.it-item.is c.if-is_of.ensures
    c.text.ensures c.loop-it.invariant

pub loop-it-preserved : goal.loop-it-preserved
loop-it-preserved c =
    passed_name c.args.names.now c.loop-it.it-index c.it-item.result c.args.id.now _ c.loop-it-test.true c.it-item.is c.if-is_of.ensures
    c.loop-it.invariant

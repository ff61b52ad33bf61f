use Rattle.std.proofs.Common.{sym}
use Rattle.warg_audit.specs.Files.Lines.{lines_of}
use Rattle.tool_checkpoints.proofs.RegistryLemmas.{all_read, none_read, one_read, unread_at}
use Rattle.tool_checkpoints.proofs.leaves.trees_of_text.Goals as goal

pub loop-rest-init : goal.loop-rest-init
loop-rest-init c = none_read (lines_of c.args.text.now) _ _ c.new-trees.ensures

pub loop-rest-preserved : goal.loop-rest-preserved
loop-rest-preserved c =
    one_read (lines_of c.args.text.now) (lines_of c.loop-rest.rest.now) (lines_of c.cut_line.result.1.now) c.cut_line.result.0.now
    c.in-Some.leaf _ _ c.loop-rest.trees.heads.items c.push.new.self.heads.items
    c.cut_line.ensures.line c.in-Some.ensures c.in_ok-push.ensures.log c.in_ok-push.ensures.heads c.loop-rest.invariant

pub returns-clause-ok : goal.returns-clause-ok
returns-clause-ok c = all_read (lines_of c.args.text.now) _ c.loop-rest.rest.now _ (sym c.loop-rest-test.ensures) c.loop-rest.invariant

pub returns-in_default-clause-err : goal.returns-in_default-clause-err
returns-in_default-clause-err c =
    unread_at (lines_of c.args.text.now) (lines_of c.loop-rest.rest.now) (lines_of c.cut_line.result.1.now) _ c.cut_line.result.0.now _
    c.no_leaf.result c.cut_line.ensures.line c.in_default.ensures c.loop-rest.invariant c.no_leaf.ensures

use Rattle.weoldrin.proofs.RequestLemmas.{json_rendered}
use Rattle.weoldrin.proofs.commands.render_in.Goals as goal

pub returns-then-invocation : goal.returns-then-invocation
returns-then-invocation c =
    rw c.if-invocation.true (json_rendered c.json_answer.result c.args.invocation.now.command.now c.args.answer c.json_answer.ensures.given
    c.json_answer.ensures.told)

pub returns-else-invocation : goal.returns-else-invocation
returns-else-invocation c = rw c.if-invocation.false c.laid_out.ensures.laid

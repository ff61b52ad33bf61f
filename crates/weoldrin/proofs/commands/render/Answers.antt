use Rattle.weoldrin.proofs.RequestLemmas.{json_rendered}
use Rattle.weoldrin.proofs.commands.render.Goals as goal

pub returns-then-is_json : goal.returns-then-is_json
returns-then-is_json c =
    rw c.if-is_json.true (json_rendered c.json_answer.result c.args.command.now c.args.answer c.json_answer.ensures.given c.json_answer.ensures.told)

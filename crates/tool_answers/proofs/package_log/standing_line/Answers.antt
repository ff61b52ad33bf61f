use Rattle.std.proofs.lemmas.Result.{IfOk-weaker}
use Rattle.tool_answers.proofs.package_log.standing_line.Goals as goal

pub returns-in-Released : goal.returns-in-Released
returns-in-Released c = rw c.in-Released.is c.released_line.ensures

pub returns-in_ok-time-in-Yanked : goal.returns-in_ok-time-in-Yanked
returns-in_ok-time-in-Yanked c =
    rw c.in-Yanked.is (IfOk-weaker c.yanked_line.result _ _ (λ line is. (c.as_str.result.now, rw c.as_str.ensures.value c.in_ok-time-in-Yanked.ensures, is)) c.yanked_line.ensures)

use Rattle.std.proofs.Common.{rules, IsErr}
use Rattle.std.proofs.lemmas.Result.{IfOk-weaker}
use Rattle.warg_crypto.specs.Time.TimeText.{time_of}
use Rattle.tool_changes.specs.Make.TimeWords.{by_date}
use Rattle.tool_changes.proofs.make.time_words.said_time.Goals as goal

pub returns-in-Err-clause-ok : goal.returns-in-Err-clause-ok
returns-in-Err-clause-ok c =
    let none : IsErr (time_of c.args.word.now) = search rules in
    IfOk-weaker c.dated.result _ _ (λ time it. by_date none it.0 it.1.0 it.1.1) c.dated.ensures.ok

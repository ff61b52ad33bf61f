use Rattle.std.specs.Prelude.{Ok, Err, ⊤}
use Rattle.std.proofs.Common.{rules, sym}
use Rattle.warg_crypto.proofs.TimeLemmas.NumberTexts.{number_of-parsed}
use Rattle.tool_words.proofs.RuleLemmas.{number_plain}
use Rattle.tool_words.proofs.rules.number.Goals as goal

pub returns-in-Ok : goal.returns-in-Ok
returns-in-Ok c =
    sym (number_plain c.args.digits.now _ (search rules) (number_of-parsed {E = ⊤} 64 c.args.digits.now (Ok c.in-Ok.number) c.in-Ok.ensures.value.0))

pub returns-in-Err : goal.returns-in-Err
returns-in-Err c =
    sym (number_plain c.args.digits.now _ (search rules) (number_of-parsed 64 c.args.digits.now (Err c.in-Err.field-0) c.in-Err.ensures.value.0))

use Rattle.std.proofs.Common.{rules, refl}
use Rattle.tool_changes.proofs.MakeLemmas.WordLemmas.{a_space, no_space}
use Rattle.tool_changes.proofs.make.entries.first_word.Goals as goal

pub returns-in-Some : goal.returns-in-Some
returns-in-Some c = (a_space c.args.text.now (search rules), search rules, search rules)

pub returns-in-None : goal.returns-in-None
returns-in-None c = (no_space c.args.text.now (search rules), refl)

use Rattle.std.proofs.Common.{rules}
use Rattle.tool_changes.proofs.MakeLemmas.WordLemmas.{no_rest, whole_word}
use Rattle.tool_changes.proofs.make.entries.word_and_rest.Goals as goal

pub returns-in-None-clause-word : goal.returns-in-None-clause-word
returns-in-None-clause-word c = whole_word c.args.text.now (search rules)

pub returns-in-None-clause-rest : goal.returns-in-None-clause-rest
returns-in-None-clause-rest c = no_rest c.args.text.now (search rules)

use Rattle.std.proofs.Common.{rules}
use Rattle.tool_answers.proofs.operator_log.namespace_words.Goals as goal

pub returns-in-Defined : goal.returns-in-Defined
returns-in-Defined c = rw c.in-Defined.is (search rules)

pub returns-in-Imported : goal.returns-in-Imported
returns-in-Imported c = rw c.in-Imported.is (search rules)

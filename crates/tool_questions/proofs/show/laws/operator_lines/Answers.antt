use Rattle.tool_answers.specs.ShownWords.{says_operator_words, shows_namespaces}
use Rattle.tool_questions.proofs.ShowLemmas.LineLemmas.{log_lines, namespaces_text}
use Rattle.tool_questions.proofs.show.laws.operator_lines.Goals as goal

pub returns : goal.returns
returns c = log_lines says_operator_words shows_namespaces namespaces_text

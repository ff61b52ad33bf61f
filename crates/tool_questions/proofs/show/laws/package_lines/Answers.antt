use Rattle.tool_answers.specs.ShownWords.{says_package_words, shows_releases}
use Rattle.tool_questions.proofs.ShowLemmas.LineLemmas.{log_lines, releases_text}
use Rattle.tool_questions.proofs.show.laws.package_lines.Goals as goal

pub returns : goal.returns
returns c = log_lines says_package_words shows_releases releases_text

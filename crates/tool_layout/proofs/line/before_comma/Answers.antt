use Rattle.std.proofs.Common.{arith}
use Rattle.std.proofs.lemmas.Str.Pattern.{strip_suffix_char}
use Rattle.tool_layout.proofs.WordLemmas.{stripped}
use Rattle.tool_layout.proofs.line.before_comma.Goals as goal

pub returns : goal.returns
returns c =
    stripped c.args.word.now c.strip_suffix.result
    (strip_suffix_char 44 c.args.word.now c.strip_suffix.result c.strip_suffix.ensures.cases (omega arith))

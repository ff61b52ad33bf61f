use Rattle.std.proofs.Common.{◌≡◌, drop}
use Rattle.tool_words.specs.Invocations.{has_help}
use Rattle.tool_words.specs.Requests.{texts}
use Rattle.tool_words.proofs.pleas.has_help.Given as goal

-- no word so far asks for help, nor ends the options
abbrev pub invariant-loop-text : goal.invariant-loop-text
invariant-loop-text l = has_help (texts l.words) ≡ has_help (texts (drop l.text-index l.words))

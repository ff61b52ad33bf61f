use Rattle.std.proofs.Common.{◌≡◌, drop}
use Rattle.tool_words.specs.Invocations.{has_json}
use Rattle.tool_words.specs.Requests.{texts}
use Rattle.tool_words.proofs.pleas.has_json.Given as goal

-- no word so far asks for JSON, nor ends the options
abbrev pub invariant-loop-text : goal.invariant-loop-text
invariant-loop-text l = has_json (texts l.words) ≡ has_json (texts (drop l.text-index l.words))

use Rattle.std.proofs.Common.{◌≡◌, drop, Some}
use Rattle.tool_words.specs.Parts.{and_words, parts_of, whole}
use Rattle.tool_words.specs.PartsViews.{parts_view}
use Rattle.tool_words.specs.Requests.{texts}
use Rattle.tool_words.proofs.parts.Parts.of.Given as goal

-- the parts are what the words to come make of those so far
abbrev pub invariant-loop-word : goal.invariant-loop-word
invariant-loop-word l = parts_of l.command (texts l.words) ≡ whole (and_words l.command (texts (drop l.word-index l.words)) (Some (parts_view l.parts)))

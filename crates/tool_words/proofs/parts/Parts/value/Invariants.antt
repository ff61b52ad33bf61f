use Rattle.std.proofs.Common.{◌≡◌, drop, map}
use Rattle.tool_words.specs.Parts.{value}
use Rattle.tool_words.specs.PartsViews.{given_view}
use Rattle.tool_words.proofs.parts.Parts.value.Given as goal

-- the option is none of those so far
abbrev pub invariant-loop-option : goal.invariant-loop-option
invariant-loop-option l = value l.name (map given_view l.self.given.items) ≡ value l.name (map given_view (drop l.option-index l.option-items))

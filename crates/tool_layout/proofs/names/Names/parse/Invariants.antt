use Rattle.std.proofs.Common.{◌≡◌, ◌+◌, drop, length}
use Rattle.std.specs.Str.Lines.{lines}
use Rattle.tool_layout.specs.Names.{in_front, names_from, names_of}
use Rattle.tool_layout.proofs.names.Names.parse.Given as goal

-- what is read so far, in front of what is left
abbrev pub invariant-loop-place : goal.invariant-loop-place
invariant-loop-place l =
    (goal.iterator-loop-place).can_next l.place-iterator
    × (goal.iterator-loop-place).is_finite l.place-iterator
    × (in_front l.names (names_from (length l.yielded + 1) (drop (length l.yielded) (lines l.text))) ≡ names_of l.text)

use Rattle.std.proofs.Common.{◌≡◌, length, string_bytes, take}
use Rattle.std.specs.Str.Lines.{lines}
use Rattle.warg_printable.specs.Lines.{with_ends}
use Rattle.tool_layout.specs.Chains.{chain_lines}
use Rattle.tool_layout.proofs.chain.chain_layout.Given as goal

-- the lines so far
abbrev pub invariant-loop-place : goal.invariant-loop-place
invariant-loop-place l =
    (goal.iterator-loop-place).can_next l.place-iterator
    × (goal.iterator-loop-place).is_finite l.place-iterator
    × (string_bytes l.laid ≡ with_ends (chain_lines l.look 0 (take (length l.yielded) (lines l.text))))

use Rattle.std.proofs.Common.{◌≡◌, ◌++◌, map, string_bytes}
use Rattle.std.specs.List.{join_with_byte}
use Rattle.tool_layout.specs.Layouts.{laid_word}
use Rattle.tool_layout.proofs.LineLemmas.{parting_behind}
use Rattle.tool_layout.proofs.line.push_line.Given as goal

-- the words so far, and what parts the next from them
abbrev pub invariant-loop-word : goal.invariant-loop-word
invariant-loop-word l =
    (l.parting ≡ parting_behind l.yielded)
    × (string_bytes l.laid ≡ string_bytes l.fn.laid ++ join_with_byte 32 (map (laid_word l.look) (map (λ it. it.now) l.yielded)))

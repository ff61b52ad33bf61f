use Rattle.std.proofs.Common.{◌≡◌, ◌++◌, string_bytes}
use Rattle.tool_answers.specs.ShownWords.{key_lines}
use Rattle.tool_answers.proofs.wording.push_key_lines.Given as goal

-- the lines so far, and those of the keys that are left, are all
abbrev pub invariant-loop-key : goal.invariant-loop-key
invariant-loop-key g l =
    string_bytes l.text ++ key_lines g.P.LogPermission.text_of l.key-iterator
    ≡ string_bytes l.fn.text ++ key_lines g.P.LogPermission.text_of l.fn.keys

use Rattle.std.proofs.Common.{◌≡◌, ◌++◌, string_bytes}
use Rattle.tool_answers.specs.ShownWords.{namespace_lines}
use Rattle.tool_answers.proofs.operator_log.push_namespace_lines.Given as goal

-- the lines so far, and those of the namespaces that are left, are all
abbrev pub invariant-loop-name : goal.invariant-loop-name
invariant-loop-name l =
    string_bytes l.text ++ namespace_lines l.name-iterator ≡ string_bytes l.fn.text ++ namespace_lines l.fn.namespaces

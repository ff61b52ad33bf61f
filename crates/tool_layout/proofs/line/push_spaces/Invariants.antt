use Rattle.std.proofs.Common.{◌≡◌, ◌++◌, string_bytes}
use Rattle.tool_layout.specs.Logs.{spaces}
use Rattle.tool_layout.proofs.line.push_spaces.Given as goal

-- the spaces so far
abbrev pub invariant-loop : goal.invariant-loop
invariant-loop l = string_bytes l.laid ≡ string_bytes l.fn.laid ++ spaces l.counter

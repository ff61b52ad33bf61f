use Rattle.std.proofs.Common.{◌≡◌, string_bytes}
use Rattle.std.specs.Prelude.{filter}
use Rattle.warg_audit.specs.Files.RecordLines.{texts}
use Rattle.warg_audit.specs.Files.Texts.{all_lines}
use Rattle.tool_changes.specs.Additions.{is_none_of}
use Rattle.tool_changes.proofs.added_lines.lines_without.Given as goal

-- what is kept of the lines so far
abbrev pub invariant-loop-line : goal.invariant-loop-line
invariant-loop-line l = string_bytes l.kept ≡ all_lines (filter (is_none_of (texts l.known)) (texts l.yielded))

use Rattle.std.proofs.Common.{◌≡◌, ◌++◌, IsUtf8, string_bytes}
use Rattle.std.specs.Str.Iter.{chars_rest}
use Rattle.warg_printable.specs.Json.{json_printable}
use Rattle.warg_printable.proofs.json.json_printed.Given as goal

abbrev pub invariant-loop-c : goal.invariant-loop-c
invariant-loop-c l = IsUtf8 (chars_rest l.rest) × (string_bytes l.json ++ json_printable (chars_rest l.rest) ≡ json_printable l.fn.text)

use Rattle.std.proofs.Common.{IsUtf8, string_bytes}
use Rattle.std.specs.Str.Iter.{chars_rest}
use Rattle.warg_printable.proofs.ReadLemmas.{IsReadSoFar}
use Rattle.warg_printable.proofs.read.unprinted.Given as goal

abbrev pub invariant-loop-c : goal.invariant-loop-c
invariant-loop-c l = IsUtf8 (chars_rest l.rest) × IsReadSoFar l.within (string_bytes l.read) (chars_rest l.rest) l.fn.text

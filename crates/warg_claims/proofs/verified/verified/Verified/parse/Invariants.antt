use Rattle.std.proofs.Common.{length, take}
use Rattle.std.specs.Str.Lines.{lines}
use Rattle.warg_claims.specs.Verified.Texts.{IsReadFrom}
use Rattle.warg_claims.proofs.verified.verified.Verified.parse.Given as goal

abbrev pub invariant-loop-line : goal.invariant-loop-line
invariant-loop-line l =
    (goal.iterator-loop-line).can_next l.line-iterator
    × (goal.iterator-loop-line).is_finite l.line-iterator
    × IsReadFrom (take (length l.yielded) (lines l.text)) l.verified

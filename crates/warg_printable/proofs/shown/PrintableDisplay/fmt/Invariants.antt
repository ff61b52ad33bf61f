use Rattle.std.proofs.Common.{◌≡◌, ℕ, List, ◌++◌, IsUtf8}
use Rattle.std.specs.Str.Iter.{chars_rest}
use Rattle.std.specs.Fmt.{HasWrittenStyled, IsFlush}
use Rattle.warg_printable.specs.Printable.{escaped}
use Rattle.warg_printable.proofs.shown.PrintableDisplay.fmt.Given as goal

abbrev pub invariant-loop-c : goal.invariant-loop-c
invariant-loop-c g l =
    IsUtf8 (chars_rest l.rest)
    × (IsFlush l.fn.f → (done : List ℕ) × HasWrittenStyled g.W.Write.write_str_gives l.fn.f done l.f
    × (done ++ escaped l.fn.self.spaces (chars_rest l.rest) ≡ escaped l.fn.self.spaces l.fn.self.text.now))

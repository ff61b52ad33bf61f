use Rattle.std.proofs.Common.{◌≡◌, ℕ, List, ◌++◌}
use Rattle.std.specs.Fmt.{HasWrittenStyled, IsFlush}
use Rattle.std.specs.Slice.Iter.{chunks_rest, chunks_size}
use Rattle.hex.specs.Hex.{encode_lower}
use Rattle.warg_claims.proofs.verified.shown.write_hex.Given as goal

abbrev pub invariant-pieces : goal.invariant-pieces
invariant-pieces g l =
    (goal.iterator-pieces g).can_next l.piece-iterator
    × (goal.iterator-pieces g).is_finite l.piece-iterator
    × (chunks_size l.piece-iterator ≡ 256)
    × (IsFlush l.initial.f → (done : List ℕ) × HasWrittenStyled g.W.Write.write_str_gives l.initial.f done l.f
    × (done ++ encode_lower (chunks_rest l.piece-iterator) ≡ encode_lower l.fn.bytes))

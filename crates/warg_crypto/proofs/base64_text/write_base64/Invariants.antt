use Rattle.std.proofs.Common.{◌≡◌, ℕ, List, ◌++◌}
use Rattle.std.specs.Fmt.{HasWrittenStyled, IsFlush}
use Rattle.std.specs.Slice.Iter.{chunks_rest, chunks_size}
use Rattle.base64.specs.Engines.{standard}
use Rattle.base64.specs.GeneralPurpose.{encode_of}
use Rattle.warg_crypto.proofs.base64_text.write_base64.Given as goal

abbrev pub invariant-pieces : goal.invariant-pieces
invariant-pieces g l =
    (goal.iterator-pieces g).can_next l.piece-iterator
    × (goal.iterator-pieces g).is_finite l.piece-iterator
    × (chunks_size l.piece-iterator ≡ 768)
    × (IsFlush l.initial.f → (done : List ℕ) × HasWrittenStyled g.W.Write.write_str_gives l.initial.f done l.f
    × (done ++ encode_of standard (chunks_rest l.piece-iterator) ≡ encode_of standard l.fn.bytes))

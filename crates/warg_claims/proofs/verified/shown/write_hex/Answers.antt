use Rattle.std.proofs.Common.{◌≡◌, ℕ, List, [], ◌++◌, ap, ◌∙◌, rules, append_assoc, append-nil}
use Rattle.std.proofs.Output.{has_written_styled_append, has_written_styled_of_eq}
use Rattle.std.proofs.lemmas.List.{nil_from_length}
use Rattle.std.proofs.lemmas.Str.{IsUtf8-from_ascii}
use Rattle.std.specs.Slice.Iter.{chunks_rest}
use Rattle.hex.specs.Hex.{encode_lower, lower_digits}
use Rattle.hex.proofs.HexLemmas.{IsAscii-encode_with}
use Rattle.warg_crypto.specs.HashTextLaws.{IsAscii-lower_digits}
use Rattle.warg_claims.proofs.VerifiedLemmas.HexLemmas.{encode_lower-nil, piece_first}
use Rattle.warg_claims.proofs.verified.shown.write_hex.Goals as goal

pub unreachable-requires-in_default-from_utf8 : goal.unreachable-requires-in_default-from_utf8
unreachable-requires-in_default-from_utf8 g c =
    let piece = c.in-Some.piece.now in
    let text : c.encode_to_slice.new.output ≡ encode_lower piece = c.in-Ok.ensures.written in
    c.in_default-from_utf8.ensures.cases.0 (rw text (IsUtf8-from_ascii (encode_lower piece) (IsAscii-encode_with lower_digits piece IsAscii-lower_digits)))

pub pieces-preserved : goal.pieces-preserved
pieces-preserved g c =
    let piece = c.in-Some.piece.now in
    let steps = c.in-Some.ensures.steps in
    let text : c.encode_to_slice.new.output ≡ encode_lower piece = c.in-Ok.ensures.written in
    let size = c.pieces.invariant.2 in
    let shown : c.in-Ok-from_utf8.text.now ≡ encode_lower piece = c.in-Ok-from_utf8.ensures.cases.0 ∙ text in (
      search rules,
      tt,
      steps.0 ∙ size,
      λ flush.
          let so_far = c.pieces.invariant.3 flush in (
            so_far.0 ++ c.in-Ok-from_utf8.text.now,
            has_written_styled_append _ _ _ _ _ _ so_far.1 (search rules),
            append_assoc so_far.0 _ _
                ∙ ap (λ (t : List ℕ). so_far.0 ++ t) (rw shown (piece_first _ piece (chunks_rest c.next.new.self) steps.1.0))
                ∙ so_far.2,
          ),
    )

nothing_left : (done rest want : List ℕ) → rest ≡ [] → done ++ encode_lower rest ≡ want → done ≡ want
nothing_left done rest want none h = rw (none, encode_lower-nil, append-nil) at h

pub returns-clause-styled : goal.returns-clause-styled
returns-clause-styled g c = λ flush _.
    let so_far = c.pieces.invariant.3 flush in
    let none = nil_from_length _ c.in-None.ensures.steps.1.0 in
    has_written_styled_of_eq _ _ _ _ _ (nothing_left _ _ _ none so_far.2) so_far.1

pub returns-clause-writes : goal.returns-clause-writes
returns-clause-writes g c = λ plain ok.
    let styled = returns-clause-styled g c plain.flush ok in
    record { wrote = styled.wrote; plain = record { bare = rw styled.spec plain.bare; flush = styled.flush } }

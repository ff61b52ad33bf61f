use Rattle.std.proofs.Common.{◌≡◌, ℕ, ◌%◌, min, List, [], ◌++◌, length, sym, ap, ◌∙◌, arith, rules, append_assoc, append-nil, length-append, inl, inr}
use Rattle.std.proofs.Output.{has_written_styled_nil, has_written_styled_append, has_written_styled_of_eq}
use Rattle.std.proofs.lemmas.Bool.{cases_lt}
use Rattle.std.proofs.lemmas.List.{nil_from_length}
use Rattle.std.proofs.lemmas.Str.{IsUtf8-from_ascii}
use Rattle.std.specs.Slice.Iter.{chunks_rest}
use Rattle.base64.specs.declared.engine.general_purpose.GeneralPurpose.{GeneralPurpose}
use Rattle.base64.specs.Engines.{standard}
use Rattle.base64.specs.GeneralPurpose.{encode_of}
use Rattle.base64.proofs.EngineFacts.{IsAscii-encode_of, encoded_prefix, encode_of-nil, encode_of-append}
use Rattle.warg_crypto.proofs.base64_text.write_base64.Goals as goal

pub unreachable-requires-in_default-from_utf8 : goal.unreachable-requires-in_default-from_utf8
unreachable-requires-in_default-from_utf8 g c =
    let text = encoded_prefix (encode_of standard c.in-Some.piece.now) c.pieces.buffer c.encode_slice.new.output _ c.in-Ok.len c.encode_slice.result _
    c.encode_slice.auto.output c.encode_slice.ensures.fits c.encode_slice.ensures.too_small c.in-Ok.is c.in-Ok.ensures.written in
    c.in_default-from_utf8.ensures.cases.0 (rw text (IsUtf8-from_ascii (encode_of standard c.in-Some.piece.now) (IsAscii-encode_of standard c.in-Some.piece.now)))

-- a piece is 768 bytes, or the last
piece_first : (e : GeneralPurpose) (all piece rest : List ℕ) → all ≡ piece ++ rest → length piece ≡ min 768 (length all)
    → encode_of e piece ++ encode_of e rest ≡ encode_of e all
piece_first e all piece rest parts size =
    let sum = ap length parts ∙ length-append piece rest in
    elim (cases_lt (length all) 768) [
      | inl short ↦
          let none : rest ≡ [] = nil_from_length rest (omega arith) in
          rw (parts, none, encode_of-nil, append-nil, append-nil)
      | inr long ↦ let whole : length piece % 3 ≡ 0 = omega arith in sym (encode_of-append e piece rest whole) ∙ ap (encode_of e) (sym parts)
    ]

pub pieces-init : goal.pieces-init
pieces-init g c = (search rules, tt, search rules, λ flush. ([], has_written_styled_nil _ _ flush, search rules))

pub pieces-preserved : goal.pieces-preserved
pieces-preserved g c =
    let piece = c.in-Some.piece.now in
    let steps = c.in-Some.ensures.steps in
    let text = encoded_prefix (encode_of standard piece) c.pieces.buffer c.encode_slice.new.output _ c.in-Ok.len c.encode_slice.result _
    c.encode_slice.auto.output c.encode_slice.ensures.fits c.encode_slice.ensures.too_small c.in-Ok.is c.in-Ok.ensures.written in
    let size = c.pieces.invariant.2 in
    let shown : c.in-Ok-from_utf8.text.now ≡ encode_of standard piece = c.in-Ok-from_utf8.ensures.cases.0 ∙ text in (
      search rules,
      tt,
      steps.0 ∙ size,
      λ flush.
          let so_far = c.pieces.invariant.3 flush in (
            so_far.0 ++ c.in-Ok-from_utf8.text.now,
            has_written_styled_append _ _ _ _ _ _ so_far.1 (search rules),
            append_assoc so_far.0 _ _
                ∙ ap (λ (t : List ℕ). so_far.0 ++ t)
                (rw shown (piece_first standard _ piece (chunks_rest c.next.new.self) steps.1.0 (rw size at steps.1.1)))
                ∙ so_far.2,
          ),
    )

nothing_left : (e : GeneralPurpose) (done rest want : List ℕ) → rest ≡ [] → done ++ encode_of e rest ≡ want → done ≡ want
nothing_left e done rest want none h = rw (none, encode_of-nil, append-nil) at h

pub returns-clause-styled : goal.returns-clause-styled
returns-clause-styled g c = λ flush _.
    let so_far = c.pieces.invariant.3 flush in
    let none = nil_from_length _ c.in-None.ensures.steps.1.0 in
    has_written_styled_of_eq _ _ _ _ _ (nothing_left standard _ _ _ none so_far.2) so_far.1

pub returns-clause-writes : goal.returns-clause-writes
returns-clause-writes g c = λ plain ok.
    let styled = returns-clause-styled g c plain.flush ok in
    record { wrote = styled.wrote; plain = record { bare = rw styled.spec plain.bare; flush = styled.flush } }

use Rattle.std.proofs.Common.{Err, inl, inr, sym, ◌∙◌, ap, arith}
use Rattle.std.proofs.lemmas.Result.{err_from_is_err_and}
use Rattle.sha2.specs.Sha256.{sha256}
use Rattle.warg_merkle.specs.MapProof.ShortForms.{path_in}
use Rattle.warg_transparency.specs.Texts.{map_proof_of, read_decoded, text_fault_of, with_text_fault}
use Rattle.warg_transparency.proofs.TextLemmas.{map_read, map_too_long, not_decoded}
use Rattle.warg_transparency.proofs.map_proof.MapProof.parse.Goals as goal

pub returns-then-text-gt-LONGEST_TEXT-clause-value : goal.returns-then-text-gt-LONGEST_TEXT-clause-value
returns-then-text-gt-LONGEST_TEXT-clause-value c = inr (map_too_long c.args.text.now (omega arith))

pub returns-in_err-bytes-clause-value : goal.returns-in_err-bytes-clause-value
returns-in_err-bytes-clause-value c =
    let text = c.args.text.now in
    let told = not_decoded (λ bytes. with_text_fault (path_in sha256 bytes)) c.in_err-bytes.field-0.0 text (map_proof_of text) (map_read text (omega arith)) c.in_err-bytes.ensures.err in
    let p = err_from_is_err_and c.from_residual.result c.from_residual.ensures.1 in
    rw (p.1, p.2) told

pub returns-in-Ok-clause-value : goal.returns-in-Ok-clause-value
returns-in-Ok-clause-value c =
    let text = c.args.text.now in
    map_read text (omega arith)
    ∙ ap (read_decoded (λ bytes. with_text_fault (path_in sha256 bytes))) c.in_ok-bytes.ensures.ok
    ∙ ap with_text_fault (ap (path_in sha256) (sym c.as_slice.ensures.value) ∙ c.in-Ok.ensures.exact)

pub returns-clause-value : goal.returns-clause-value
returns-clause-value c =
    let text = c.args.text.now in
    let read = map_read text (omega arith)
    ∙ ap (read_decoded (λ bytes. with_text_fault (path_in sha256 bytes))) c.in_ok-bytes.ensures.ok
    ∙ ap (λ bytes. with_text_fault (path_in sha256 bytes)) (sym c.as_slice.ensures.value) in
    elim c.in-Err.ensures.exact [
      | inl no_memory ↦ inl (c.fault_of.ensures ∙ ap text_fault_of no_memory)
      | inr fault ↦ inr (read ∙ ap with_text_fault fault ∙ ap (λ f. Err f) (sym c.fault_of.ensures))
    ]

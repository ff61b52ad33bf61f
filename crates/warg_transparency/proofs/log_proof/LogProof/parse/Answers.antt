use Rattle.std.proofs.Common.{◌≡◌, ◌*◌, ◌/◌, ◌≤◌, ℕ, zero, suc, List, Ok, length, drop, inr, refl, sym, ◌∙◌, ap, arith}
use Rattle.std.specs.List.{concat}
use Rattle.std.specs.Simd.{first_chunks}
use Rattle.std.proofs.lemmas.Result.{err_from_is_err_and}
use Rattle.warg_merkle.proofs.MapProofLemmas.Chunks.{length-concat, concat-chunks}
use Rattle.warg_transparency.specs.Texts.{hashes_in, log_proof_of, read_decoded}
use Rattle.warg_transparency.proofs.TextLemmas.{hashes_many, hashes_part, hashes_read, log_read, log_too_long, not_decoded}
use Rattle.warg_transparency.proofs.log_proof.LogProof.parse.Goals as goal
use Rattle.warg_transparency.proofs.log_proof.LogProof.parse.Goals.{then-len-gt2048-via-then-len-gt2048, then-len-gt2048-via-else-len-gt2048+then-len-ne0}

pub returns-then-len-gt2048-clause-bad_length : goal.returns-then-len-gt2048-clause-bad_length
returns-then-len-gt2048-clause-bad_length c = λ e hashes few all decoded.
    let bytes = c.in_ok-bytes.bytes.items in
    let read = c.in_ok-bytes.ensures.ok in
    let same : bytes ≡ concat hashes = cc in
    let size : length bytes ≡ 32 * length hashes = ap length same ∙ length-concat hashes all in
    elim c.then-len-gt2048.branch [
      | then-len-gt2048-via-then-len-gt2048 w ↦ omega arith
      | then-len-gt2048-via-else-len-gt2048+then-len-ne0 w ↦ omega arith
    ]

pub returns-clause-ok : goal.returns-clause-ok
returns-clause-ok c =
    let bytes = c.in_ok-bytes.bytes.items in
    let whole : length bytes ≡ 32 * (length bytes / 32) = omega arith in
    c.in_ok-bytes.ensures.ok ∙ ap (λ b. Ok b) (sym (concat-chunks (length bytes / 32) bytes whole))

chunk_count : (k : ℕ) (xs : List ℕ) → length (first_chunks 32 k xs) ≡ k
chunk_count zero xs = refl
chunk_count (suc k) xs = ap (λ n. suc n) (chunk_count k (drop 32 xs))

pub returns-clause-few : goal.returns-clause-few
returns-clause-few c =
    let bytes = c.in_ok-bytes.bytes.items in
    let count : length (first_chunks 32 (length bytes / 32) bytes) ≡ length bytes / 32 = chunk_count (length bytes / 32) bytes in
    let few : length (first_chunks 32 (length bytes / 32) bytes) ≤ 64 = omega arith in
    few

pub returns-then-text-gt-LONGEST_TEXT-clause-value : goal.returns-then-text-gt-LONGEST_TEXT-clause-value
returns-then-text-gt-LONGEST_TEXT-clause-value c = inr (log_too_long c.args.text.now (omega arith))

pub returns-in_err-bytes-clause-value : goal.returns-in_err-bytes-clause-value
returns-in_err-bytes-clause-value c =
    let text = c.args.text.now in
    let told = not_decoded hashes_in c.in_err-bytes.field-0.0 text (log_proof_of text) (log_read text (omega arith)) c.in_err-bytes.ensures.err in
    let p = err_from_is_err_and c.from_residual.result c.from_residual.ensures.1 in
    rw (p.1, p.2) told

pub returns-then-len-gt2048-clause-value : goal.returns-then-len-gt2048-clause-value
returns-then-len-gt2048-clause-value c =
    let text = c.args.text.now in
    let bytes = c.in_ok-bytes.bytes.items in
    let read = log_read text (omega arith) ∙ ap (read_decoded hashes_in) c.in_ok-bytes.ensures.ok in
    elim c.then-len-gt2048.branch [
      | then-len-gt2048-via-then-len-gt2048 w ↦ inr (read ∙ hashes_many bytes (omega arith))
      | then-len-gt2048-via-else-len-gt2048+then-len-ne0 w ↦ inr (read ∙ hashes_part bytes (omega arith) (λ e. omega arith))
    ]

pub returns-clause-value : goal.returns-clause-value
returns-clause-value c =
    let text = c.args.text.now in
    log_read text (omega arith) ∙ ap (read_decoded hashes_in) c.in_ok-bytes.ensures.ok ∙ hashes_read c.in_ok-bytes.bytes.items (omega arith) (omega arith)

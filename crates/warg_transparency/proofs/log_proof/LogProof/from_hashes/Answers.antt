use Rattle.std.proofs.Common.{◌≡◌, ◌*◌, ◌/◌, ◌++◌, [], length, get_or, take, sym, ◌∙◌, ap, arith}
use Rattle.std.specs.List.{concat}
use Rattle.std.specs.Simd.{first_chunks}
use Rattle.std.proofs.lemmas.List.{take_more}
use Rattle.std.proofs.Math.Seq.{take-length}
use Rattle.warg_merkle.proofs.Sound.{each_long}
use Rattle.warg_merkle.proofs.MapProofLemmas.Chunks.{length-concat, chunks-concat, concat-push}
use Rattle.warg_transparency.proofs.log_proof.LogProof.from_hashes.Goals as goal

pub loop-hash-preserved : goal.loop-hash-preserved
loop-hash-preserved c =
    let items = c.args.hashes.now in
    let at = c.loop-hash.hash-index in
    let hash : c.as_slice.result.now ≡ get_or items at [] = c.as_slice.ensures in (
      omega arith,
      c.in_ok-extend_from_slice.ensures.items
          ∙ ap (λ bytes. bytes ++ c.as_slice.result.now) c.loop-hash.invariant.1
          ∙ ap (λ h. concat (take at items) ++ h) hash
          ∙ sym (concat-push (take at items) (get_or items at []))
          ∙ ap concat (sym (take_more items at [] (omega arith))),
    )

pub invariant_of-result : goal.invariant_of-result
invariant_of-result c =
    let items = c.args.hashes.now in
    let at : c.loop-hash.hash-index ≡ length items = omega arith in
    let whole : c.loop-hash.bytes.items ≡ concat items = c.loop-hash.invariant.1 ∙ ap (λ n. concat (take n items)) at ∙ ap concat (take-length items) in
    let size : length c.loop-hash.bytes.items ≡ 32 * length items = ap length whole ∙ length-concat items (each_long items c.told-hashes) in
    omega arith

pub returns : goal.returns
returns c =
    let items = c.args.hashes.now in
    let at : c.loop-hash.hash-index ≡ length items = omega arith in
    let whole : c.loop-hash.bytes.items ≡ concat items = c.loop-hash.invariant.1 ∙ ap (λ n. concat (take n items)) at ∙ ap concat (take-length items) in
    let size : length c.loop-hash.bytes.items ≡ 32 * length items = ap length whole ∙ length-concat items (each_long items c.told-hashes) in
    let count : length c.loop-hash.bytes.items / 32 ≡ length items = omega arith in
    ap (λ n. first_chunks 32 n c.loop-hash.bytes.items) count ∙ ap (first_chunks 32 (length items)) whole ∙ chunks-concat items (each_long items c.told-hashes)

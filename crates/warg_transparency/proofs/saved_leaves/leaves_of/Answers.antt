use Rattle.std.proofs.Common.{◌≡◌, ◌+◌, ◌*◌, ◌/◌, ◌++◌, ◌∷◌, [], List, ℕ, get_or, length, take, sym, ◌∙◌, ap, subst, arith}
use Rattle.std.specs.List.{All, concat}
use Rattle.std.specs.Simd.{first_chunks}
use Rattle.std.proofs.lemmas.List.{take_more}
use Rattle.std.proofs.lemmas.List.Elements.{All-push}
use Rattle.std.proofs.Math.Seq.{take-length}
use Rattle.warg_registry.specs.declared.leaf.LogLeaf.{LogLeaf}
use Rattle.warg_merkle.proofs.MapProofLemmas.Chunks.{concat-push}
use Rattle.warg_transparency.specs.RegistryTrees.{HasHashes}
use Rattle.warg_transparency.specs.SavedLeaves.{leaf_bytes, saved_form}
use Rattle.warg_transparency.proofs.SavedLeavesLemmas.{joined_pieces, saved_more}
use Rattle.warg_transparency.proofs.saved_leaves.leaves_of.Goals as goal

pub loop-chunk-preserved : goal.loop-chunk-preserved
loop-chunk-preserved c =
    let i = c.loop-chunk.invariant in
    let at = c.loop-chunk.chunk-index in
    let chunks = c.as_chunks.result.0.now in
    let leaf : LogLeaf = c.leaf_of.result in
    let items : c.push.new.self.items ≡ c.loop-chunk.leaves.items ++ leaf ∷ [] = c.in_ok-push.ensures.items in
    record {
      within = omega arith;
      is_form = ap saved_form items
          ∙ saved_more c.loop-chunk.leaves.items leaf
          ∙ ap (λ bytes. bytes ++ leaf_bytes leaf) i.is_form
          ∙ ap (λ bytes. concat (take at chunks) ++ bytes) c.leaf_of.ensures.bytes
          ∙ sym (concat-push (take at chunks) (get_or chunks at []))
          ∙ ap concat (sym (take_more chunks at [] (omega arith)));
      hashes = subst (All HasHashes) (sym items) (All-push HasHashes c.loop-chunk.leaves.items leaf i.hashes c.leaf_of.ensures.hashes);
    }

pub returns : goal.returns
returns c =
    let bytes = c.args.bytes.now in
    let chunks = c.as_chunks.result.0.now in
    let i = c.loop-chunk.invariant in
    let all : c.loop-chunk.chunk-index ≡ length chunks = omega arith in
    let whole : length bytes ≡ 64 * (length bytes / 64) = omega arith in
    record {
      is_form = sym (i.is_form ∙ ap (λ n. concat (take n chunks)) all ∙ ap concat (take-length chunks) ∙ ap concat c.as_chunks.ensures.front ∙ joined_pieces (length bytes / 64) bytes whole);
      hashes = i.hashes;
    }

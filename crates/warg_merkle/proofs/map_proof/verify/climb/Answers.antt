use Rattle.std.proofs.Common.{◌≡◌, ◌+◌, ◌-◌, if◌then◌else◌, [], get_or, suc, refl, sym, ◌∙◌, ap, arith}
use Rattle.sha2.specs.Sha256.{sha256}
use Rattle.sha2.proofs.Facts256.{length-sha256}
use Rattle.warg_merkle.specs.Trees.{Left, Right, climb, step_input}
use Rattle.warg_merkle.specs.SparseMap.Maps.{is_right, sides_up}
use Rattle.warg_merkle.specs.MapProof.ShortForms.{is_left_out, others_above}
use Rattle.warg_merkle.proofs.MapProofLemmas.Forms.{all_full}
use Rattle.warg_merkle.proofs.MapProofLemmas.Steps.{empty_leaf, empty_up}
use Rattle.warg_merkle.proofs.MapProofLemmas.Ups.{end_of, one_up, at_top, some_left, canonical_rest, whole}
use Rattle.warg_merkle.proofs.map_proof.verify.climb.Goals as goal

pub loop-depth-init : goal.loop-depth-init
loop-depth-init c =
    let bits = c.parts.result.0.now in
    let key = c.args.key.now in
    record {
      levels = refl;
      empty = c.digest-empty.ensures ∙ empty_leaf sha256;
      canonical = c.parts.ensures.parts.canonical;
      climbs = whole sha256 key bits c.parts.result.1.now c.args.from ∙ ap (λ path. climb sha256 (sides_up 256 key) path c.args.from) c.parts.ensures.path;
    }

pub next_sibling-requires-clause-some : goal.next_sibling-requires-clause-some
next_sibling-requires-clause-some c = λ stays. some_left sha256 c.loop-depth.depth (c.loop-depth.depth - 1) c.loop-depth.height c.parts.result.0.now c.loop-depth.rest.now (omega arith) c.loop-depth.invariant.canonical stays

pub loop-depth-preserved : goal.loop-depth-preserved
loop-depth-preserved c =
    let bits = c.parts.result.0.now in
    let key = c.args.key.now in
    let n = c.loop-depth.depth in
    let h = c.loop-depth.height in
    let d = n - 1 in
    let os = c.loop-depth.rest.now in
    let one : n ≡ suc d = omega arith in
    let above = c.next_sibling.ensures.above in
    let sibling = c.next_sibling.ensures.sibling ∙ ap (λ e. if is_left_out bits h then e else get_or os 0 []) c.loop-depth.invariant.empty in
    record {
      levels = let levels = c.loop-depth.invariant.levels in omega arith;
      empty = c.node_hash-empty.ensures ∙ empty_up sha256 h (h + 1) c.loop-depth.empty (omega arith) c.loop-depth.invariant.empty;
      canonical = rw above (canonical_rest sha256 n d h (h + 1) bits os one (omega arith) c.loop-depth.invariant.canonical);
      climbs =
          ap (λ rest. end_of sha256 d (h + 1) key bits rest c.hash_above-hash.result) above
          ∙ ap (λ x. end_of sha256 d (h + 1) key bits (others_above h bits os) x) c.hash_above-hash.ensures
          ∙ ap (λ p. end_of sha256 d (h + 1) key bits (others_above h bits os) (sha256 (step_input (if is_right key d then Right else Left) c.loop-depth.hash p))) sibling
          ∙ sym (one_up sha256 n d h (h + 1) key bits os c.loop-depth.hash one (omega arith))
          ∙ c.loop-depth.invariant.climbs;
    }

pub returns-clause-end : goal.returns-clause-end
returns-clause-end c = sym c.loop-depth.invariant.climbs ∙ at_top sha256 c.loop-depth.depth c.loop-depth.height c.args.key.now c.parts.result.0.now c.loop-depth.rest.now c.loop-depth.hash (omega arith)

pub returns-clause-hashes : goal.returns-clause-hashes
returns-clause-hashes c =
    rw (sym c.parts.ensures.path) (all_full sha256 length-sha256 c.parts.result.0.now c.parts.result.1.now c.parts.ensures.parts)

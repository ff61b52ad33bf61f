use Rattle.std.proofs.Common.{◌≡◌, sym, subst, ◌∙◌, ap}
use Rattle.sha2.specs.Sha256.{sha256}
use Rattle.warg_listed_map.specs.ListedMaps.{IsMapOf}
use Rattle.warg_merkle.proofs.SparseMapLemmas.Owning.{own_leads}
use Rattle.warg_merkle.specs.SparseMap.Maps.{Leads, map_path, map_root, way_down}
use Rattle.tool_checkpoints.proofs.ProofTextLemmas.{both_ok}
use Rattle.tool_checkpoints.proofs.prove.head_answer.Goals as goal

pub returns : goal.returns
returns c = λ leaves trees.
    let id = c.args.log_id.now.hash.bytes in
    let m = trees.m in
    let of = subst (λ es. IsMapOf way_down es m) (sym c.as_mut_slice.ensures.value) trees.map in
    let path : c.in_ok-proof.proof ≡ map_path sha256 m (way_down id) =
    c.in_ok-proof.ensures m of ∙ ap (λ key. map_path sha256 m (way_down key)) (c.copy_from_slice.ensures.after ∙ c.as_bytes.ensures.value) in
    both_ok _ _ _ c.map_proof_answer.result c.map_proof_answer.ensures.is c.map_proof_answer.ensures.reads_back
    (λ answer is reads. record {
      m = m;
      heads = trees.registry.heads;
      path = c.in_ok-proof.proof;
      path_is = path;
      is = is;
      shows = subst (λ siblings. Leads sha256 (m (way_down id)) id siblings (map_root sha256 256 m)) (sym path) (own_leads sha256 m id);
      reads_back = reads;
    })

use Rattle.std.proofs.Common.{◌≡◌, sym, subst, ◌∙◌}
use Rattle.std.proofs.lemmas.Result.{IfOk-weaker}
use Rattle.sha2.specs.Sha256.{sha256}
use Rattle.warg_listed_map.specs.ListedMaps.{IsMapOf}
use Rattle.warg_merkle.specs.SparseMap.Maps.{map_root, way_down}
use Rattle.tool_checkpoints.proofs.ProofTextLemmas.{checkpoint_stands}
use Rattle.tool_checkpoints.proofs.prove.checkpoint_answer.Goals as goal

pub returns : goal.returns
returns c = λ leaves trees.
    let of = subst (λ es. IsMapOf way_down es trees.m) (sym c.as_mut_slice.ensures.value) trees.map in
    let root : c.new.result.bytes ≡ map_root sha256 256 trees.m = c.new.ensures.bytes ∙ c.in_ok-root.ensures trees.m of in
    IfOk-weaker c.checkpoint_line.result _ _
    (λ answer is. record {
      checkpoint = record { log_root = c.root.result; log_length = c.len.result; map_root = c.new.result };
      stands = checkpoint_stands leaves _ _ trees.registry _ c.root.ensures c.len.ensures root;
      is = is;
    })
    c.checkpoint_line.ensures

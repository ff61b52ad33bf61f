use Rattle.std.proofs.Common.{◌≡◌, ℕ, List, length, Result, Ok, Err, IfOk, ◌∙◌, ap}
use Rattle.sha2.specs.Sha256.{sha256}
use Rattle.warg_merkle.specs.SparseMap.Maps.{way_down, map_root, map_path, Leads}
use Rattle.warg_merkle.proofs.SparseMapLemmas.Owning.{own_leads}
use Rattle.warg_merkle.specs.declared.sparse_tree.sparse_tree.SparseTree.{SparseTree}
use Rattle.warg_merkle.specs.SparseTree.Nodes.{way_from}
use Rattle.warg_merkle.specs.SparseTree.Stored.{value_at}
use Rattle.warg_merkle.specs.SparseTree.SparseTree.{map_of}
use Rattle.warg_merkle.proofs.SparseTreeLemmas.Ways.{whole_way, length-way_from}
use Rattle.warg_merkle.proofs.SparseTreeLemmas.Behind.{length-map_path}
use Rattle.warg_merkle.proofs.sparse_tree.sparse_tree.SparseTree.proof.Goals as goal

leads_own : {E : Type 0} (tree : SparseTree) (key : List ℕ) (result : Result (List (List ℕ)) E) → IfOk result (λ proof. proof ≡ map_path sha256 (map_of tree) (way_down key)) → IfOk result (λ proof. Leads sha256 (map_of tree (way_down key)) key proof (map_root sha256 256 (map_of tree)))
leads_own tree key (Ok proof) is = rw is (own_leads sha256 (map_of tree) key)
leads_own tree key (Err e) is = is

pub from_path-requires : goal.from_path-requires
from_path-requires c = ap length (c.as_slice-2.ensures.value ∙ c.in_ok-path.ensures) ∙ length-map_path sha256 (value_at 0 c.args.self.now.node) (way_from 256 0 c.args.key.now) ∙ length-way_from 256 0 c.args.key.now

pub returns-clause-path : goal.returns-clause-path
unfolding map_of
returns-clause-path c =
    let own : c.as_slice-2.result.now ≡ map_path sha256 (map_of c.args.self.now) (way_from 256 0 c.args.key.now) = c.as_slice-2.ensures.value ∙ c.in_ok-path.ensures in
    rw (own ∙ ap (map_path sha256 (map_of c.args.self.now)) (whole_way c.args.key.now)) at c.from_path.ensures

pub returns-clause-verifies : goal.returns-clause-verifies
returns-clause-verifies c = leads_own c.args.self.now c.args.key.now c.from_path.result (returns-clause-path c)

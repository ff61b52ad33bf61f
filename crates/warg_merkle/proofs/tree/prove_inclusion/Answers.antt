use Rattle.std.proofs.Common.{◌≡◌, ◌<◌, ◌≤◌, ◌^◌, List, [], ℕ, length, map, get_or, arith, Bor}
use Rattle.std.proofs.lemmas.List.{length-map}
use Rattle.std.proofs.lemmas.Result.{IfOk-weaker}
use Rattle.sha2.specs.Sha256.{sha256}
use Rattle.warg_merkle.specs.Trees.{tree_hash, inclusion_path, Includes}
use Rattle.warg_merkle.proofs.Sound.{own_verifies}
use Rattle.warg_merkle.proofs.tree.prove_inclusion.Goals as goal

pub returns-clause-verifies : goal.returns-clause-verifies
returns-clause-verifies c =
    let few : length c.args.leaves.now ≤ 2 ^ 64 = omega arith in
    let n = length-map c.args.leaves.now (λ (leaf : Bor (List ℕ)). leaf.now) in
    let inside : c.args.index < length (map (λ (leaf : Bor (List ℕ)). leaf.now) c.args.leaves.now) = omega arith in
    let all : length (map (λ (leaf : Bor (List ℕ)). leaf.now) c.args.leaves.now) ≤ 2 ^ 64 = omega arith in
    IfOk-weaker c.own_path.result (λ path. path.items ≡ inclusion_path sha256 c.args.index (map (λ (leaf : Bor (List ℕ)). leaf.now) c.args.leaves.now)) (λ path. Includes sha256 (get_or (map (λ (leaf : Bor (List ℕ)). leaf.now) c.args.leaves.now) c.args.index []) c.args.index (length (map (λ (leaf : Bor (List ℕ)). leaf.now) c.args.leaves.now)) path.items (tree_hash sha256 (map (λ (leaf : Bor (List ℕ)). leaf.now) c.args.leaves.now))) (λ path is. own_verifies sha256 c.args.index (map (λ (leaf : Bor (List ℕ)). leaf.now) c.args.leaves.now) path.items inside all is) c.own_path.ensures

use Rattle.std.proofs.Common.{◌≡◌, ◌∙◌, ◌<◌, ◌≤◌, ◌-◌, map, List, ℕ, ap, arith, length, Bor}
use Rattle.sha2.specs.Sha256.{sha256}
use Rattle.warg_merkle.specs.Trees.{inclusion_path}
use Rattle.warg_merkle.proofs.Parts.{way_of_one, way_of_left, way_of_right}
use Rattle.warg_merkle.proofs.tree.+own_path.Goals as goal

pub returns-then-leaves-eq1 : goal.returns-then-leaves-eq1
returns-then-leaves-eq1 t c = c.new.ensures.items ∙ way_of_one sha256 (λ (leaf : Bor (List ℕ)). leaf.now) c.args.leaves.now c.args.index (omega arith)

pub returns-in_ok-push : goal.returns-in_ok-push
returns-in_ok-push t c =
    let more : 1 < length c.args.leaves.now = omega arith in
    c.in_ok-push.ensures.items ∙ way_of_left sha256 (λ (leaf : Bor (List ℕ)). leaf.now) c.args.leaves.now c.split_at.result.0.now c.split_at.result.1.now c.left_size.result c.args.index c.in_ok-path.path.items c.tree_hash.result more c.left_size.ensures.value c.split_at.ensures.front c.split_at.ensures.back (omega arith) c.in_ok-path.ensures c.tree_hash.ensures

pub returns-in_ok-push-2 : goal.returns-in_ok-push-2
returns-in_ok-push-2 t c =
    let more : 1 < length c.args.leaves.now = omega arith in
    let front : length c.split_at.result.0.now ≡ c.left_size.result = c.split_at.ensures.front_len in
    let high : c.left_size.result ≤ c.args.index = omega arith in
    let place : c.args.index - length c.split_at.result.0.now ≡ c.args.index - c.left_size.result = ap (λ n. c.args.index - n) front in
    let path : c.in_ok-path-2.path.items ≡ inclusion_path sha256 (c.args.index - c.left_size.result) (map (λ leaf. leaf.now) c.split_at.result.1.now) = c.in_ok-path-2.ensures ∙ ap (λ n. inclusion_path sha256 n (map (λ leaf. leaf.now) c.split_at.result.1.now)) place in
    c.in_ok-push-2.ensures.items ∙ way_of_right sha256 (λ (leaf : Bor (List ℕ)). leaf.now) c.args.leaves.now c.split_at.result.0.now c.split_at.result.1.now c.left_size.result c.args.index c.in_ok-path-2.path.items c.tree_hash-else-index-left.result more c.left_size.ensures.value c.split_at.ensures.front c.split_at.ensures.back high path c.tree_hash-else-index-left.ensures

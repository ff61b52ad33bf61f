use Rattle.std.proofs.Common.{◌≡◌, ◌++◌, [], ◌∷◌, List, if◌then◌else◌, ◌∙◌, ap, arith}
use Rattle.std.specs.Prelude.{IsOk}
use Rattle.warg_registry.specs.declared.leaf.LogLeaf.{LogLeaf}
use Rattle.warg_transparency.specs.MapTree.{leaves_of}
use Rattle.warg_transparency.proofs.RegistryTreesKept.{trees_pushed, trees_kept}
use Rattle.warg_transparency.proofs.registry_trees.RegistryTrees.push.Goals as goal

pub invariant_of-self-in-Ok : goal.invariant_of-self-in-Ok
invariant_of-self-in-Ok c =
    let leaf : LogLeaf = c.args.leaf.now in
    let room : IsOk c.push-in-Ok.result = c.push-in-Ok.ensures.succeeds (omega (arith, c.in_ok-reserve.ensures.ok)) in
    let items : c.push-in-Ok.new.self.items ≡ c.self.inside.leaves.items ++ leaf ∷ [] =
    c.push-in-Ok.ensures.items
    ∙ ap (λ b. if b then c.reserve.new.self.items ++ leaf ∷ [] else c.reserve.new.self.items) room
    ∙ ap (λ (ls : List LogLeaf). ls ++ leaf ∷ []) c.reserve.ensures.items in
    trees_pushed c.self.inside.leaves.items c.push-in-Ok.new.self.items leaf c.self.inside.log c.push.new.self (leaves_of c.self.inside.map) (leaves_of c.insert.new.self) c.self.invariant c.in_ok-push.ensures.ok c.leaf_range.ensures items c.in-Ok.ensures.ok

pub invariant_of-self-in-Err : goal.invariant_of-self-in-Err
invariant_of-self-in-Err c =
    trees_kept c.self.inside.leaves.items c.reserve.new.self.items c.args.leaf.now c.self.inside.log c.push.new.self (leaves_of c.self.inside.map) (leaves_of c.insert.new.self) c.self.invariant c.in_ok-push.ensures.ok c.pop.new.self c.reserve.ensures.items c.pop.ensures c.in-Err.ensures.err

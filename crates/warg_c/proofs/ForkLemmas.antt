-- The case of two leaves.
use Rattle.std.proofs.Common.{◌≡◌, ◌↔◌, ℕ, refl}
use Rattle.warg_transparency.specs.Contradictions.{ShowsLeafAt}
use Rattle.warg_transparency.specs.Forks.{AreShownAt, IsLeafFork, IsOneLeaf}
use Rattle.warg_transparency.specs.declared.forks.LeafComparison.{LeafComparison}
use Rattle.warg_transparency.specs.declared.forks.LeafComparison.TheVariants as leaves
use Rattle.warg_transparency.specs.declared.forks.ShownLeaf.{ShownLeaf}
use Rattle.warg_c.specs.ForkAnswers.{IsLeafCase}

pub leaf_case : (place : ℕ) (old new : ShownLeaf) (case : LeafComparison) → ((case ≡ leaves.Same) ↔ IsOneLeaf place old new) → ((case ≡ leaves.Fork) ↔ IsLeafFork place old new) → ((case ≡ leaves.NotShown) ↔ (AreShownAt place old new → ⊥))
    → IsLeafCase (ShowsLeafAt old.checkpoint.now place old.leaf.now old.proof.now × ShowsLeafAt new.checkpoint.now place new.leaf.now new.proof.now) old.leaf.now new.leaf.now case
leaf_case place old new leaves.Same same fork not_shown = let is = same.0 refl in ((is.shown.old_is, is.shown.new_is), is.one)
leaf_case place old new leaves.Fork same fork not_shown = let is = fork.0 refl in ((is.shown.old_is, is.shown.new_is), is.differ)
leaf_case place old new leaves.NotShown same fork not_shown = λ shown. not_shown.0 refl record { old_is = shown.0; new_is = shown.1 }

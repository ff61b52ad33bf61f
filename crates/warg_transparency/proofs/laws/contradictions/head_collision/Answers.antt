use Rattle.std.proofs.Common.{◌≡◌, ◌≢◌, ◌⊎◌, ℕ, List, Option, Some, None, true, false, inl, inr, ap, sym}
use Rattle.std.specs.Prelude.{IsSome, IsNone}
use Rattle.sha2.specs.Sha256.{sha256}
use Rattle.warg_crypto.specs.declared.hash.AnyHash.{AnyHash}
use Rattle.warg_log_records.specs.declared.record_id.RecordId.{RecordId}
use Rattle.warg_registry.specs.declared.leaf.MapLeaf.{MapLeaf}
use Rattle.warg_registry.specs.declared.log_id.LogId.{LogId}
use Rattle.warg_merkle.specs.Trees.{HaveCollision}
use Rattle.warg_transparency.specs.Contradictions.{ShowsNothing, nothing_inputs}
use Rattle.warg_transparency.specs.Heads.{ShowsLeaf, head_leaf, path_inputs_for}
use Rattle.warg_transparency.specs.ShownTwice.{ShowsAnswer, answer_inputs}
use Rattle.warg_transparency.proofs.laws.contradictions.head_collision.Goals as goal

turned : (xs ys : List (List ℕ)) → HaveCollision sha256 xs ys → HaveCollision sha256 ys xs
turned xs ys found = (found.0, record { in_left = found.1.in_right; in_right = found.1.in_left; differ = λ e. found.1.differ (sym e); same_hash = sym found.1.same_hash })

not_false : true ≡ false → ⊥
not_false e = cc

-- what `one_leaf` and `head_or_none` say
abbrev OneLeaf : Type 0
OneLeaf = (root : AnyHash) (log_id : LogId) (leaf other : MapLeaf) (proof other_proof : List (List ℕ)) → ShowsLeaf root log_id leaf proof → ShowsLeaf root log_id other other_proof
    → (leaf ≡ other) ⊎ HaveCollision sha256 (path_inputs_for log_id leaf proof) (path_inputs_for log_id other other_proof)

abbrev HeadOrNone : Type 0
HeadOrNone = (root : AnyHash) (log_id : LogId) (leaf : MapLeaf) (proof other_proof : List (List ℕ)) → ShowsLeaf root log_id leaf proof → ShowsNothing root log_id other_proof
    → HaveCollision sha256 (path_inputs_for log_id leaf proof) (nothing_inputs log_id other_proof)

module _ (root : AnyHash) (log_id : LogId) (proof other_proof : List (List ℕ)) where
  two : OneLeaf → (head other : Option RecordId) → ShowsAnswer root log_id head proof → ShowsAnswer root log_id other other_proof → IsSome head → IsSome other → head ≢ other
      → HaveCollision sha256 (answer_inputs log_id head proof) (answer_inputs log_id other other_proof)
  two law None other left right some other_some differ = absurd (not_false (sym some))
  two law (Some head) None left right some other_some differ = absurd (not_false (sym other_some))
  two law (Some head) (Some other) left right some other_some differ =
      elim (law root log_id (head_leaf head) (head_leaf other) proof other_proof left right) [
        | inl same ↦ absurd (differ (ap (λ (l : MapLeaf). Some l.record_id) same))
        | inr found ↦ found
      ]

  either : HeadOrNone → (head other : Option RecordId) → ShowsAnswer root log_id head proof → ShowsAnswer root log_id other other_proof → (IsSome head × IsNone other) ⊎ (IsNone head × IsSome other)
      → HaveCollision sha256 (answer_inputs log_id head proof) (answer_inputs log_id other other_proof)
  either law None None left right (inl (some, none)) = absurd (not_false (sym some))
  either law None None left right (inr (none, some)) = absurd (not_false (sym some))
  either law (Some head) (Some other) left right (inl (some, none)) = absurd (not_false none)
  either law (Some head) (Some other) left right (inr (none, some)) = absurd (not_false none)
  either law (Some head) None left right _ = law root log_id (head_leaf head) proof other_proof left right
  either law None (Some head) left right _ = turned (path_inputs_for log_id (head_leaf head) other_proof) (nothing_inputs log_id proof) (law root log_id (head_leaf head) other_proof proof right left)

pub returns-clause-two : goal.returns-clause-two
returns-clause-two c = λ root log_id one other are.
    two root log_id one.proof.now other.proof.now c.one_leaf.ensures one.head other.head are.shown.one_is are.shown.other_is are.heads.0 are.heads.1 are.differ

pub returns-clause-one_and_none : goal.returns-clause-one_and_none
returns-clause-one_and_none c = λ root log_id one other are.
    either root log_id one.proof.now other.proof.now c.head_or_none.ensures one.head other.head are.shown.one_is are.shown.other_is are.either

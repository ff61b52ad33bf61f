-- The cases of two answers and of two beginnings.
use Rattle.std.proofs.Common.{◌≡◌, ◌↔◌, refl}
use Rattle.warg_crypto.specs.declared.hash.AnyHash.{AnyHash}
use Rattle.warg_registry.specs.declared.checkpoint.Checkpoint.{Checkpoint}
use Rattle.warg_registry.specs.declared.log_id.LogId.{LogId}
use Rattle.warg_transparency.specs.ShownTwice.{AreBeginningsShown, AreHeadAndNone, AreHeadsShown, AreTwoHeads, AreTwoLengths, IsBeginningCase, IsBeginningCollision}
use Rattle.warg_transparency.specs.ShownTwice.{IsBeginningFork, IsHeadCase, IsOneBeginning, IsOneHead, IsShownBeginning, IsShownHead}
use Rattle.warg_transparency.specs.declared.contradictions.BeginningComparison.{BeginningComparison}
use Rattle.warg_transparency.specs.declared.contradictions.BeginningComparison.TheVariants as beginnings
use Rattle.warg_transparency.specs.declared.contradictions.HeadComparison.{HeadComparison}
use Rattle.warg_transparency.specs.declared.contradictions.HeadComparison.TheVariants as heads
use Rattle.warg_transparency.specs.declared.contradictions.ShownBeginning.{ShownBeginning}
use Rattle.warg_transparency.specs.declared.contradictions.ShownHead.{ShownHead}

pub head_case : (root : AnyHash) (log : LogId) (one other : ShownHead) (case : HeadComparison) → ((case ≡ heads.Same) ↔ IsOneHead root log one other) → ((case ≡ heads.Two) ↔ AreTwoHeads root log one other)
    → ((case ≡ heads.OneAndNone) ↔ AreHeadAndNone root log one other) → ((case ≡ heads.NotShown) ↔ (AreHeadsShown root log one other → ⊥)) → IsHeadCase (IsShownHead root log one × IsShownHead root log other) one.head other.head case
head_case root log one other heads.Same same two either not_shown = let is = same.0 refl in ((is.shown.one_is, is.shown.other_is), is.same)
head_case root log one other heads.Two same two either not_shown = let is = two.0 refl in ((is.shown.one_is, is.shown.other_is), is.heads, is.differ)
head_case root log one other heads.OneAndNone same two either not_shown = let is = either.0 refl in ((is.shown.one_is, is.shown.other_is), is.either)
head_case root log one other heads.NotShown same two either not_shown = λ shown. not_shown.0 refl record { one_is = shown.0; other_is = shown.1 }

pub beginning_case : (new : Checkpoint) (one other : ShownBeginning) (case : BeginningComparison) → ((case ≡ beginnings.Same) ↔ IsOneBeginning new one other) → ((case ≡ beginnings.Fork) ↔ IsBeginningFork new one other)
    → ((case ≡ beginnings.Collision) ↔ IsBeginningCollision new one other) → ((case ≡ beginnings.TwoLengths) ↔ AreTwoLengths new one other) → ((case ≡ beginnings.NotShown) ↔ (AreBeginningsShown new one other → ⊥))
    → IsBeginningCase (IsShownBeginning new one × IsShownBeginning new other) one.checkpoint.now other.checkpoint.now case
beginning_case new one other beginnings.Same same fork collision lengths not_shown = let is = same.0 refl in ((is.shown.one_is, is.shown.other_is), is.same)
beginning_case new one other beginnings.Fork same fork collision lengths not_shown = let is = fork.0 refl in ((is.shown.one_is, is.shown.other_is), is.one_log, is.fork)
beginning_case new one other beginnings.Collision same fork collision lengths not_shown = let is = collision.0 refl in ((is.shown.one_is, is.shown.other_is), is.one_length, is.differ)
beginning_case new one other beginnings.TwoLengths same fork collision lengths not_shown = let is = lengths.0 refl in ((is.shown.one_is, is.shown.other_is), is.differ)
beginning_case new one other beginnings.NotShown same fork collision lengths not_shown = λ shown. not_shown.0 refl record { one_is = shown.0; other_is = shown.1 }

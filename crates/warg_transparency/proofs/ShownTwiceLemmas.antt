-- What the case of two answers says, and that it is no other one. The same of two beginnings.
use Rattle.std.proofs.Common.{◌≡◌, ◌⊎◌, ◌↔◌, inl, inr, refl, sym, ap, ◌∙◌, subst, true, false, Option}
use Rattle.std.specs.Prelude.{IsSome, IsNone}
use Rattle.warg_crypto.specs.declared.hash.AnyHash.{AnyHash}
use Rattle.warg_log_records.specs.declared.record_id.RecordId.{RecordId}
use Rattle.warg_registry.specs.declared.checkpoint.Checkpoint.{Checkpoint}
use Rattle.warg_registry.specs.declared.log_id.LogId.{LogId}
use Rattle.warg_transparency.specs.ShownTwice.{AreBeginningsShown, AreHeadAndNone, AreHeadsShown, AreTwoHeads, AreTwoLengths}
use Rattle.warg_transparency.specs.ShownTwice.{IsBeginningCase, IsBeginningCollision, IsBeginningFork, IsHeadCase, IsOneBeginning, IsOneHead}
use Rattle.warg_transparency.specs.declared.contradictions.BeginningComparison.{BeginningComparison}
use Rattle.warg_transparency.specs.declared.contradictions.BeginningComparison.TheVariants as beginnings
use Rattle.warg_transparency.specs.declared.contradictions.HeadComparison.{HeadComparison}
use Rattle.warg_transparency.specs.declared.contradictions.HeadComparison.TheVariants as heads
use Rattle.warg_transparency.specs.declared.contradictions.ShownBeginning.{ShownBeginning}
use Rattle.warg_transparency.specs.declared.contradictions.ShownHead.{ShownHead}

not_false : true ≡ false → ⊥
not_false e = cc

-- a head is none
apart : (head : Option RecordId) → IsSome head → IsNone head → ⊥
apart head some none = not_false (sym some ∙ none)

-- of a head and none, the two are not one, and not both heads
not_one : (one other : Option RecordId) → (IsSome one × IsNone other) ⊎ (IsNone one × IsSome other) → one ≡ other → ⊥
not_one one other (inl (some, none)) same = apart other (subst (λ o. IsSome o) same some) none
not_one one other (inr (none, some)) same = apart other some (subst (λ o. IsNone o) same none)

not_two : (one other : Option RecordId) → (IsSome one × IsNone other) ⊎ (IsNone one × IsSome other) → IsSome one × IsSome other → ⊥
not_two one other (inl (some, none)) are = apart other are.1 none
not_two one other (inr (none, some)) are = apart one are.0 none

-- the case by another fact of whether both are shown
pub head_case_by : (P Q : Type 0) (one other : Option RecordId) (case : HeadComparison) → (P ↔ Q) → IsHeadCase P one other case → IsHeadCase Q one other case
head_case_by P Q one other heads.Same by is = (by.0 is.0, is.1)
head_case_by P Q one other heads.Two by is = (by.0 is.0, is.1, is.2)
head_case_by P Q one other heads.OneAndNone by is = (by.0 is.0, is.1)
head_case_by P Q one other heads.NotShown by is = λ q. is (by.1 q)

pub beginning_case_by : (P Q : Type 0) (one other : Checkpoint) (case : BeginningComparison) → (P ↔ Q) → IsBeginningCase P one other case → IsBeginningCase Q one other case
beginning_case_by P Q one other beginnings.Same by is = (by.0 is.0, is.1)
beginning_case_by P Q one other beginnings.Fork by is = (by.0 is.0, is.1, is.2)
beginning_case_by P Q one other beginnings.Collision by is = (by.0 is.0, is.1, is.2)
beginning_case_by P Q one other beginnings.TwoLengths by is = (by.0 is.0, is.1)
beginning_case_by P Q one other beginnings.NotShown by is = λ q. is (by.1 q)

module _ (root : AnyHash) (log_id : LogId) (one other : ShownHead) where
  pub same_head : (case : HeadComparison) → IsHeadCase (AreHeadsShown root log_id one other) one.head other.head case → (case ≡ heads.Same) ↔ IsOneHead root log_id one other
  same_head heads.Same is = ((λ _. record { shown = is.0; same = is.1 }), (λ _. refl))
  same_head heads.Two is = ((λ e. absurd (cc e)), (λ found. absurd (is.2 found.same)))
  same_head heads.OneAndNone is = ((λ e. absurd (cc e)), (λ found. absurd (not_one one.head other.head is.1 found.same)))
  same_head heads.NotShown is = ((λ e. absurd (cc e)), (λ found. absurd (is found.shown)))

  pub two_heads : (case : HeadComparison) → IsHeadCase (AreHeadsShown root log_id one other) one.head other.head case → (case ≡ heads.Two) ↔ AreTwoHeads root log_id one other
  two_heads heads.Same is = ((λ e. absurd (cc e)), (λ found. absurd (found.differ is.1)))
  two_heads heads.Two is = ((λ _. record { shown = is.0; heads = is.1; differ = is.2 }), (λ _. refl))
  two_heads heads.OneAndNone is = ((λ e. absurd (cc e)), (λ found. absurd (not_two one.head other.head is.1 found.heads)))
  two_heads heads.NotShown is = ((λ e. absurd (cc e)), (λ found. absurd (is found.shown)))

  pub head_and_none : (case : HeadComparison) → IsHeadCase (AreHeadsShown root log_id one other) one.head other.head case → (case ≡ heads.OneAndNone) ↔ AreHeadAndNone root log_id one other
  head_and_none heads.Same is = ((λ e. absurd (cc e)), (λ found. absurd (not_one one.head other.head found.either is.1)))
  head_and_none heads.Two is = ((λ e. absurd (cc e)), (λ found. absurd (not_two one.head other.head found.either is.1)))
  head_and_none heads.OneAndNone is = ((λ _. record { shown = is.0; either = is.1 }), (λ _. refl))
  head_and_none heads.NotShown is = ((λ e. absurd (cc e)), (λ found. absurd (is found.shown)))

  pub heads_not_shown : (case : HeadComparison) → IsHeadCase (AreHeadsShown root log_id one other) one.head other.head case → (case ≡ heads.NotShown) ↔ (AreHeadsShown root log_id one other → ⊥)
  heads_not_shown heads.Same is = ((λ e. absurd (cc e)), (λ no. absurd (no is.0)))
  heads_not_shown heads.Two is = ((λ e. absurd (cc e)), (λ no. absurd (no is.0)))
  heads_not_shown heads.OneAndNone is = ((λ e. absurd (cc e)), (λ no. absurd (no is.0)))
  heads_not_shown heads.NotShown is = ((λ _. is), (λ _. refl))

-- checkpoints that are one have one length and one root of the log
one_length : (one other : Checkpoint) → one ≡ other → one.log_length ≡ other.log_length
one_length one other same = ap (λ (c : Checkpoint). c.log_length) same

one_log : (one other : Checkpoint) → one ≡ other → one.log_root ≡ other.log_root
one_log one other same = ap (λ (c : Checkpoint). c.log_root) same

module _ (new : Checkpoint) (one other : ShownBeginning) where
  pub same_beginning : (case : BeginningComparison) → IsBeginningCase (AreBeginningsShown new one other) one.checkpoint.now other.checkpoint.now case → (case ≡ beginnings.Same) ↔ IsOneBeginning new one other
  same_beginning beginnings.Same is = ((λ _. record { shown = is.0; same = is.1 }), (λ _. refl))
  same_beginning beginnings.Fork is = ((λ e. absurd (cc e)), (λ found. absurd (is.2.differ found.same)))
  same_beginning beginnings.Collision is = ((λ e. absurd (cc e)), (λ found. absurd (is.2 (one_log one.checkpoint.now other.checkpoint.now found.same))))
  same_beginning beginnings.TwoLengths is = ((λ e. absurd (cc e)), (λ found. absurd (is.1 (one_length one.checkpoint.now other.checkpoint.now found.same))))
  same_beginning beginnings.NotShown is = ((λ e. absurd (cc e)), (λ found. absurd (is found.shown)))

  pub beginning_fork : (case : BeginningComparison) → IsBeginningCase (AreBeginningsShown new one other) one.checkpoint.now other.checkpoint.now case → (case ≡ beginnings.Fork) ↔ IsBeginningFork new one other
  beginning_fork beginnings.Same is = ((λ e. absurd (cc e)), (λ found. absurd (found.fork.differ is.1)))
  beginning_fork beginnings.Fork is = ((λ _. record { shown = is.0; one_log = is.1; fork = is.2 }), (λ _. refl))
  beginning_fork beginnings.Collision is = ((λ e. absurd (cc e)), (λ found. absurd (is.2 found.one_log)))
  beginning_fork beginnings.TwoLengths is = ((λ e. absurd (cc e)), (λ found. absurd (is.1 found.fork.one_length)))
  beginning_fork beginnings.NotShown is = ((λ e. absurd (cc e)), (λ found. absurd (is found.shown)))

  pub collision : (case : BeginningComparison) → IsBeginningCase (AreBeginningsShown new one other) one.checkpoint.now other.checkpoint.now case → (case ≡ beginnings.Collision) ↔ IsBeginningCollision new one other
  collision beginnings.Same is = ((λ e. absurd (cc e)), (λ found. absurd (found.differ (one_log one.checkpoint.now other.checkpoint.now is.1))))
  collision beginnings.Fork is = ((λ e. absurd (cc e)), (λ found. absurd (found.differ is.1)))
  collision beginnings.Collision is = ((λ _. record { shown = is.0; one_length = is.1; differ = is.2 }), (λ _. refl))
  collision beginnings.TwoLengths is = ((λ e. absurd (cc e)), (λ found. absurd (is.1 found.one_length)))
  collision beginnings.NotShown is = ((λ e. absurd (cc e)), (λ found. absurd (is found.shown)))

  pub two_lengths : (case : BeginningComparison) → IsBeginningCase (AreBeginningsShown new one other) one.checkpoint.now other.checkpoint.now case → (case ≡ beginnings.TwoLengths) ↔ AreTwoLengths new one other
  two_lengths beginnings.Same is = ((λ e. absurd (cc e)), (λ found. absurd (found.differ (one_length one.checkpoint.now other.checkpoint.now is.1))))
  two_lengths beginnings.Fork is = ((λ e. absurd (cc e)), (λ found. absurd (found.differ is.2.one_length)))
  two_lengths beginnings.Collision is = ((λ e. absurd (cc e)), (λ found. absurd (found.differ is.1)))
  two_lengths beginnings.TwoLengths is = ((λ _. record { shown = is.0; differ = is.1 }), (λ _. refl))
  two_lengths beginnings.NotShown is = ((λ e. absurd (cc e)), (λ found. absurd (is found.shown)))

  pub beginnings_not_shown : (case : BeginningComparison) → IsBeginningCase (AreBeginningsShown new one other) one.checkpoint.now other.checkpoint.now case → (case ≡ beginnings.NotShown) ↔ (AreBeginningsShown new one other → ⊥)
  beginnings_not_shown beginnings.Same is = ((λ e. absurd (cc e)), (λ no. absurd (no is.0)))
  beginnings_not_shown beginnings.Fork is = ((λ e. absurd (cc e)), (λ no. absurd (no is.0)))
  beginnings_not_shown beginnings.Collision is = ((λ e. absurd (cc e)), (λ no. absurd (no is.0)))
  beginnings_not_shown beginnings.TwoLengths is = ((λ e. absurd (cc e)), (λ no. absurd (no is.0)))
  beginnings_not_shown beginnings.NotShown is = ((λ _. is), (λ _. refl))

-- What the reading of a whole log answers, and that of one input more.
use Rattle.std.proofs.Common.{◌≡◌, ℕ, List, [], ◌∷◌, ◌++◌, length, Option, Some, None, Result, Ok, Err, inl, inr, sym, ap, ◌∙◌, subst, arith, length-append}
use Rattle.std.proofs.Math.Seq.{take-append_seam}
use Rattle.std.specs.Prelude.{IfOk}
use Rattle.warg_envelope.specs.EnvelopeData.{EnvelopeData}
use Rattle.warg_replay.specs.declared.replay.RunCause.{RunCause}
use Rattle.warg_replay.specs.declared.replay.RunError.{RunError}
use Rattle.warg_log_records.specs.Kinds.{SignatureRelation, Kind, KindLaws, IsAccepted, StandsFor}
use Rattle.warg_replay.specs.OutcomeRuns.{cause_next, HasNoOffence, IsFirstOffence, IsRunError, IsRun, IsStep, IfStarted}
use Rattle.warg_replay.specs.Inputs.{Cause, read_all, after_read}
use Rattle.warg_replay.proofs.OutcomeLaws.{IfNamed-map}
use Rattle.warg_replay.proofs.LogLaws.{strings-accepted, string-lawful, string-view, string-first}

ok-err : {S E : Type 0} (s : S) (e : E) → Ok s ≡ Err e → ⊥
ok-err s e h = cc

-- what holds of each state that stands for the inputs' envelopes, accepted, holds of the state that is answered
pub run-then : {View Offence F S E : Type 0} (k : Kind View Offence) → KindLaws k → (b : SignatureRelation) (read : List ℕ → Result EnvelopeData F) (view : S → View) (named_by : RunCause E → Option (Cause F Offence)) (ss : List (List ℕ)) (P : S → Type 0)
    → ((s : S) → IsAccepted k b (read_all read ss) → StandsFor k view s (read_all read ss) → P s)
    → (answer : Result S (RunError E)) → IfStarted (IsRun k b read k.view_of view named_by ◌≡◌ ss) answer → IfOk answer P
run-then k laws b read view named_by ss P each (Ok s) (inl run) = each s (strings-accepted k laws b read ss run.0) run.1
run-then k laws b read view named_by ss P each (Ok s) (inr none) = absurd (ok-err s _ none)
run-then k laws b read view named_by ss P each (Err e) h = tt

-- one input after a view, as behind inputs without offence for which the view stands
module _ {View Offence F S E : Type 0} (k : Kind View Offence) (kind : KindLaws k) (b : SignatureRelation) (read : List ℕ → Result EnvelopeData F) (ss : List (List ℕ)) (s : List ℕ) (lawful : HasNoOffence k b read k.view_of ss)
    (view : S → View) (named_by : RunCause E → Option (Cause F Offence)) (now : View) (stands : now ≡ k.view_of (read_all read ss)) where
  stood : (c : Option (Cause F Offence)) → cause_next k b read now s ≡ c → cause_next k b read (k.view_of (read_all read ss)) s ≡ c
  stood c is = ap (λ v. cause_next k b read v s) (sym stands) ∙ is

  pub one-lawful : (next : S) → IsStep k b read view named_by now s (Ok next) → IsRun k b read k.view_of view named_by ◌≡◌ (ss ++ s ∷ []) (Ok next)
  one-lawful next step =
      let none = stood None step.0 in
      (string-lawful k kind b read ss s lawful none, step.1 ∙ ap (λ v. after_read k.after v (read s)) stands ∙ sym (string-view k kind b read ss s lawful none))

  pub one-refused : (place : ℕ) → length ss ≡ place → (cause : RunCause E) → IsStep k b read view named_by now s (Err cause) → IsRunError k b read k.view_of named_by (ss ++ s ∷ []) (record { index = place; cause = cause })
  one-refused place many cause step = record {
    in_range = omega (arith, length-append ss (s ∷ []), many);
    before = rw (← many) (rw (take-append_seam ss (s ∷ [])) lawful);
    first = IfNamed-map (named_by cause) _ _ (λ c why. subst (λ n. IsFirstOffence k b read k.view_of (ss ++ s ∷ []) n c) many (string-first k kind b read ss s lawful c (stood (Some c) why))) step;
  }

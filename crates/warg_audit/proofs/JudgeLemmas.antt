-- Inputs that are judged one after another.
use Rattle.std.proofs.Common.{◌≡◌, ℕ, ◌+◌, ◌<◌, zero, suc, List, [], ◌∷◌, ◌++◌, length, refl, sym, ◌∙◌, arith, length-append, Option, Some, Result, Ok}
use Rattle.std.proofs.lemmas.List.{take-append-le}
use Rattle.std.proofs.lemmas.Option.{slice_get_within}
use Rattle.std.specs.List.{slice_get}
use Rattle.warg_envelope.specs.EnvelopeData.{EnvelopeData}
use Rattle.warg_log_records.specs.Kinds.{SignatureRelation, Kind}
use Rattle.warg_replay.specs.Inputs.{Cause, read_all}
use Rattle.warg_replay.specs.OutcomeRuns.{HasNoOffence, IsFirstOffence, IsRunError, IsRun}
use Rattle.warg_replay.specs.declared.replay.RunCause.{RunCause}
use Rattle.warg_replay.specs.declared.replay.RunError.{RunError}
use Rattle.warg_replay.proofs.OutcomeLaws.{IfNamed-map}
use Rattle.warg_audit.specs.Files.Lines.{input_of}
use Rattle.warg_audit.proofs.FilesLemmas.InputLemmas.{IsReadTo, none_read, one_read}

slice_get-front : {X : Type 0} (xs ys : List X) (i : ℕ) → i < length xs
    → slice_get (xs ++ ys) i ≡ slice_get xs i
slice_get-front [] ys i low = absurd (omega (arith, low))
slice_get-front (x ∷ xs) ys zero low = refl
slice_get-front (x ∷ xs) ys (suc i) low = slice_get-front xs ys i (omega (arith, low))

nothing_at : {X : Type 0} (i : ℕ) (x : X) → slice_get [] i ≡ Some x → ⊥
nothing_at i x at = cc

module _ {F View Offence : Type 0} (k : Kind View Offence) (b : SignatureRelation)
    (read : List ℕ → Result EnvelopeData F) where
  -- a first offence is still the first where more inputs follow
  module _ (seen : List EnvelopeData → View) (ss ts : List (List ℕ)) where
    still_first : (i : ℕ) (c : Cause F Offence) → IsFirstOffence k b read seen ss i c
        → IsFirstOffence k b read seen (ss ++ ts) i c
    still_first i c first =
        let low : i < length ss = slice_get_within ss i first.item first.at in record {
          item = first.item;
          at = slice_get-front ss ts i low ∙ first.at;
          wrong = rw (take-append-le i ss ts (omega arith)) first.wrong;
          least = λ j s below at.
              let near : j < length ss = omega (arith, below, low) in
              let there = sym (slice_get-front ss ts j near) ∙ at in
              rw (take-append-le j ss ts (omega (arith, near))) (first.least j s below there);
        }

    pub still_refused : {E : Type 0} (named_by : RunCause E → Option (Cause F Offence)) (error : RunError E)
        → IsRunError k b read seen named_by ss error → IsRunError k b read seen named_by (ss ++ ts) error
    still_refused named_by error run_error = record {
      in_range = omega (arith, length-append ss ts, run_error.in_range);
      before = rw (take-append-le error.index ss ts (omega (arith, run_error.in_range))) run_error.before;
      first = IfNamed-map (named_by error.cause) _ _ (still_first error.index) run_error.first;
    }

  -- what is known before a line is read: the lines before it spell inputs without offence, for which the view stands
  pub record IsJudgedTo (lines : List (List ℕ)) (count : ℕ) (rest : List (List ℕ)) (now : View) : Type 0 where
    pub inputs : List (List ℕ)
    pub many : length inputs ≡ count
    pub whole : IsReadTo 0 lines count rest inputs
    pub lawful : HasNoOffence k b read k.view_of inputs
    pub stands : now ≡ k.view_of (read_all read inputs)

  pub none_judged : (lines : List (List ℕ)) (now : View) → now ≡ k.start → k.view_of [] ≡ k.start
      → IsJudgedTo lines 0 lines now
  none_judged lines now is start = record {
    inputs = [];
    many = refl;
    whole = none_read 0 lines;
    lawful = λ i s at. absurd (nothing_at i s at);
    stands = is ∙ sym start;
  }

  pub one_judged : {S E : Type 0} (view : S → View) (named_by : RunCause E → Option (Cause F Offence))
      (lines : List (List ℕ)) (count : ℕ) (line : List ℕ) (rest : List (List ℕ)) (now : View)
      → (so_far : IsJudgedTo lines count (line ∷ rest) now) → (s : List ℕ) → input_of line ≡ Ok s
      → (next : S) → IsRun k b read k.view_of view named_by ◌≡◌ (so_far.inputs ++ s ∷ []) (Ok next)
      → IsJudgedTo lines (count + 1) rest (view next)
  one_judged view named_by lines count line rest now so_far s e next run = record {
    inputs = so_far.inputs ++ s ∷ [];
    many = omega (arith, length-append so_far.inputs (s ∷ []), so_far.many);
    whole = one_read 0 lines count line rest so_far.inputs so_far.whole s e;
    lawful = run.0;
    stands = run.1;
  }

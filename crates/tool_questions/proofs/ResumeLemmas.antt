-- What is answered of saved states, and of states as JSON.
use Rattle.std.proofs.Common.{◌≡◌, ◌⊎◌, inl, inr, ℕ, List, length, subst, sym, ap, ◌∙◌, Result, Ok, Err}
use Rattle.std.specs.Str.{IsUtf8}
use Rattle.warg_protocol.specs.Json.{JsonTextError, ReturnsOfText}
use Rattle.warg_saved_states.specs.declared.error.JsonTextError.TheVariants.{OutOfMemory}
use Rattle.warg_protocol.specs.Logs.{envelope_of, HasNoOffence, SignatureRelation, read_all, view_after}
use Rattle.warg_audit.specs.declared.files.lines.LineError.TheVariants.{Bad}
use Rattle.warg_audit.specs.Files.Lines.{inputs_of}
use Rattle.warg_audit.specs.LogAnswers.{LogDisplay, IsRefused}
use Rattle.warg_audit.specs.Printouts.{OutputData, bad_line}
use Rattle.warg_audit.proofs.FilesLemmas.InputLemmas as lines
use Rattle.tool_questions.proofs.StateLemmas.{text_is_read}
use Rattle.warg_audit.proofs.FilesLemmas.AnswerLemmas.{IfOutput-to, Answers-to}
use Rattle.warg_audit.specs.Files.Answers.{Answers, IfOutput}
use Rattle.tool_questions.specs.Questions.{IsStateText}
use Rattle.tool_questions.specs.Resumption.{IsNext, IsNoLead, IsNoNext, IsResumed, LeadTo, first_bad, first_refused, no_lead, no_next, no_state, read_state, resumed}
use Rattle.tool_questions.specs.StateFaults.{bad_state}
use Rattle.tool_answers.specs.Verdicts.{IsLawful, IsNegative, IsPrintedOf, negative, lawful, IsViewOf}
use Rattle.warg_audit.specs.declared.files.command_output.CommandOutput.{CommandOutput}
use Rattle.warg_audit.specs.declared.files.command_error.CommandError.{CommandError}
use Rattle.warg_audit.specs.declared.files.command_error.CommandError.TheVariants as command_error

-- ---- the state of a file's bytes

pub text_is_returned : {S : Type 0} (reads : List ℕ → Result S JsonTextError) (bytes text : List ℕ) (r : Result S JsonTextError)
    → text ≡ bytes → IsUtf8 bytes → ReturnsOfText (λ s. s) r (reads text) → ReturnsOfText (λ s. s) r (read_state reads bytes)
text_is_returned {S} reads bytes text r e is h =
    let P : Result S JsonTextError → Type 0 = λ want. ReturnsOfText (λ s. s) r want in
    subst P (ap reads e ∙ sym (text_is_read reads bytes is)) h

-- ---- files that hold no state

pub no_state_error : {S : Type 0} (want : Result S JsonTextError) (fault : JsonTextError) (end : CommandError)
    → (fault ≡ OutOfMemory) ⊎ (want ≡ Err fault) → IfOutput (λ printed. printed ≡ bad_state fault) end
    → (fault ≡ OutOfMemory → end ≡ command_error.OutOfMemory)
    → IfOutput (λ printed. (it : JsonTextError) × ((want ≡ Err it) × (printed ≡ bad_state it))) end
no_state_error want fault end (inl none) told memory = rw (memory none) tt
no_state_error want fault end (inr e) told memory =
    IfOutput-to (λ printed. printed ≡ bad_state fault)
    (λ printed. (it : JsonTextError) × ((want ≡ Err it) × (printed ≡ bad_state it)))
    (λ printed is. (fault, (e, is))) end told

module _ {Meaning Fault View Offence S : Type 0} (log : LogDisplay Meaning Fault View Offence) (belongs : SignatureRelation) (view : S → View) (text : S → OutputData) where
  -- ---- the state of a lawful log

  pub state_prints : (ls inputs : List (List ℕ)) (state : S) (result : Result CommandOutput CommandError) → IsLawful log belongs ls inputs
      → IsViewOf log (view state) inputs → Answers (λ printed. printed ≡ text state) result
      → Answers (IsPrintedOf log belongs (IsStateText log view text) ls) result
  state_prints ls inputs state result is_lawful stands h =
      Answers-to (λ printed. printed ≡ text state) (IsPrintedOf log belongs (IsStateText log view text) ls)
      (λ printed is. lawful inputs is_lawful (record { state = state; stands = stands; is = is })) result h

  pub no_state_prints : (ls : List (List ℕ)) (end : CommandError) → IfOutput (IsNegative log belongs ls) end
      → IfOutput (IsPrintedOf log belongs (IsStateText log view text) ls) end
  no_state_prints ls end h =
      IfOutput-to (IsNegative log belongs ls) (IsPrintedOf log belongs (IsStateText log view text) ls)
      (λ printed is. negative is) end h

module _ {Meaning Fault View Offence S : Type 0} (log : LogDisplay Meaning Fault View Offence) (belongs : SignatureRelation) (view : S → View) where
  -- ---- a state that goes on

  pub bad_line_leads : (state : S) (ls : List (List ℕ)) (end : CommandError)
      → IfOutput (λ printed. (index : ℕ) × ((inputs_of ls ≡ Err (Bad index)) × (printed ≡ bad_line index))) end
      → IfOutput (IsNoLead log belongs view state ls) end
  bad_line_leads state ls end h =
      IfOutput-to (λ printed. (index : ℕ) × ((inputs_of ls ≡ Err (Bad index)) × (printed ≡ bad_line index)))
      (IsNoLead log belongs view state ls)
      (λ printed bad. first_bad bad.0 (lines.first_bad ls bad.0 bad.1.0) bad.1.1) end h

  pub run_error_leads : (state : S) (ls inputs : List (List ℕ)) (end : CommandError) → inputs_of ls ≡ Ok inputs
      → IfOutput (IsRefused log belongs (view_after log.kind (view state)) inputs) end
      → IfOutput (IsNoLead log belongs view state ls) end
  run_error_leads state ls inputs end e h =
      IfOutput-to (IsRefused log belongs (view_after log.kind (view state)) inputs) (IsNoLead log belongs view state ls)
      (λ printed refused. first_refused inputs (lines.spell_from 0 ls inputs e) refused) end h

  pub state_leads : (state next : S) (ls inputs : List (List ℕ)) (count : ℕ) → inputs_of ls ≡ Ok inputs
      → HasNoOffence log.kind belongs (envelope_of log.read) (view_after log.kind (view state)) inputs
      → view next ≡ view_after log.kind (view state) (read_all (envelope_of log.read) inputs)
      → count ≡ length inputs → LeadTo log belongs view state ls next count
  state_leads state next ls inputs count e none after counted =
      record { inputs = inputs; spell = lines.spell_from 0 ls inputs e; lawful = none; after = after; counted = counted }

  -- ---- a file and what goes on from it

  module _ (reads : List ℕ → Result S JsonTextError) where
    pub no_state_leads : (saved : List ℕ) (ls : List (List ℕ)) (end : CommandError)
        → IfOutput (λ printed. (fault : JsonTextError) × ((read_state reads saved ≡ Err fault) × (printed ≡ bad_state fault))) end
        → IfOutput (IsNoNext log belongs view reads saved ls) end
    no_state_leads saved ls end h =
        IfOutput-to (λ printed. (fault : JsonTextError) × ((read_state reads saved ≡ Err fault) × (printed ≡ bad_state fault)))
        (IsNoNext log belongs view reads saved ls) (λ printed told. no_state told.0 told.1.0 told.1.1) end h

    pub no_lead_next : (saved : List ℕ) (ls : List (List ℕ)) (state : S) (end : CommandError) → read_state reads saved ≡ Ok state
        → IfOutput (IsNoLead log belongs view state ls) end → IfOutput (IsNoNext log belongs view reads saved ls) end
    no_lead_next saved ls state end e h =
        IfOutput-to (IsNoLead log belongs view state ls) (IsNoNext log belongs view reads saved ls)
        (λ printed told. no_lead state e told) end h

    module _ (P : S → ℕ → OutputData → Type 0) where
      pub none_resumed : (saved : List ℕ) (ls : List (List ℕ)) (end : CommandError) → IfOutput (IsNoNext log belongs view reads saved ls) end
          → IfOutput (IsResumed log belongs view P reads saved ls) end
      none_resumed saved ls end h =
          IfOutput-to (IsNoNext log belongs view reads saved ls) (IsResumed log belongs view P reads saved ls)
          (λ printed told. no_next told) end h

      pub next_resumed : (saved : List ℕ) (ls : List (List ℕ)) (next : S) (count : ℕ) (result : Result CommandOutput CommandError)
          → IsNext log belongs view reads saved ls next count → Answers (P next count) result
          → Answers (IsResumed log belongs view P reads saved ls) result
      next_resumed saved ls next count result is_next h =
          Answers-to (P next count) (IsResumed log belongs view P reads saved ls)
          (λ printed told. resumed next count is_next told) result h

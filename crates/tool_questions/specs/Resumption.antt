-- What is printed of a saved state that goes on with more records.
use Rattle.std.specs.Prelude.{◌≡◌, ℕ, List, length, Result, Ok, Err, if◌then◌else◌}
use Rattle.std.specs.Str.{is_utf8}
use Rattle.warg_protocol.specs.Json.{JsonTextError}
use Rattle.warg_protocol.specs.Logs.{EnvelopeData, envelope_of, SignatureRelation, HasNoOffence, view_after, read_all}
use Rattle.warg_saved_states.specs.declared.error.JsonTextError.TheVariants.{NotJson}
use Rattle.warg_audit.specs.Files.Lines.{Spell, IsFirstBad}
use Rattle.warg_audit.specs.LogAnswers.{IsRefused, LogDisplay}
use Rattle.warg_audit.specs.Printouts.{OutputData, bad_line}
use Rattle.tool_questions.specs.StateFaults.{bad_state}

-- the state of a file's bytes, if they are a text
abbrev pub read_state : {S : Type 0} → (List ℕ → Result S JsonTextError) → List ℕ → Result S JsonTextError
read_state reads bytes = if is_utf8 bytes then reads bytes else Err NotJson

-- what is printed of a state, however many records led to it
abbrev pub IsNextText : {S : Type 0} → (S → OutputData) → S → ℕ → OutputData → Type 0
IsNextText text next count printed = printed ≡ text next

module _ {Meaning Fault View Offence S : Type 0} (log : LogDisplay Meaning Fault View Offence) (belongs : SignatureRelation) (view : S → View) where
  -- the view after a state's own and envelopes
  abbrev pub on_from : S → List EnvelopeData → View
  on_from state es = view_after log.kind (view state) es

  -- the lines of the records that came since, so many, lead from the state to the next
  pub record LeadTo (state : S) (lines : List (List ℕ)) (next : S) (count : ℕ) : Type 0 where
    pub inputs : List (List ℕ)
    pub spell : Spell lines inputs
    pub lawful : HasNoOffence log.kind belongs (envelope_of log.read) (on_from state) inputs
    pub after : view next ≡ on_from state (read_all (envelope_of log.read) inputs)
    pub counted : count ≡ length inputs

  -- what is printed to lines that do not lead on from the state: the first that spells no bytes, or the first record that is refused
  pub data IsNoLead (state : S) (lines : List (List ℕ)) (printed : OutputData) : Type 0 where
    first_bad : (index : ℕ) → IsFirstBad lines index → printed ≡ bad_line index → IsNoLead state lines printed
    first_refused : (inputs : List (List ℕ)) → Spell lines inputs → IsRefused log belongs (on_from state) inputs printed → IsNoLead state lines printed

  -- the state that a file says and those lines lead to the next
  pub record IsNext (reads : List ℕ → Result S JsonTextError) (saved : List ℕ) (lines : List (List ℕ)) (next : S) (count : ℕ) : Type 0 where
    pub state : S
    pub read : read_state reads saved ≡ Ok state
    pub leads : LeadTo state lines next count

  -- what is printed to a file and lines that lead to none
  pub data IsNoNext (reads : List ℕ → Result S JsonTextError) (saved : List ℕ) (lines : List (List ℕ)) (printed : OutputData) : Type 0 where
    no_state : (fault : JsonTextError) → read_state reads saved ≡ Err fault → printed ≡ bad_state fault → IsNoNext reads saved lines printed
    no_lead : (state : S) → read_state reads saved ≡ Ok state → IsNoLead state lines printed → IsNoNext reads saved lines printed

  -- what is printed to a state's file and the lines of the records that came since: of the next state and their count, what P says
  pub data IsResumed (P : S → ℕ → OutputData → Type 0) (reads : List ℕ → Result S JsonTextError) (saved : List ℕ) (lines : List (List ℕ)) (printed : OutputData) : Type 0 where
    no_next : IsNoNext reads saved lines printed → IsResumed P reads saved lines printed
    resumed : (next : S) (count : ℕ) → IsNext reads saved lines next count → P next count printed → IsResumed P reads saved lines printed

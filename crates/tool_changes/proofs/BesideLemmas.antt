-- A log beside an older copy of it.
use Rattle.std.proofs.Common.{◌≡◌, ℕ, Bool, true, false, List, length, sym, ap, ◌∙◌, codes, Option, Some, None, Result}
use Rattle.std.proofs.lemmas.List.{length-map}
use Rattle.warg_protocol.specs.Logs.{DecodedEnvelope, EnvelopeData, IsComparison, SignatureRelation, contents, envelopes}
use Rattle.warg_protocol.specs.Records.{RecordId}
use Rattle.warg_replay.specs.declared.audited_log.comparison.Comparison.{Comparison}
use Rattle.warg_audit.specs.LogAnswers.{LogDisplay, accepted_line, view_of}
use Rattle.warg_audit.specs.Printouts.{OutputData}
use Rattle.warg_audit.specs.Files.Answers.{Answers, IfOutput}
use Rattle.warg_audit.specs.Files.Texts.{no, side_text}
use Rattle.warg_audit.proofs.FilesLemmas.AnswerLemmas.{Answers-to, IfOutput-to}
use Rattle.warg_audit.specs.declared.files.command_output.CommandOutput.{CommandOutput}
use Rattle.warg_audit.specs.declared.files.command_error.CommandError.{CommandError}
use Rattle.tool_answers.specs.Verdicts.{IsLawful, IsNegative, envelopes_of}
use Rattle.tool_answers.specs.Verdicts as verdicts
use Rattle.tool_changes.specs.Audits.{IsAudited, IsBeside, IsBesideLines, IsDemanded, beside, lacks_records, line_or, met, not_met, of_older, older_empty, parted, unmet}
use Rattle.tool_words.specs.declared.request.Demands.{Demands}

module _ {Meaning Fault View Offence : Type 0} (log : LogDisplay Meaning Fault View Offence) where
  -- what is printed of states that stand for the envelopes of both
  pub beside_of_kept : (before inputs : List (List ℕ)) (old new : List EnvelopeData) (here there : View) (head : Option RecordId)
      (comparison : Comparison) (count : ℕ) (told : List ℕ) (printed : OutputData)
      → old ≡ envelopes_of log before → new ≡ envelopes_of log inputs
      → here ≡ log.kind.view_of old → there ≡ log.kind.view_of new → head ≡ log.kind.head there
      → count ≡ length inputs → told ≡ log.shown there
      → IsComparison (log.kind.head here) (log.kind.head there) (contents old) (contents new) comparison
      → printed ≡ line_or (accepted_line count (log.kind.head there) told) (parted log.kind.id head (contents old) (contents new) comparison)
      → IsBeside log before inputs printed
  beside_of_kept before inputs old new here there head comparison count told printed olds news stood stands is_head counted same compares is =
      record {
        comparison = comparison;
        compares = rw (stood, stands, olds, news) at compares;
        is = rw (is_head, same, stands, olds, news, counted) at is;
      }

  -- the same, as an answer
  pub beside_answers : (before inputs : List (List ℕ)) (old new : List EnvelopeData) (here there : View) (head : Option RecordId)
      (comparison : Comparison) (count : ℕ) (told : List ℕ) (said : Option (List ℕ)) (result : Result CommandOutput CommandError)
      → old ≡ envelopes_of log before → new ≡ envelopes_of log inputs
      → here ≡ log.kind.view_of old → there ≡ log.kind.view_of new → head ≡ log.kind.head there
      → count ≡ length inputs → told ≡ log.shown there
      → IsComparison (log.kind.head here) (log.kind.head there) (contents old) (contents new) comparison
      → said ≡ parted log.kind.id head (contents old) (contents new) comparison
      → Answers (λ printed. printed ≡ line_or (accepted_line count (log.kind.head there) told) said) result
      → Answers (IsBeside log before inputs) result
  beside_answers before inputs old new here there head comparison count told said result olds news stood stands is_head counted same compares e h =
      Answers-to (λ printed. printed ≡ line_or (accepted_line count (log.kind.head there) told) said) (IsBeside log before inputs)
      (λ printed is. beside_of_kept before inputs old new here there head comparison count told printed olds news stood stands is_head counted same
      compares (is ∙ ap (line_or (accepted_line count (log.kind.head there) told)) e)) result h

  -- whether records are lacking, by a count of those that stand for inputs
  of_count : {C : Type 0} (demands : Demands) (before : List (List ℕ)) (records : List (DecodedEnvelope C)) (count : ℕ) (lacks : Bool)
      → envelopes records ≡ envelopes_of log before → count ≡ length records → lacks ≡ lacks_records demands count
      → lacks_records demands (length (envelopes_of log before)) ≡ lacks
  of_count demands before records count lacks olds counted e =
      let same : length (envelopes_of log before) ≡ count = ap (λ (es : List EnvelopeData). length es) (sym olds) ∙ length-map _ _ ∙ sym counted in
      ap (lacks_records demands) same ∙ sym e

  module _ (belongs : SignatureRelation) where
    -- the answer by the lines of the older copy
    pub older_answers : {C : Type 0} (demands : Demands) (older before inputs : List (List ℕ)) (records : List (DecodedEnvelope C)) (count : ℕ)
        (result : Result CommandOutput CommandError) → IsLawful log belongs older before → envelopes records ≡ envelopes_of log before → count ≡ length records
        → false ≡ lacks_records demands count → Answers (IsBeside log before inputs) result
        → Answers (IsBesideLines log belongs demands older inputs) result
    older_answers demands older before inputs records count result it olds counted e h =
        Answers-to (IsBeside log before inputs) (IsBesideLines log belongs demands older inputs)
        (λ printed is. beside before it (of_count demands before records count false olds counted e) is) result h

    -- the same, where that has no records
    pub older_lacks : {C : Type 0} (demands : Demands) (older before inputs : List (List ℕ)) (records : List (DecodedEnvelope C)) (count : ℕ)
        (printed : OutputData) → IsLawful log belongs older before → envelopes records ≡ envelopes_of log before → count ≡ length records
        → true ≡ lacks_records demands count → printed ≡ side_text (codes "older") (no (codes "empty\n"))
        → IsBesideLines log belongs demands older inputs printed
    older_lacks demands older before inputs records count printed it olds counted e is =
        older_empty before it (of_count demands before records count true olds counted e) is

    pub older_error : (demands : Demands) (older inputs : List (List ℕ)) (end : CommandError)
        → IfOutput (λ printed. (it : OutputData) × (IsNegative log belongs older it × (printed ≡ side_text (codes "older") it))) end
        → IfOutput (IsBesideLines log belongs demands older inputs) end
    older_error demands older inputs end h =
        IfOutput-to (λ printed. (it : OutputData) × (IsNegative log belongs older it × (printed ≡ side_text (codes "older") it)))
        (IsBesideLines log belongs demands older inputs) (λ printed told. of_older told.0 told.1.0 told.1.1) end h

    -- the answer by the demands on the log alone, beside an older copy
    pub unmet_beside : (demands : Demands) (older inputs : List (List ℕ)) (new : List EnvelopeData) (count : ℕ) (head : Option RecordId) (there : View)
        (text : List ℕ) (printed : OutputData) → new ≡ envelopes_of log inputs → there ≡ log.kind.view_of new → head ≡ log.kind.head there
        → count ≡ length inputs → Some text ≡ unmet demands count head → printed ≡ no text
        → IsDemanded log belongs demands (Some older) inputs printed
    unmet_beside demands older inputs new count head there text printed news stands is_head counted e is =
        not_met text (sym (rw (is_head, stands, news, counted) at e)) is

    pub met_beside : (demands : Demands) (older inputs : List (List ℕ)) (new : List EnvelopeData) (count : ℕ) (head : Option RecordId) (there : View)
        (result : Result CommandOutput CommandError) → new ≡ envelopes_of log inputs → there ≡ log.kind.view_of new → head ≡ log.kind.head there
        → count ≡ length inputs → None ≡ unmet demands count head → Answers (IsBesideLines log belongs demands older inputs) result
        → Answers (IsDemanded log belongs demands (Some older) inputs) result
    met_beside demands older inputs new count head there result news stands is_head counted e h =
        Answers-to (IsBesideLines log belongs demands older inputs) (IsDemanded log belongs demands (Some older) inputs)
        (λ printed is. met (sym (rw (is_head, stands, news, counted) at e)) is) result h

    -- the answer to the lines of both
    pub audited_beside : (demands : Demands) (older lines inputs : List (List ℕ)) (result : Result CommandOutput CommandError) → IsLawful log belongs lines inputs
        → Answers (IsDemanded log belongs demands (Some older) inputs) result → Answers (IsAudited log belongs demands (Some older) lines) result
    audited_beside demands older lines inputs result it h =
        Answers-to (IsDemanded log belongs demands (Some older) inputs) (IsAudited log belongs demands (Some older) lines)
        (λ printed is. verdicts.lawful inputs it is) result h

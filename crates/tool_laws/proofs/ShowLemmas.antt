-- What is printed of logs in words, and why a record is refused.
use Rattle.std.proofs.Common.{ℕ, ◌+◌, List, [], ◌∷◌, ◌++◌, codes, take, Option, Some, None}
use Rattle.std.specs.Fmt.{decimal}
use Rattle.warg_protocol.specs.Logs.{Cause, EnvelopeData, EnvelopeFault, SignatureRelation}
use Rattle.warg_protocol.specs.Records.{RecordId}
use Rattle.warg_audit.specs.LogAnswers.{LogDisplay, cause_name, run_error, view_of}
use Rattle.warg_audit.specs.Printouts.{OutputData, bad_line}
use Rattle.tool_answers.specs.ShownWords.{RecordWords}
use Rattle.tool_answers.specs.Verdicts.{envelopes_of}
use Rattle.warg_audit.specs.Files.Texts.{line, no, yes}
use Rattle.tool_questions.specs.Show.Advice.{advice_on}
use Rattle.tool_questions.specs.Show.ShownLogs.{IsCutText, IsRunErrorText, IsShown, IsShownOf, cause_words, entry_line, first_bad, lines_with_places, of_log, of_refused, of_inputs, placed_line}
use Rattle.tool_questions.proofs.ShowLemmas.LineLemmas.{log_lines}
use Rattle.warg_printable.specs.Lines.{IsPrintedText}
use Rattle.warg_printable.specs.Printable.{printable}
use Rattle.warg_printable.proofs.LineLemmas.{both_lines, no_lines, one_line, same_lines}
use Rattle.tool_laws.proofs.LineLemmas.{IsClean, clean_line, clean_same, line_text}
use Rattle.tool_laws.proofs.LogLemmas.{IsPlainLog, bad_one, run_error_one}

placed : (place : ℕ) (lines : List (List ℕ)) → IsPrintedText (lines_with_places place lines)
placed place [] = no_lines
placed place (said ∷ more) =
    both_lines (placed_line place said) (lines_with_places (place + 1) more) (one_line (decimal place ++ (codes " " ++ said))) (placed (place + 1) more)

entry_clean : (entry : Option ℕ) → IsPrintedText (entry_line entry)
entry_clean None = no_lines
entry_clean (Some entry) = one_line (codes "entry: " ++ decimal entry)

words_clean : (why : List ℕ) (entry : Option ℕ) (advice : List ℕ) → IsPrintedText (cause_words why entry advice)
words_clean why entry advice =
    let first : List ℕ = line (printable (codes "why: " ++ why)) in
    let last : List ℕ = line (printable (codes "try: " ++ advice)) in
    both_lines first (entry_line entry ++ last) (one_line (codes "why: " ++ why))
    (both_lines (entry_line entry) last (entry_clean entry) (one_line (codes "try: " ++ advice)))

module _ {Meaning Fault View Offence : Type 0} (log : LogDisplay Meaning Fault View Offence) (plain : IsPlainLog log) (belongs : SignatureRelation) where
  run_error_text_clean : (Explains : Cause (EnvelopeFault Fault) Offence → List ℕ → Option ℕ → Type 0) (seen : List EnvelopeData → View) (inputs : List (List ℕ)) (index : ℕ) (text : List ℕ)
      → IsRunErrorText log belongs Explains seen inputs index text → IsPrintedText text
  run_error_text_clean Explains seen inputs index text h =
      same_lines text _ h.is
      (both_lines (run_error log index h.cause).text (cause_words h.why h.entry (advice_on (cause_name log.fault_name log.offence_name h.cause))) (line_text (run_error log index h.cause).text (run_error_one log plain index h.cause))
      (words_clean h.why h.entry (advice_on (cause_name log.fault_name log.offence_name h.cause))))

  cut_clean : (id : List ℕ → RecordId) (Says : List ℕ → RecordWords → Type 0) (Refuses : List ℕ → Type 0) → ((text : List ℕ) → Refuses text → IsPrintedText text)
      → (envelopes : List EnvelopeData) (text : List ℕ) → IsCutText id Says Refuses envelopes text → IsPrintedText text
  cut_clean id Says Refuses each envelopes text h =
      same_lines text (h.records ++ h.refused) h.is
      (both_lines h.records h.refused (same_lines h.records _ h.are_records.is (placed 0 h.are_records.lines)) (each h.refused h.refuses))

  module _ (Says : List ℕ → RecordWords → Type 0) (Shows : List EnvelopeData → List ℕ → Type 0)
      (Explains : View → List ℕ → Cause (EnvelopeFault Fault) Offence → List ℕ → Option ℕ → Type 0)
      (shown : (records : List EnvelopeData) (text : List ℕ) → Shows records text → IsPrintedText text) where
    of_clean : (inputs : List (List ℕ)) (printed : OutputData) → IsShownOf log belongs Says Shows Explains inputs printed → IsClean printed
    of_clean inputs printed (of_log text lawful h is) =
        clean_same printed (yes text) is
        (log_lines Says Shows shown log.kind.id (log.kind.head (view_of log inputs)) (envelopes_of log inputs) text h)
    of_clean inputs printed (of_refused index input text at h is) =
        clean_same printed (no text) is
        (cut_clean log.kind.id Says (IsRunErrorText log belongs (Explains (view_of log (take index inputs)) input) log.kind.view_of inputs index)
        (run_error_text_clean (Explains (view_of log (take index inputs)) input) log.kind.view_of inputs index)
        (envelopes_of log (take index inputs)) text h)

    -- the answer to lines that are shown
    pub show_clean : (lines : List (List ℕ)) (printed : OutputData) → IsShown log belongs Says Shows Explains lines printed → IsClean printed
    show_clean lines printed (first_bad index at is) = clean_line printed (bad_line index) is (bad_one index)
    show_clean lines printed (of_inputs inputs spell h) = of_clean inputs printed h

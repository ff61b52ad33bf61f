-- The first line of a text that ends with a newline stays so, whatever comes behind it.
use Rattle.std.proofs.Common.{◌≡◌, ℕ, Bool, true, false, List, [], ◌∷◌, ◌++◌, codes, length, refl, sym, ap, ◌∙◌, append_assoc, Option, Some, None, Result}
use Rattle.std.specs.Fmt.{decimal}
use Rattle.std.specs.List.{onto_first, slice_split}
use Rattle.std.specs.Prelude.{◌==◌, cond}
use Rattle.std.specs.Str.Lines.{lines, lines_of_parts, strip_carriage_return}
use Rattle.warg_protocol.specs.Records.{RecordId}
use Rattle.warg_audit.specs.LogAnswers.{LogDisplay, accepted_line, accepted_start, head_text, log_shown, view_of}
use Rattle.warg_audit.specs.Printouts.{OutputData}
use Rattle.warg_protocol.specs.Logs.{SignatureRelation}
use Rattle.warg_audit.specs.Files.Answers.{Answers, IfOutput, output_data}
use Rattle.tool_answers.specs.Verdicts.{IsLawful, lawful}
use Rattle.warg_audit.specs.declared.files.command_output.CommandOutput.{CommandOutput}
use Rattle.warg_audit.proofs.FilesLemmas.AnswerLemmas.{Answers-to}
use Rattle.warg_audit.specs.declared.files.command_error.CommandError.{CommandError}
use Rattle.tool_answers.proofs.LoadingLemmas.{IfOutput-weaker}
use Rattle.tool_changes.specs.Audits.{BeginsAs, IsAudited, first_of, line_or, met, not_met, records_alone, unmet}

abbrev is_end : ℕ → Bool
is_end b = b == 10

-- the parts of a text, of which there are two at least
record HaveFirst (first : List ℕ) (parts : List (List ℕ)) : Type 0 where
  pub next : List ℕ
  pub later : List (List ℕ)
  pub is : parts ≡ first ∷ next ∷ later

-- the part before the first newline
abbrev first_part : List ℕ → List ℕ
first_part [] = []
first_part (b ∷ more) = cond (is_end b) [] (b ∷ first_part more)

record AreSome (parts : List (List ℕ)) : Type 0 where
  pub first : List ℕ
  pub later : List (List ℕ)
  pub is : parts ≡ first ∷ later

some_more : (t : Bool) (b : ℕ) (parts : List (List ℕ)) → AreSome parts → AreSome (cond t ([] ∷ parts) (onto_first b parts))
some_more true b parts some = record { first = []; later = parts; is = refl }
some_more false b parts some = record { first = b ∷ some.first; later = some.later; is = ap (onto_first b) some.is }

some_parts : (text : List ℕ) → AreSome (slice_split is_end text)
some_parts [] = record { first = []; later = []; is = refl }
some_parts (b ∷ more) = some_more (is_end b) b (slice_split is_end more) (some_parts more)

first_more : (t : Bool) (b : ℕ) (first : List ℕ) (parts : List (List ℕ)) → HaveFirst first parts
    → HaveFirst (cond t [] (b ∷ first)) (cond t ([] ∷ parts) (onto_first b parts))
first_more true b first parts have = record { next = first; later = have.next ∷ have.later; is = ap (λ (ps : List (List ℕ)). [] ∷ ps) have.is }
first_more false b first parts have = record { next = have.next; later = have.later; is = ap (onto_first b) have.is }

first_parts : (text more : List ℕ) → HaveFirst (first_part text) (slice_split is_end (text ++ 10 ∷ more))
first_parts [] more =
    let some = some_parts more in
    record { next = some.first; later = some.later; is = ap (λ (ps : List (List ℕ)). [] ∷ ps) some.is }
first_parts (b ∷ text) more = first_more (is_end b) b (first_part text) (slice_split is_end (text ++ 10 ∷ more)) (first_parts text more)

first_line_is : (first : List ℕ) (parts : List (List ℕ)) → HaveFirst first parts → first_of (lines_of_parts parts) ≡ strip_carriage_return first
first_line_is first parts have = ap (λ (ps : List (List ℕ)). first_of (lines_of_parts ps)) have.is

one_first_line : (text more other : List ℕ) → first_of (lines (text ++ 10 ∷ more)) ≡ first_of (lines (text ++ 10 ∷ other))
one_first_line text more other =
    first_line_is (first_part text) _ (first_parts text more) ∙ sym (first_line_is (first_part text) _ (first_parts text other))

-- ---- verdicts

-- what stands before the end of an accepted log's first line
abbrev begun : ℕ → Option RecordId → List ℕ
begun count head = codes "ok " ++ (decimal count ++ (codes " " ++ head_text head))

starts : (count : ℕ) (head : Option RecordId) → accepted_start count head ≡ begun count head ++ 10 ∷ []
starts count head =
    let d : List ℕ = decimal count in
    let s : List ℕ = codes " " in
    let h : List ℕ = head_text head in
    let end : List ℕ = 10 ∷ [] in
    sym (append_assoc (codes "ok ") (d ++ (s ++ h)) end
    ∙ ap (λ (text : List ℕ). codes "ok " ++ text) (append_assoc d (s ++ h) end ∙ ap (λ (text : List ℕ). d ++ text) (append_assoc s h end)))

begins : (count : ℕ) (head : Option RecordId) (told : List ℕ) → (accepted_line count head told).text ≡ begun count head ++ 10 ∷ told
begins count head told = ap (λ (text : List ℕ). text ++ told) (starts count head) ∙ append_assoc (begun count head) (10 ∷ []) told

accepted_begins : (count : ℕ) (head : Option RecordId) (told : List ℕ)
    → first_of (lines (accepted_start count head)) ≡ first_of (lines (accepted_line count head told).text)
accepted_begins count head told =
    ap (λ text. first_of (lines text)) (starts count head) ∙ one_first_line (begun count head) [] told
    ∙ sym (ap (λ text. first_of (lines text)) (begins count head told))

-- what P holds of begins as itself
pub begins_as_itself : (P : OutputData → Type 0) (printed : OutputData) → P printed → BeginsAs P printed
begins_as_itself P printed h = record { whole = printed; holds = h; line = refl; status = refl }

pub error_begins : (P : OutputData → Type 0) (end : CommandError) → IfOutput P end → IfOutput (BeginsAs P) end
error_begins P end h = IfOutput-weaker P (BeginsAs P) (begins_as_itself P) end h

module _ {Meaning Fault View Offence : Type 0} (log : LogDisplay Meaning Fault View Offence) (belongs : SignatureRelation) (allows_empty : Bool) where
  -- the first line alone of the answer to a lawful log of which no more than records is demanded
  first_or_not : (ls inputs : List (List ℕ)) → IsLawful log belongs ls inputs → (found : Option (List ℕ))
      → unmet (records_alone allows_empty) (length inputs) (log.kind.head (view_of log inputs)) ≡ found → (printed : OutputData)
      → printed ≡ line_or (record { text = accepted_start (length inputs) (log.kind.head (view_of log inputs)); status = 0 }) found
      → BeginsAs (IsAudited log belongs (records_alone allows_empty) None ls) printed
  first_or_not ls inputs it None e printed is = record {
    whole = log_shown log (length inputs) (view_of log inputs);
    holds = lawful inputs it (met e refl);
    line = ap (λ (p : OutputData). first_of (lines p.text)) is
        ∙ accepted_begins (length inputs) (log.kind.head (view_of log inputs)) (log.shown (view_of log inputs));
    status = ap (λ (p : OutputData). p.status) is;
  }
  first_or_not ls inputs it (Some text) e printed is =
      begins_as_itself (IsAudited log belongs (records_alone allows_empty) None ls) printed (lawful inputs it (not_met text e is))

  -- the same of a state that stands for the inputs
  pub first_answers : (ls inputs : List (List ℕ)) → IsLawful log belongs ls inputs → (view : View) → view ≡ view_of log inputs
      → (count : ℕ) → count ≡ length inputs → (head : Option RecordId) → head ≡ log.kind.head view → (result : Result CommandOutput CommandError)
      → Answers (λ printed. printed ≡ line_or (record { text = accepted_start count head; status = 0 }) (unmet (records_alone allows_empty) count head)) result
      → Answers (BeginsAs (IsAudited log belongs (records_alone allows_empty) None ls)) result
  first_answers ls inputs it view stands count counted head is_head result h =
      Answers-to (λ printed. printed ≡ line_or (record { text = accepted_start count head; status = 0 }) (unmet (records_alone allows_empty) count head))
      (BeginsAs (IsAudited log belongs (records_alone allows_empty) None ls))
      (λ printed is. first_or_not ls inputs it (unmet (records_alone allows_empty) (length inputs) (log.kind.head (view_of log inputs))) refl printed
      (is ∙ ap (λ (n : ℕ). line_or (record { text = accepted_start n head; status = 0 }) (unmet (records_alone allows_empty) n head)) counted
      ∙ ap (λ (d : Option RecordId). line_or (record { text = accepted_start (length inputs) d; status = 0 }) (unmet (records_alone allows_empty) (length inputs) d))
      (is_head ∙ ap log.kind.head stands))) result h

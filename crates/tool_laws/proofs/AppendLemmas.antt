-- What is answered where lines are added to a log: of what its state shows, the lines that are new.
use Rattle.std.proofs.Common.{◌≡◌, ◌<◌, ◌≤◌, ◌-◌, ◌==◌, ℕ, Bool, false, List, [], ◌∷◌, ◌++◌, codes, length, take, get_or, Option, refl, sym, ap, subst, ◌∙◌, inl, inr, arith, append_assoc}
use Rattle.std.specs.Prelude.{if◌then◌else◌, slice_index}
use Rattle.std.specs.List.{AllByRecursion, slice_split}
use Rattle.std.specs.Str.Lines.{lines, lines_of_parts, strip_carriage_return}
use Rattle.std.proofs.lemmas.Bool.{cases_lt}
use Rattle.std.proofs.lemmas.Bool.Decides.{nat_tests}
use Rattle.std.proofs.lemmas.List.Elements.{All-from_get_or}
use Rattle.std.proofs.lemmas.List.Splits.{slice_split_at}
use Rattle.warg_protocol.specs.Logs.{SignatureRelation}
use Rattle.warg_protocol.specs.Records.{RecordId}
use Rattle.warg_audit.specs.LogAnswers.{LogDisplay, accepted_start, view_of}
use Rattle.warg_audit.specs.Printouts.{OutputData, bad_line}
use Rattle.tool_answers.specs.Verdicts.{envelopes_of}
use Rattle.warg_audit.specs.Files.Files.{Files}
use Rattle.warg_audit.specs.Files.RecordLines.{record_lines}
use Rattle.warg_audit.specs.Files.Texts.{all_lines, no}
use Rattle.tool_changes.specs.Additions.{IsAddition, IsAllOrNone, IsPutOf, IsRunError, addition_text, believed, file_refused, is_none_of, new_lines, put, refused, taken, too_long, unflushed, unwritten, whole_refused, with_lines}
use Rattle.tool_changes.specs.Appends.{IsAddedTo, IsAppended, bad, no_file, no_lines as lines_unread, no_log, no_record, of_lines, to_log}
use Rattle.warg_printable.specs.Lines.{IsPrintedText, with_ends}
use Rattle.warg_printable.specs.Printable.{IsPrintable}
use Rattle.warg_printable.proofs.LineLemmas.{both_lines}
use Rattle.warg_printable.proofs.ShownLemmas.{shown_byte}
use Rattle.tool_laws.proofs.FileLemmas.{silent_clean, unheld_clean, unread_clean}
use Rattle.tool_laws.proofs.LineLemmas.{IsClean, all_filtered, clean_line, clean_same, line_text, plain_line, shown_lines}
use Rattle.tool_laws.proofs.LogLemmas.{IsPlainLog, bad_one, negative_clean, start_one}

-- ---- the lines of a printed text

differ : (a b : ℕ) → b < a → (a == b) ≡ false
differ a b h = grind (arith, nat_tests)

-- a control character of ASCII stands nowhere in a text with no hidden character
no_control : (c : ℕ) → c < 32 → (text : List ℕ) → IsPrintable text → (k : ℕ) → k < length text → (get_or text k 0 == c) ≡ false
no_control c small text h k below = elim (cases_lt (get_or text k 0) 128) [
  | inl low ↦
      let bounds = shown_byte text h k below low in
      let printed : 32 ≤ get_or text k 0 = bounds.0 in differ (get_or text k 0) c (omega arith)
  | inr high ↦ differ (get_or text k 0) c (omega arith)
]

unstripped : (b : Bool) (x y : List ℕ) → b ≡ false → (if b then x else y) ≡ y
unstripped b x y e = rw e refl

-- so no line of it loses one at its end
strip_shown : (text : List ℕ) → IsPrintable text → IsPrintable (strip_carriage_return text)
strip_shown [] h = h
strip_shown (b ∷ more) h =
    let text : List ℕ = b ∷ more in
    let last : ℕ = length text - 1 in
    subst (λ (l : List ℕ). IsPrintable l)
    (sym (unstripped (slice_index text last == 13) (take last text) text (no_control 13 (omega arith) text h last (omega arith)))) h

parts : (all : List (List ℕ)) → AllByRecursion IsPrintable all → slice_split (λ b. b == 10) (with_ends all) ≡ all ++ [] ∷ []
parts [] h = refl
parts (text ∷ more) h =
    ap (slice_split (λ b. b == 10)) (append_assoc text (codes "\n") (with_ends more))
    ∙ slice_split_at (λ b. b == 10) text 10 (with_ends more)
    (All-from_get_or (λ b. (b == 10) ≡ false) text 0 (λ k below. no_control 10 (omega arith) text h.0 k below)) refl
    ∙ ap (λ (l : List (List ℕ)). text ∷ l) (parts more h.1)

parts_shown : (all : List (List ℕ)) → AllByRecursion IsPrintable all → AllByRecursion IsPrintable (lines_of_parts (all ++ [] ∷ []))
parts_shown [] h = tt
parts_shown (text ∷ []) h = (strip_shown text h.0, tt)
parts_shown (text ∷ next ∷ more) h = (strip_shown text h.0, parts_shown (next ∷ more) h.1)

pub lines_shown : (text : List ℕ) → IsPrintedText text → AllByRecursion IsPrintable (lines text)
lines_shown text h =
    subst (λ (l : List ℕ). AllByRecursion IsPrintable (lines l)) (sym h.1.is)
    (subst (λ (l : List (List ℕ)). AllByRecursion IsPrintable (lines_of_parts l)) (sym (parts h.0 h.1.each)) (parts_shown h.0 h.1.each))

-- ---- what is added

addition_clean : (count : ℕ) (head : Option RecordId) (before shown : List ℕ) → IsPrintedText (accepted_start count head) → IsPrintedText shown
    → IsPrintedText (addition_text count head before shown).text
addition_clean count head before shown start h =
    both_lines (accepted_start count head) (all_lines (new_lines before shown)) start
    (shown_lines (new_lines before shown) (all_filtered IsPrintable (is_none_of (lines before)) (lines shown) (lines_shown shown h)))

module _ {Meaning Fault View Offence : Type 0} (log : LogDisplay Meaning Fault View Offence) (plain : IsPlainLog log) (belongs : SignatureRelation) where
  added_clean : (file whole : List ℕ) (verdict : OutputData) → IsAddition log belongs file whole verdict → IsClean verdict
  added_clean file whole verdict h =
      let head : Option RecordId = log.kind.head (view_of log h.inputs) in
      clean_same verdict (addition_text (length h.inputs) head h.before (log.shown (view_of log h.inputs))) h.is
      (addition_clean (length h.inputs) head h.before (log.shown (view_of log h.inputs))
      (line_text (accepted_start (length h.inputs) head) (start_one (length h.inputs) head (plain.heads (envelopes_of log h.inputs))))
      (plain.shown (envelopes_of log h.inputs)))

  run_error_clean : (file whole : List ℕ) (printed : OutputData) → IsRunError log belongs file whole printed → IsClean printed
  run_error_clean file whole printed (whole_refused h) = negative_clean log plain belongs (record_lines whole) printed h
  run_error_clean file whole printed (file_refused h) = negative_clean log plain believed (record_lines file) printed h

  put_clean : (path bytes : List ℕ) (verdict : OutputData) (old new : Option Files) (printed : OutputData) (told : List ℕ)
      → IsPutOf path bytes verdict old new printed told → IsClean verdict → IsClean printed
  put_clean path bytes verdict old new printed told (put puts flushed is) h = clean_same printed verdict is h
  put_clean path bytes verdict old new printed told (unflushed puts is) h = silent_clean 3 printed is.failed
  put_clean path bytes verdict old new printed told (unwritten cause same is) h = silent_clean 3 printed is.failed

  all_clean : (limit : ℕ) (path file added : List ℕ) (old new : Option Files) (printed : OutputData) → IsAllOrNone log belongs limit path file added old new printed
      → IsClean printed
  all_clean limit path file added old new printed (too_long long same is) = silent_clean 2 printed is
  all_clean limit path file added old new printed (refused fits h same) = run_error_clean file (with_lines file added) printed h
  all_clean limit path file added old new printed (taken verdict fits h told is_put) =
      put_clean path (with_lines file added) verdict old new printed told is_put (added_clean file (with_lines file added) verdict h)

  to_clean : (limit : ℕ) (old new : Option Files) (path added : List ℕ) (printed : OutputData) → IsAddedTo log belongs limit old new path added printed → IsClean printed
  to_clean limit old new path added printed (bad index at is same) = clean_line printed (bad_line index) is (bad_one index)
  to_clean limit old new path added printed (no_record spell is same) = clean_line printed (no (codes "empty\n")) is (plain_line (codes "empty") refl)
  to_clean limit old new path added printed (no_log inputs spell some unheld same) = unheld_clean printed unheld
  to_clean limit old new path added printed (to_log inputs spell some file reads h) = all_clean limit path file added old new printed h

  -- the answer to lines that are added
  pub append_clean : (limit : ℕ) (old new : Option Files) (path lines : List ℕ) (printed : OutputData) → IsAppended log belongs limit old new path lines printed
      → IsClean printed
  append_clean limit old new path lines printed (no_file is_input is same) = silent_clean 2 printed is
  append_clean limit old new path lines printed (lines_unread is_file is same) = unread_clean old lines printed is
  append_clean limit old new path lines printed (of_lines is_file added reads h) = to_clean limit old new path added printed h

-- The lines of many logs, one after another.
use Rattle.std.proofs.Common.{◌≡◌, ◌+◌, ◌<◌, ℕ, Bool, true, false, max, List, [], ◌∷◌, ◌++◌, length, take, filter, map, refl, sym, ap, ◌∙◌, subst, Option, Some, None, unwrap_or, slice_index_or, Result, Ok, Err, IfOk, OnOk, Bor}
use Rattle.std.proofs.lemmas.Iterator.{YieldsList}
use Rattle.std.proofs.lemmas.List.{map-append}
use Rattle.std.proofs.lemmas.List.Elements.{filter-append}
use Rattle.std.specs.List.{list_any}
use Rattle.std.specs.Prelude.{◌==◌, ◌||◌, codes}
use Rattle.std.specs.Str.Lines.{lines}
use Rattle.std.specs.declared.alloc.AllocError.{AllocError}
use Rattle.warg_protocol.specs.Logs.{SignatureRelation}
use Rattle.warg_audit.specs.Printouts.{OutputData}
use Rattle.warg_audit.specs.declared.log_kind.LogKind.{LogKind}
use Rattle.warg_audit.specs.Files.Files.{Files, Lacks, Reads}
use Rattle.warg_audit.specs.Files.Answers.{output_data, Answers, IsSettled}
use Rattle.tool_changes.specs.ManyAudits.{audit_line, empty_list_line, is_path, IsPathLine, IsVerdictOn, audited, unread, IsWith, IsWithAll, IsWithListed, IsWithNamed, IsWithPaths, IsWithWords}
use Rattle.tool_changes.specs.ManyAudits as many
use Rattle.warg_audit.specs.Files.ReadErrors.{unread_text}
use Rattle.warg_audit.specs.Files.RecordLines.{record_lines, texts}
use Rattle.warg_audit.specs.Files.Texts.{line}
use Rattle.tool_changes.specs.Audits.{BeginsAs, IsAuditOf, first_of, records_alone}
use Rattle.tool_layout.specs.Members.Objects.{path_object}
use Rattle.warg_printable.specs.Printable.{printable}
use Rattle.tool_changes.specs.LineForms.{line_forms}
use Rattle.tool_changes.proofs.FirstLineLemmas.{begins_as_itself}
use Rattle.warg_audit.specs.declared.files.command_output.CommandOutput.{CommandOutput}
use Rattle.warg_audit.specs.declared.files.input.ReadError.{ReadError}
use Rattle.warg_audit.specs.declared.files.input.ReadError.TheVariants.{Missing}
use Rattle.warg_audit.specs.declared.files.command_error.CommandError.{CommandError}
use Rattle.warg_audit.proofs.FilesLemmas.AnswerLemmas.{Answers-to}
use Rattle.warg_audit.proofs.FilesLemmas.UnusableLemmas.{settled_is}
use Rattle.warg_audit.proofs.FilesLemmas.RecordLineLemmas.{taken-suc}

-- P of the answer of a command, as its result or as its error
settled_answers : (P : OutputData → Type 0) (outcome : Result CommandOutput CommandError) (into_output : Result CommandOutput AllocError)
    → IsSettled outcome into_output → Answers P outcome → IfOk into_output (λ answer. P (output_data answer))
settled_answers P outcome (Ok answer) is h = settled_is P outcome answer is h
settled_answers P outcome (Err error) is h = tt

-- the first line of the verdict on the log in a file that is read
pub verdict_read : (P : List (List ℕ) → OutputData → Type 0) (files : Option Files) (path bytes : List ℕ) (outcome : Result CommandOutput CommandError)
    (into_output : Result CommandOutput AllocError) → IsSettled outcome into_output → Reads files path bytes
    → Answers (BeginsAs (P (record_lines bytes))) outcome
    → IfOk into_output (λ answer. BeginsAs (IsVerdictOn files P path) (output_data answer))
verdict_read P files path bytes outcome into_output is held h =
    settled_answers (BeginsAs (IsVerdictOn files P path)) outcome into_output is
    (Answers-to (BeginsAs (P (record_lines bytes))) (BeginsAs (IsVerdictOn files P path))
    (λ printed it. record { whole = it.whole; holds = audited bytes held it.holds; line = it.line; status = it.status }) outcome h)

-- the same, whole
pub whole_verdict_read : (P : List (List ℕ) → OutputData → Type 0) (files : Option Files) (path bytes : List ℕ) (outcome : Result CommandOutput CommandError)
    (into_output : Result CommandOutput AllocError) → IsSettled outcome into_output → Reads files path bytes
    → Answers (P (record_lines bytes)) outcome → IfOk into_output (λ answer. IsVerdictOn files P path (output_data answer))
whole_verdict_read P files path bytes outcome into_output is held h =
    settled_answers (IsVerdictOn files P path) outcome into_output is
    (Answers-to (P (record_lines bytes)) (IsVerdictOn files P path) (λ printed it. audited bytes held it) outcome h)

-- and why one can't be read
printed_of_both : (verdict told : OutputData) (text : List ℕ) (status : ℕ) → verdict ≡ record { text = text; status = status }
    → text ≡ told.text → status ≡ told.status → verdict ≡ told
printed_of_both verdict told text status is e f = is ∙ rw (e, f) refl

pub whole_verdict_unread : (P : List (List ℕ) → OutputData → Type 0) (files : Option Files) (path : List ℕ) (fault : ReadError)
    (verdict : OutputData) (text : List ℕ) (status : ℕ) → (fault ≡ Missing → Lacks files path)
    → verdict ≡ record { text = text; status = status } → text ≡ (unread_text fault).text → status ≡ (unread_text fault).status
    → IsVerdictOn files P path verdict
whole_verdict_unread P files path fault verdict text status lacks is e f =
    unread fault lacks (printed_of_both verdict (unread_text fault) text status is e f)

pub verdict_unread : (P : List (List ℕ) → OutputData → Type 0) (files : Option Files) (path : List ℕ) (fault : ReadError)
    (verdict : OutputData) (text : List ℕ) (status : ℕ) → (fault ≡ Missing → Lacks files path)
    → verdict ≡ record { text = text; status = status } → text ≡ (unread_text fault).text → status ≡ (unread_text fault).status
    → BeginsAs (IsVerdictOn files P path) verdict
verdict_unread P files path fault verdict text status lacks is e f =
    begins_as_itself (IsVerdictOn files P path) verdict (whole_verdict_unread P files path fault verdict text status lacks is e f)

pub on_ok_to : {T E P Q : Type 0} → (P → Q) → (r : Result T E) → OnOk r P → OnOk r Q
on_ok_to f (Ok x) h = f h
on_ok_to f (Err e) h = tt

-- what a call gives first, or nothing
pub first_given : {S : Type 0} (steps : S → Option (Bor (List ℕ)) → S → Type 0) (s t : S) (ys : List (List ℕ))
    (r : Option (Bor (List ℕ))) (d : Bor (List ℕ)) → YieldsList steps (λ x. x.now) s ys → steps s r t → d.now ≡ []
    → (unwrap_or r d).now ≡ first_of ys
first_given steps s t [] None d road step none = none
first_given steps s t [] (Some x) d road step none = absurd (road.runs x t step)
first_given steps s t (y ∷ more) None d road step none = absurd (road.runs.0 t step)
first_given steps s t (y ∷ more) (Some x) d road step none = (road.runs.1 x t step).0

abbrev pub printed_of : List ℕ → ℕ → OutputData
printed_of text status = record { text = text; status = status }

pub printed_is : (text t : List ℕ) (status n : ℕ) → text ≡ t → status ≡ n → printed_of text status ≡ printed_of t n
printed_is text t status n e f = rw (e, f) refl

-- the line of a log behind its path
pub path_line_is : (json : Bool) (files : Option Files) (P : List (List ℕ) → OutputData → Type 0) (path : List ℕ) (verdict : OutputData) (text : List ℕ)
    → IsVerdictOn files P path verdict → text ≡ audit_line json path verdict → IsPathLine json files P path (printed_of text verdict.status)
path_line_is json files P path verdict text own e =
    record { verdict = verdict; own = own; is = ap (λ t. printed_of t verdict.status) e }

-- the line of a log is made of the first line and the status alone
same_line : (json : Bool) (path : List ℕ) (short whole : OutputData) → first_of (lines short.text) ≡ first_of (lines whole.text)
    → short.status ≡ whole.status → audit_line json path short ≡ audit_line json path whole
same_line false path short whole first status = ap (λ text. line (printable (path ++ (codes ": " ++ text)))) first
same_line true path short whole first status =
    ap (λ text. path_object (line_forms (codes "audit")) (codes "audit") path short.status text) first
    ∙ ap (λ n. path_object (line_forms (codes "audit")) (codes "audit") path n (first_of (lines whole.text))) status

module _ (json : Bool) (kind : LogKind) (belongs : SignatureRelation) (files : Option Files) (allows_empty : Bool) where
  -- one line more
  pub with_line : (path : List ℕ) (before short : OutputData) (text line : List ℕ) (status : ℕ)
      → BeginsAs (IsVerdictOn files (IsAuditOf kind belongs (records_alone allows_empty) None) path) short → line ≡ audit_line json path short
      → text ≡ before.text ++ line → status ≡ max before.status short.status
      → IsWith json kind belongs files allows_empty path before (record { text = text; status = status })
  with_line path before short text line status own said more greater = record {
    verdict = own.whole;
    own = own.holds;
    is = printed_is text _ status _ (rw (said ∙ same_line json path short own.whole own.line own.status) at more)
        (greater ∙ ap (max before.status) own.status);
  }

  -- an empty line of a list names no log, and another names one
  pub no_line : (line : List ℕ) (before : OutputData) → (length line == 0) ≡ true
      → IsWithAll json kind belongs files allows_empty (filter is_path (line ∷ [])) before before
  no_line line before e = rw e refl

  pub one_line : (line : List ℕ) (before after : OutputData) → (length line == 0) ≡ false
      → IsWith json kind belongs files allows_empty line before after
      → IsWithAll json kind belongs files allows_empty (filter is_path (line ∷ [])) before after
  one_line line before after e it = rw e (after, it, refl)

  -- lines behind lines
  pub all_more : (paths more : List (List ℕ)) (before middle after : OutputData)
      → IsWithAll json kind belongs files allows_empty paths before middle → IsWithAll json kind belongs files allows_empty more middle after
      → IsWithAll json kind belongs files allows_empty (paths ++ more) before after
  all_more [] more before middle after e it = subst (λ (p : OutputData). IsWithAll json kind belongs files allows_empty more p after) e it
  all_more (path ∷ paths) more before middle after h it =
      (h.0, h.1, all_more paths more h.0 middle after h.2 it)

  -- the lines of a list so far, and one line more
  pub listed_more : (done : List (Bor (List ℕ))) (line : Bor (List ℕ)) (before middle after : OutputData)
      → IsWithAll json kind belongs files allows_empty (filter is_path (map (λ it. it.now) done)) before middle
      → IsWithAll json kind belongs files allows_empty (filter is_path (line.now ∷ [])) middle after
      → IsWithAll json kind belongs files allows_empty (filter is_path (map (λ it. it.now) (done ++ line ∷ []))) before after
  listed_more done line before middle after so_far it =
      let now : Bor (List ℕ) → List ℕ = λ it. it.now in
      let e : filter is_path (map now (done ++ line ∷ [])) ≡ filter is_path (map now done) ++ filter is_path (line.now ∷ []) =
      ap (filter is_path) (map-append now done (line ∷ [])) ∙ filter-append is_path (map now done) (line.now ∷ []) in
      subst (λ (paths : List (List ℕ)). IsWithAll json kind belongs files allows_empty paths before after) (sym e)
      (all_more (filter is_path (map now done)) (filter is_path (line.now ∷ [])) before middle after so_far it)

  word_more : (words : List (List ℕ)) (word : List ℕ) (before middle after : OutputData)
      → IsWithWords json kind belongs files allows_empty words before middle → IsWithNamed json kind belongs files allows_empty word middle after
      → IsWithWords json kind belongs files allows_empty (words ++ word ∷ []) before after
  word_more [] word before middle after e it =
      (after, subst (λ (p : OutputData). IsWithNamed json kind belongs files allows_empty word p after) e it, refl)
  word_more (first ∷ words) word before middle after h it =
      (h.0, h.1, word_more words word h.0 middle after h.2 it)

  -- one word more
  pub words_more : (n : ℕ) (words : List (Bor (List ℕ))) (d : Bor (List ℕ)) (before middle after : OutputData) → n < length words
      → IsWithWords json kind belongs files allows_empty (texts (take n words)) before middle
      → IsWithNamed json kind belongs files allows_empty (slice_index_or words n d).now middle after
      → IsWithWords json kind belongs files allows_empty (texts (take (n + 1) words)) before after
  words_more n words d before middle after low so_far it =
      rw (taken-suc n words d low) (word_more (texts (take n words)) (slice_index_or words n d).now before middle after so_far it)

  -- the lines of the logs of a list, or the line of one that names none
  pub some_paths : {T E : Type 0} (list : List ℕ) (paths : List (List ℕ)) (before after : OutputData) (result : Result T E)
      → true ≡ (list_any is_path paths || allows_empty)
      → OnOk result (IsWithAll json kind belongs files allows_empty (filter is_path paths) before after)
      → OnOk result (IsWithPaths json kind belongs files allows_empty list paths before after)
  some_paths list paths before after result e h = on_ok_to (λ all. many.some all (sym e)) result h

  pub no_path : {T E : Type 0} (list : List ℕ) (paths : List (List ℕ)) (before after : OutputData) (result : Result T E)
      → false ≡ (list_any is_path paths || allows_empty)
      → OnOk result (after ≡ record { text = before.text ++ empty_list_line json list; status = max before.status 1 })
      → OnOk result (IsWithPaths json kind belongs files allows_empty list paths before after)
  no_path list paths before after result e h = on_ok_to (λ told. many.none (sym e) told) result h

  -- those of a list in a file
  pub listed_paths : {T E : Type 0} (list bytes : List ℕ) (before after : OutputData) (result : Result T E) → Reads files list bytes
      → OnOk result (IsWithPaths json kind belongs files allows_empty list (lines bytes) before after)
      → OnOk result (IsWithListed json kind belongs files allows_empty list before after)
  listed_paths list bytes before after result held h = on_ok_to (λ all. record { bytes = bytes; held = held; all = all }) result h

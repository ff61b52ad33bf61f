-- What is answered to logs that are audited.
use Rattle.std.proofs.Common.{◌≡◌, ℕ, Bool, true, false, List, [], ◌∷◌, ◌++◌, codes, length, Option, Some, None, refl}
use Rattle.std.specs.Prelude.{filter, if◌then◌else◌, not}
use Rattle.std.specs.Borrow.{Bor}
use Rattle.std.specs.Fmt.{decimal}
use Rattle.std.specs.Str.Lines.{lines}
use Rattle.warg_protocol.specs.Logs.{SignatureRelation, contents}
use Rattle.warg_protocol.specs.Records.{RecordId}
use Rattle.warg_replay.specs.declared.audited_log.comparison.Comparison.{Comparison}
use Rattle.warg_replay.specs.declared.audited_log.comparison.Comparison.TheVariants.{Collision, Fork, LeftIsPrefix, RightIsPrefix, Same}
use Rattle.warg_audit.specs.LogAnswers.{LogDisplay, head_text, view_of}
use Rattle.warg_audit.specs.LogKinds.{operator_log, package_log}
use Rattle.warg_audit.specs.Printouts.{OutputData}
use Rattle.tool_answers.specs.Verdicts.{envelopes_of}
use Rattle.warg_audit.specs.Files.Files.{Files}
use Rattle.warg_audit.specs.Files.Texts.{no, side_text}
use Rattle.warg_audit.specs.declared.log_kind.LogKind.{LogKind}
use Rattle.warg_audit.specs.declared.log_kind.LogKind.TheVariants.{Operator, Package}
use Rattle.tool_layout.specs.Members.Forms.{line_members, text_member}
use Rattle.tool_layout.specs.Members.Objects.{forms_of}
use Rattle.tool_changes.specs.Audits.{IsAuditOf, IsAudited, IsBeside, IsBesideAny, IsBesideLines, IsDemanded, beside, first_of, has_head, has_least, lacks_records, line_or, met, not_met, of_older, older_empty, parted, unmet, verdict_on}
use Rattle.tool_changes.specs.LineForms.{line_forms}
use Rattle.tool_changes.specs.ManyAudits.{IsByOlder, IsManyAnswer, IsOneAnswer, IsShownBy, IsWith, IsWithAll, IsWithNamed, IsWithPaths, IsWithWords, audit_line, empty_list_line, is_path, itself, listed, no_id, none, of_log, some}
use Rattle.tool_words.specs.declared.request.Demands.{Demands}
use Rattle.tool_laws.specs.Plain.Plain.{is_plain}
use Rattle.tool_laws.proofs.PlainLemmas.WordLemmas.{decimal_plain}
use Rattle.warg_printable.specs.Lines.{IsPrintedText}
use Rattle.warg_printable.proofs.LineLemmas.{both_lines, no_lines, one_line}
use Rattle.tool_laws.proofs.FileLemmas.{lines_clean, silent_clean, usable_clean}
use Rattle.tool_laws.proofs.KindLemmas.{operator_plain, package_plain}
use Rattle.tool_laws.proofs.LineLemmas.{IfLine, IsClean, clean_line, clean_same, if_line, line_if, line_text, plain_front, plain_line, word_front}
use Rattle.tool_laws.proofs.LogLemmas.{IsPlainLog, collision_one, fork_one, lawful_clean, negative_one, side_one, verdict_clean}
use Rattle.tool_laws.proofs.ObjectLemmas.{object_clean}

-- ---- one log

module _ {Meaning Fault View Offence : Type 0} (log : LogDisplay Meaning Fault View Offence) (plain : IsPlainLog log) where
  unmet_line : (demands : Demands) (count : ℕ) (head : Option RecordId) → is_plain (head_text head) ≡ true → IfLine (unmet demands count head)
  unmet_line demands count head h =
      let other : List ℕ = codes "other head " ++ (head_text head ++ codes "\n") in
      let short : List ℕ = codes "too short " ++ (decimal count ++ codes "\n") in
      let lacks_head : Bool = not (has_head demands.head head) in
      let lacks_more : Bool = not (has_least demands.least count) in
      let third : Option (List ℕ) = if lacks_more then Some short else None in
      let second : Option (List ℕ) = if lacks_head then Some other else third in
      if_line (lacks_records demands count) (Some (codes "empty\n")) second (plain_line (codes "empty") refl)
      (if_line lacks_head (Some other) third (plain_front (codes "other head ") (head_text head ++ codes "\n") refl (plain_line (head_text head) h))
      (if_line lacks_more (Some short) None
      (plain_front (codes "too short ") (decimal count ++ codes "\n") refl (plain_line (decimal count) (decimal_plain count))) tt))

  parted_line : (head : Option RecordId) → is_plain (head_text head) ≡ true → (old new : List (List ℕ)) (comparison : Comparison)
      → IfLine (parted log.kind.id head old new comparison)
  parted_line head h old new Same = tt
  parted_line head h old new (LeftIsPrefix place) = tt
  parted_line head h old new (RightIsPrefix place) =
      plain_front (codes "rolled back ") (decimal (length new) ++ (codes " " ++ (head_text head ++ codes "\n"))) refl
      (word_front (decimal (length new)) (head_text head ++ codes "\n") (decimal_plain (length new)) (plain_line (head_text head) h))
  parted_line head h old new (Fork place) = fork_one log.kind.id plain.ids old new place
  parted_line head h old new (Collision here there) = collision_one log.kind.id plain.ids old here there

  or_clean : (verdict : OutputData) (o : Option (List ℕ)) → IsClean verdict → IfLine o → IsClean (line_or verdict o)
  or_clean verdict None h line = h
  or_clean verdict (Some text) h line = line_text text line

  module _ (belongs : SignatureRelation) where
    on_clean : (inputs : List (List ℕ)) → IsClean (verdict_on log inputs)
    on_clean inputs = verdict_clean log plain (length inputs) (envelopes_of log inputs)

    beside_clean : (before inputs : List (List ℕ)) (printed : OutputData) → IsBeside log before inputs printed → IsClean printed
    beside_clean before inputs printed h =
        clean_same printed _ h.is
        (or_clean (verdict_on log inputs) _ (on_clean inputs)
        (parted_line (log.kind.head (view_of log inputs)) (plain.heads (envelopes_of log inputs)) (contents (envelopes_of log before))
        (contents (envelopes_of log inputs)) h.comparison))

    older_clean : (demands : Demands) (older inputs : List (List ℕ)) (printed : OutputData) → IsBesideLines log belongs demands older inputs printed
        → IsClean printed
    older_clean demands older inputs printed (of_older it h is) =
        clean_line printed (side_text (codes "older") it) is (side_one (codes "older") it refl (negative_one log plain belongs older it h))
    older_clean demands older inputs printed (older_empty before is_lawful lacks is) =
        clean_line printed (side_text (codes "older") (no (codes "empty\n"))) is
        (side_one (codes "older") (no (codes "empty\n")) refl (plain_line (codes "empty") refl))
    older_clean demands older inputs printed (beside before is_lawful has h) = beside_clean before inputs printed h

    any_clean : (demands : Demands) (older : Option (List (List ℕ))) (inputs : List (List ℕ)) (printed : OutputData)
        → IsBesideAny log belongs demands older inputs printed → IsClean printed
    any_clean demands None inputs printed h = clean_same printed (verdict_on log inputs) h (on_clean inputs)
    any_clean demands (Some older) inputs printed h = older_clean demands older inputs printed h

    demanded_clean : (demands : Demands) (older : Option (List (List ℕ))) (inputs : List (List ℕ)) (printed : OutputData)
        → IsDemanded log belongs demands older inputs printed → IsClean printed
    demanded_clean demands older inputs printed (not_met text is_unmet is) =
        let head : Option RecordId = log.kind.head (view_of log inputs) in
        clean_line printed (no text) is
        (line_if (unmet demands (length inputs) head) text is_unmet
        (unmet_line demands (length inputs) head (plain.heads (envelopes_of log inputs))))
    demanded_clean demands older inputs printed (met is_met h) = any_clean demands older inputs printed h

    pub audited_clean : (demands : Demands) (older : Option (List (List ℕ))) (lines : List (List ℕ)) (printed : OutputData)
        → IsAudited log belongs demands older lines printed → IsClean printed
    audited_clean demands older lines printed h =
        lawful_clean log plain belongs (IsDemanded log belongs demands older) (demanded_clean demands older) lines printed h

pub audit_clean : (kind : LogKind) (belongs : SignatureRelation) (demands : Demands) (older : Option (List (List ℕ))) (lines : List (List ℕ)) (printed : OutputData)
    → IsAuditOf kind belongs demands older lines printed → IsClean printed
audit_clean Package belongs demands older lines printed h = audited_clean package_log package_plain belongs demands older lines printed h
audit_clean Operator belongs demands older lines printed h = audited_clean operator_log operator_plain belongs demands older lines printed h

-- ---- lines behind paths

path_line : (json : Bool) (path : List ℕ) (verdict : OutputData) → IsPrintedText (audit_line json path verdict)
path_line false path verdict = one_line (path ++ (codes ": " ++ first_of (lines verdict.text)))
path_line true path verdict =
    object_clean (codes "audit") (text_member (codes "path") path ++ line_members (forms_of (line_forms (codes "audit")) (codes "audit")) (first_of (lines verdict.text))) verdict.status

empty_line : (json : Bool) (list : List ℕ) → IsPrintedText (empty_list_line json list)
empty_line false list = line_text (codes "empty\n") (plain_line (codes "empty") refl)
empty_line true list =
    object_clean (codes "audit") (text_member (codes "path") list ++ line_members (forms_of (line_forms (codes "audit")) (codes "audit")) (codes "empty")) 1

module _ (json : Bool) (files : Option Files) where
  shown_clean : (P : List (List ℕ) → OutputData → Type 0) → ((lines : List (List ℕ)) (printed : OutputData) → P lines printed → IsClean printed)
      → (path : List ℕ) (shows_path : Bool) (printed : OutputData) → IsShownBy json files P path shows_path printed → IsClean printed
  shown_clean P each path false printed h = lines_clean files path P each printed h
  shown_clean P each path true printed h = clean_same printed _ h.is (path_line json path h.verdict)

  older_copy : (path : Option (Bor (List ℕ))) (P : Option (List (List ℕ)) → OutputData → Type 0)
      → ((older : Option (List (List ℕ))) (printed : OutputData) → P older printed → IsClean printed)
      → (printed : OutputData) → IsByOlder files path P printed → IsClean printed
  older_copy None P each printed h = each None printed h
  older_copy (Some path) P each printed h = lines_clean files path.now (λ older. P (Some older)) (λ older it. each (Some older) it) printed h

  -- the answer to one log
  pub one_clean : (kind : LogKind) (belongs : SignatureRelation) (demands : Demands) (shows_path : Bool) (path : List ℕ) (printed : OutputData)
      → IsOneAnswer json kind belongs files demands shows_path path printed → IsClean printed
  one_clean kind belongs demands shows_path path printed (no_id says unusable) = silent_clean 2 printed unusable
  one_clean kind belongs demands shows_path path printed (of_log says h) =
      older_copy demands.older (λ older. IsShownBy json files (IsAuditOf kind belongs demands older) path shows_path)
      (λ older it. shown_clean (IsAuditOf kind belongs demands older) (audit_clean kind belongs demands older) path shows_path it) printed h

-- ---- many logs

module _ (json : Bool) (kind : LogKind) (belongs : SignatureRelation) (files : Option Files) (allows_empty : Bool) where
  with_clean : (path : List ℕ) (before after : OutputData) → IsWith json kind belongs files allows_empty path before after → IsClean before → IsClean after
  with_clean path before after h clean =
      clean_same after _ h.is (both_lines before.text (audit_line json path h.verdict) clean (path_line json path h.verdict))

  all_clean : (paths : List (List ℕ)) (before after : OutputData) → IsWithAll json kind belongs files allows_empty paths before after → IsClean before
      → IsClean after
  all_clean [] before after h clean = clean_same after before h clean
  all_clean (path ∷ more) before after h clean = all_clean more h.0 after h.2 (with_clean path before h.0 h.1 clean)

  paths_clean : (list : List ℕ) (paths : List (List ℕ)) (before after : OutputData)
      → IsWithPaths json kind belongs files allows_empty list paths before after → IsClean before → IsClean after
  paths_clean list paths before after (some h is_some) clean = all_clean (filter is_path paths) before after h clean
  paths_clean list paths before after (none is_none is) clean =
      clean_same after _ is (both_lines before.text (empty_list_line json list) clean (empty_line json list))

  named_clean : (word : List ℕ) (before after : OutputData) → IsWithNamed json kind belongs files allows_empty word before after → IsClean before
      → IsClean after
  named_clean word before after (listed list is h) clean = paths_clean list (lines h.bytes) before after h.all clean
  named_clean word before after (itself is h) clean = with_clean word before after h clean

  words_clean : (words : List (List ℕ)) (before after : OutputData) → IsWithWords json kind belongs files allows_empty words before after → IsClean before
      → IsClean after
  words_clean [] before after h clean = clean_same after before h clean
  words_clean (word ∷ more) before after h clean = words_clean more h.0 after h.2 (named_clean word before h.0 h.1 clean)

  -- the answer to many
  pub many_clean : (words : List (List ℕ)) (printed : OutputData) → IsManyAnswer json kind belongs files allows_empty words printed → IsClean printed
  many_clean words printed h =
      usable_clean (IsWithWords json kind belongs files allows_empty words (record { text = []; status = 0 }))
      (λ it all. words_clean words (record { text = []; status = 0 }) it all no_lines) printed h

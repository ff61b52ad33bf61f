-- The lines of a log have one answer, and so have words and bytes.
use Rattle.std.proofs.Common.{◌≡◌, ℕ, Bool, true, false, cond, nat_lt, List, length, refl, sym, ◌∙◌, ◌↔◌, ap, Option, Some, None, Result, Ok, Err}
use Rattle.std.proofs.lemmas.Bool.{ltb-true, ltb-false, lt-ltb, le-ltb}
use Rattle.warg_envelope.specs.Envelopes.{EnvelopeFault, envelope_of}
use Rattle.warg_log_records.specs.Kinds.{SignatureRelation}
use Rattle.warg_replay.specs.OutcomeRuns.{IsFoundBy, first_offence_from}
use Rattle.warg_replay.specs.Inputs.{Cause}
use Rattle.warg_crypto.specs.Signed.{toy_belongs}
use Rattle.warg_audit.specs.declared.log_kind.LogKind.{LogKind}
use Rattle.warg_audit.specs.declared.log_kind.LogKind.TheVariants.{Package, Operator}
use Rattle.warg_audit.specs.declared.command.Command.{Command}
use Rattle.warg_audit.specs.declared.command.Command.TheVariants.{Id, Audit}
use Rattle.warg_audit.specs.declared.files.lines.LineError.{LineError}
use Rattle.warg_audit.specs.declared.files.lines.LineError.TheVariants.{Bad, OutOfMemory}
use Rattle.warg_audit.specs.Answers.{IsIdAnswer, id_answer, IsCommandAnswer, command_answer, IsAnswer, other_words, over_limit, of_lines, asked_answer, answer_of}
use Rattle.warg_audit.specs.Commands.{command_of}
use Rattle.warg_audit.specs.LogKinds.{package_log, operator_log, IsLogKindAnswer, log_kind_answer}
use Rattle.warg_audit.specs.Files.Lines.{lines_of, inputs_of}
use Rattle.warg_audit.specs.LogAnswers.{LogDisplay, IsLogAnswer, all_lawful, first_refused, IsAuditAnswer, first_bad, all_spelled, found_answer, log_answer, spelled_answer, audit_answer}
use Rattle.warg_audit.specs.Printouts.{OutputData, too_long}
use Rattle.warg_audit.proofs.FilesLemmas.LineLemmas.{lines_of-are, lines_of-only}
use Rattle.warg_audit.proofs.FilesLemmas.InputLemmas as spelled

-- the first offence of inputs is what the search from the front finds
abbrev pub IsSearched : {Meaning Fault View Offence : Type 0} → LogDisplay Meaning Fault View Offence → Type 0
IsSearched {Meaning} {Fault} {View} {Offence} log = (belongs : SignatureRelation) (inputs : List (List ℕ)) (found : Option (ℕ × Cause (EnvelopeFault Fault) Offence))
    → IsFoundBy log.kind belongs (envelope_of log.read) log.kind.view_of inputs found ↔ (first_offence_from log.kind belongs (envelope_of log.read) log.kind.start inputs ≡ found)

module _ {Meaning Fault View Offence : Type 0} (log : LogDisplay Meaning Fault View Offence) (searched : IsSearched log) (belongs : SignatureRelation) where
  found_is : (inputs : List (List ℕ)) (found : Option (ℕ × Cause (EnvelopeFault Fault) Offence))
      → IsFoundBy log.kind belongs (envelope_of log.read) log.kind.view_of inputs found → IsLogAnswer log belongs inputs (found_answer log belongs inputs found)
  found_is inputs None none = all_lawful none refl
  found_is inputs (Some p) first = first_refused p.0 p.1 first refl

  log_is : (inputs : List (List ℕ)) → IsLogAnswer log belongs inputs (log_answer log belongs inputs)
  log_is inputs =
      let found = first_offence_from log.kind belongs (envelope_of log.read) log.kind.start inputs in
      found_is inputs found ((searched belongs inputs found).1 refl)

  log_only : (inputs : List (List ℕ)) (printed : OutputData) → IsLogAnswer log belongs inputs printed → printed ≡ log_answer log belongs inputs
  log_only inputs printed (all_lawful none e) =
      e ∙ ap (found_answer log belongs inputs) (sym ((searched belongs inputs None).0 none))
  log_only inputs printed (first_refused index cause first e) =
      e ∙ ap (found_answer log belongs inputs) (sym ((searched belongs inputs (Some (index, cause))).0 first))

  spelled_is : (lines : List (List ℕ)) (inputs : Result (List (List ℕ)) LineError) → inputs_of lines ≡ inputs → IsAuditAnswer log belongs lines (spelled_answer log belongs inputs)
  spelled_is lines (Ok inputs) e = all_spelled inputs (spelled.spell_from 0 lines inputs e) (log_is inputs)
  spelled_is lines (Err (Bad index)) e = first_bad index (spelled.first_bad lines index e) refl
  spelled_is lines (Err OutOfMemory) e = absurd (spelled.memory_never lines e)

  pub audit_is : (lines : List (List ℕ)) → IsAuditAnswer log belongs lines (audit_answer log belongs lines)
  audit_is lines = spelled_is lines (inputs_of lines) refl

  pub audit_only : (lines : List (List ℕ)) (printed : OutputData) → IsAuditAnswer log belongs lines printed → printed ≡ audit_answer log belongs lines
  audit_only lines printed (first_bad index bad e) = e ∙ ap (spelled_answer log belongs) (sym (spelled.from_first_bad lines index bad))
  audit_only lines printed (all_spelled inputs spell is) =
      log_only inputs printed is ∙ ap (spelled_answer log belongs) (sym (spelled.from_spell 0 lines inputs spell))

module _ (of_package : IsSearched package_log) (of_operator : IsSearched operator_log) where
  pub log_kind_is : (log_kind : LogKind) (lines : List (List ℕ)) → IsLogKindAnswer log_kind lines (log_kind_answer log_kind lines)
  log_kind_is Package lines = audit_is package_log of_package toy_belongs lines
  log_kind_is Operator lines = audit_is operator_log of_operator toy_belongs lines

  pub log_kind_only : (log_kind : LogKind) (lines : List (List ℕ)) (printed : OutputData) → IsLogKindAnswer log_kind lines printed → printed ≡ log_kind_answer log_kind lines
  log_kind_only Package lines printed is = audit_only package_log of_package toy_belongs lines printed is
  log_kind_only Operator lines printed is = audit_only operator_log of_operator toy_belongs lines printed is

-- ---- words and bytes

module _ (id_is : (log_kind : LogKind) (lines : List (List ℕ)) → IsIdAnswer log_kind lines (id_answer log_kind lines))
    (log_is : (log_kind : LogKind) (lines : List (List ℕ)) → IsLogKindAnswer log_kind lines (log_kind_answer log_kind lines)) (words : List (List ℕ)) (bytes : List ℕ) where
  command_is : (command : Command) (lines : List (List ℕ)) → IsCommandAnswer command lines (command_answer command lines)
  command_is (Id log_kind) lines = id_is log_kind lines
  command_is (Audit log_kind) lines = log_is log_kind lines

  limited_is : (command : Command) → command_of words ≡ Some command → (long : Bool) → nat_lt 16_777_216 (length bytes) ≡ long
      → IsAnswer words bytes (cond long too_long (command_answer command (lines_of bytes)))
  limited_is command e true long = over_limit command e (ltb-true 16_777_216 (length bytes) long) refl
  limited_is command e false short = of_lines command (lines_of bytes) e (ltb-false 16_777_216 (length bytes) short) (lines_of-are bytes) (command_is command (lines_of bytes))

  asked_is : (asked : Option Command) → command_of words ≡ asked → IsAnswer words bytes (asked_answer asked bytes)
  asked_is None e = other_words e refl
  asked_is (Some command) e = limited_is command e (nat_lt 16_777_216 (length bytes)) refl

  pub answer_is : IsAnswer words bytes (answer_of words bytes)
  answer_is = asked_is (command_of words) refl

module _ (id_only : (log_kind : LogKind) (lines : List (List ℕ)) (printed : OutputData) → IsIdAnswer log_kind lines printed → printed ≡ id_answer log_kind lines)
    (log_only : (log_kind : LogKind) (lines : List (List ℕ)) (printed : OutputData) → IsLogKindAnswer log_kind lines printed → printed ≡ log_kind_answer log_kind lines)
    (words : List (List ℕ)) (bytes : List ℕ) (printed : OutputData) where
  command_only : (command : Command) (lines : List (List ℕ)) → IsCommandAnswer command lines printed → printed ≡ command_answer command lines
  command_only (Id log_kind) lines is = id_only log_kind lines printed is
  command_only (Audit log_kind) lines is = log_only log_kind lines printed is

  asked : (command : Option Command) → command_of words ≡ command → asked_answer command bytes ≡ answer_of words bytes
  asked command e = ap (λ (o : Option Command). asked_answer o bytes) (sym e)

  limited : (command : Command) (long : Bool) → nat_lt 16_777_216 (length bytes) ≡ long
      → cond long too_long (command_answer command (lines_of bytes)) ≡ asked_answer (Some command) bytes
  limited command long e = ap (λ (b : Bool). cond b too_long (command_answer command (lines_of bytes))) (sym e)

  pub answer_only : IsAnswer words bytes printed → printed ≡ answer_of words bytes
  answer_only (other_words e is) = is ∙ asked None e
  answer_only (over_limit command e long is) = is ∙ limited command true (lt-ltb 16_777_216 (length bytes) long) ∙ asked (Some command) e
  answer_only (of_lines command lines e short are is) =
      command_only command lines is ∙ ap (command_answer command) (lines_of-only bytes lines are)
      ∙ limited command false (le-ltb 16_777_216 (length bytes) short) ∙ asked (Some command) e

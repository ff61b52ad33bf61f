-- What is answered when the record that words say is made.
use Rattle.std.proofs.Common.{◌≡◌, ℕ, zero, suc, List, [], ◌∷◌, ◌∙◌, ap, refl, sym, subst, Option, Some, None, Result, Ok, IsErr, Bor, length}
use Rattle.std.specs.List.{slice_get}
use Rattle.warg_crypto.specs.Time.Times.{Time}
use Rattle.warg_crypto.specs.Keys.{public_key_of}
use Rattle.warg_crypto.specs.NamedBytes.{NamedBytes}
use Rattle.warg_protocol.specs.Logs.{Cause, EnvelopeData, EnvelopeFault, Kind, SignatureRelation, envelope_of, view_after}
use Rattle.warg_protocol.specs.Records.{RecordId}
use Rattle.warg_replay.specs.OutcomeRuns.{HasNoOffence, IsFirstOffence, IsRunError, IfNamed, cause_next}
use Rattle.warg_replay.specs.declared.replay.RunCause.{RunCause}
use Rattle.warg_replay.specs.declared.replay.RunError.{RunError}
use Rattle.tool_answers.specs.Explanations.{all_belong}
use Rattle.warg_audit.specs.LogAnswers.{IsNamedRunError, LogDisplay, cause_name}
use Rattle.warg_audit.specs.Printouts.{OutputData, refused_line}
use Rattle.tool_changes.specs.Make.NextRecords.{IsMakeError, IsNextEnvelope, IsNextUnsigned}
use Rattle.tool_changes.specs.declared.make.error.EntryFault.{EntryFault}
use Rattle.tool_changes.specs.declared.make.error.MakeError.{MakeError}
use Rattle.tool_changes.specs.declared.make.error.MakeError.TheVariants.{OutOfMemory}
use Rattle.warg_audit.specs.Files.Files.{Files, ReadsLog}
use Rattle.warg_audit.specs.Files.Answers.{Answers, IfOutput, IsUnusable}
use Rattle.warg_audit.specs.Files.ReadErrors.{IsLogUnread}
use Rattle.warg_audit.specs.Files.RecordLines.{texts}
use Rattle.tool_changes.specs.MadeRecords.{IsMade, IsMadeAfter, IsMadeBy, IsMadeByToy, IsMadeForKey, IsMadeForText, IsMadeOf, IsPrintedNext, IsRefusedNext, IsUnsaid, signed_line, unsigned_line}
use Rattle.tool_changes.specs.MadeRecords.{no_file, no_key, of_key, of_log, refused, signed, to_be_signed, unsaid, unsaid_for_key}
use Rattle.tool_answers.specs.Verdicts.{IsLawful, IsPrintedOf, IsViewOf, envelopes_of, lawful}
use Rattle.warg_audit.specs.declared.files.command_output.CommandOutput.{CommandOutput}
use Rattle.warg_audit.specs.declared.files.command_error.CommandError.{CommandError}
use Rattle.warg_audit.specs.declared.files.command_error.CommandError.TheVariants as command_error
use Rattle.warg_audit.proofs.FilesLemmas.AnswerLemmas.{Answers-to, IfOutput-to}
use Rattle.tool_words.specs.declared.task.NewRecord.{NewRecord}
use Rattle.tool_words.specs.declared.task.Signer.{Signer}

-- ---- an input that comes next

module _ {F View Offence : Type 0} (k : Kind View Offence) (b : SignatureRelation) (read : List ℕ → Result EnvelopeData F) (view : View) (bytes : List ℕ) where
  -- one input without offence
  pub next_taken : HasNoOffence k b read (view_after k view) (bytes ∷ []) → cause_next k b read view bytes ≡ None
  next_taken h = h 0 bytes refl

  -- the first offence of one input
  first_alone : (place : ℕ) (cause : Cause F Offence) → IsFirstOffence k b read (view_after k view) (bytes ∷ []) place cause
      → cause_next k b read view bytes ≡ Some cause
  first_alone zero cause first =
      let same : bytes ≡ first.item = some_same first.at in
      subst (λ (it : List ℕ). cause_next k b read view it ≡ Some cause) (sym same) first.wrong
    where
      some_same : {x y : List ℕ} → Some x ≡ Some y → x ≡ y
      some_same e = cc e
  first_alone (suc place) cause first = absurd (nothing_at place first.item first.at)
    where
      nothing_at : (i : ℕ) (x : List ℕ) → slice_get [] i ≡ Some x → ⊥
      nothing_at i x at = cc at

  pub next_refused : {E : Type 0} (named_by : RunCause E → Option (Cause F Offence)) (error : RunError E)
      → IsRunError k b read (view_after k view) named_by (bytes ∷ []) error
      → (cause : Cause F Offence) → named_by error.cause ≡ Some cause → cause_next k b read view bytes ≡ Some cause
  next_refused named_by error run_error cause names =
      first_alone error.index cause (subst (λ (told : Option (Cause F Offence)). IfNamed told (λ it. IsFirstOffence k b read (view_after k view) (bytes ∷ []) error.index it)) names run_error.first)

-- the cause of an error that is printed
printed_cause : {C : Type 0} (name_of : C → List ℕ) (told : Option C) (index : ℕ) (printed : OutputData) → IsNamedRunError name_of told index printed
    → (cause : C) × (told ≡ Some cause) × (printed ≡ refused_line index (name_of cause))
printed_cause name_of None index printed it = absurd (none_named it.of_cause)
  where
    none_named : {name : List ℕ} → Some name ≡ None → ⊥
    none_named e = cc e
printed_cause name_of (Some cause) index printed it =
    let same : it.name ≡ name_of cause = some_same it.of_cause in (cause, refl, it.is ∙ ap (refused_line index) same)
  where
    some_same : {x y : List ℕ} → Some x ≡ Some y → x ≡ y
    some_same e = cc e

-- the answer to an input that can't come next
pub refused_so : {Meaning Fault View Offence E : Type 0} (log : LogDisplay Meaning Fault View Offence) (view : View) (count : ℕ) (bytes : List ℕ)
    (named_by : RunCause E → Option (Cause (EnvelopeFault Fault) Offence)) (error : RunError E) (printed : OutputData)
    → IsRunError log.kind all_belong (envelope_of log.read) (view_after log.kind view) named_by (bytes ∷ []) error
    → IsNamedRunError (cause_name log.fault_name log.offence_name) (named_by error.cause) count printed → IsRefusedNext log view count bytes printed
refused_so log view count bytes named_by error printed run_error told =
    let it = printed_cause (cause_name log.fault_name log.offence_name) (named_by error.cause) count printed told in record {
      cause = it.0;
      wrong = next_refused log.kind all_belong (envelope_of log.read) view bytes named_by error run_error it.0 it.1;
      is = it.2;
    }

-- the line of that answer
pub run_error_printed : {Meaning Fault View Offence : Type 0} (log : LogDisplay Meaning Fault View Offence) (view : View) (count : ℕ) (bytes : List ℕ) (own : OutputData) (end : CommandError)
    → IfOutput (IsRefusedNext log view count bytes) end → IfOutput (IsPrintedNext log view count bytes own) end
run_error_printed log view count bytes own end h =
    IfOutput-to (IsRefusedNext log view count bytes) (IsPrintedNext log view count bytes own) (λ printed it. refused it) end h

-- ---- what words say

module _ {T : Type 0} (Says : List ℕ → T → Type 0) (Lacks : List ℕ → EntryFault → Type 0) (content : Option RecordId → Time → List T → List ℕ) (prefix : List ℕ)
    {Meaning Fault View Offence : Type 0} (log : LogDisplay Meaning Fault View Offence) (draft : NewRecord) where
  -- words that say no record
  pub none_said : (error : MakeError) (end : CommandError) → (error ≡ OutOfMemory → end ≡ command_error.OutOfMemory)
      → IsMakeError Says Lacks draft.clock draft.time.now (texts draft.entries.items) error → IfOutput IsUnusable end
      → IfOutput (IsUnsaid Says Lacks content prefix log draft) end
  none_said error (command_error.Output answer) memory why h = record {
    error = error;
    of_words = λ is. let e : command_error.Output answer ≡ command_error.OutOfMemory = memory is in cc;
    why = why;
    nothing = h;
  }
  none_said error command_error.OutOfMemory memory why h = tt

  module _ (view : View) (count : ℕ) where
    -- the record that a toy key signs
    pub toy_made : (name bytes : List ℕ) (entries : List (Bor (List ℕ))) (result : Result CommandOutput CommandError) → entries ≡ draft.entries.items
        → IsNextEnvelope Says content prefix (log.kind.head view) name draft.clock draft.time.now (texts entries) bytes
        → Answers (IsPrintedNext log view count bytes (signed_line bytes)) result
        → Answers (IsMadeByToy Says Lacks content prefix log draft view count name) result
    toy_made name bytes entries result e is h =
        let own : IsNextEnvelope Says content prefix (log.kind.head view) name draft.clock draft.time.now (texts draft.entries.items) bytes =
        subst (λ (words : List (Bor (List ℕ))). IsNextEnvelope Says content prefix (log.kind.head view) name draft.clock draft.time.now (texts words) bytes) e is in
        Answers-to (IsPrintedNext log view count bytes (signed_line bytes)) (IsMadeByToy Says Lacks content prefix log draft view count name)
        (λ printed it. signed bytes own it) result h

    pub toy_unsaid : (name : List ℕ) (entries : List (Bor (List ℕ))) (error : MakeError) (end : CommandError) → entries ≡ draft.entries.items
        → (error ≡ OutOfMemory → end ≡ command_error.OutOfMemory) → IsMakeError Says Lacks draft.clock draft.time.now (texts entries) error
        → IfOutput IsUnusable end → IfOutput (IsMadeByToy Says Lacks content prefix log draft view count name) end
    toy_unsaid name entries error end e memory why h =
        IfOutput-to (IsUnsaid Says Lacks content prefix log draft) (IsMadeByToy Says Lacks content prefix log draft view count name)
        (λ printed it. unsaid it) end
        (none_said error end memory (subst (λ (words : List (Bor (List ℕ))). IsMakeError Says Lacks draft.clock draft.time.now (texts words) error) e why) h)

    -- the record that a key is to sign
    pub key_made : (key : NamedBytes) (envelope message whole : List ℕ) (entries : List (Bor (List ℕ))) (result : Result CommandOutput CommandError) → entries ≡ draft.entries.items
        → IsNextUnsigned Says content prefix (log.kind.head view) key draft.clock draft.time.now (texts entries) envelope message whole
        → Answers (IsPrintedNext log view count whole (unsigned_line envelope message)) result
        → Answers (IsMadeForKey Says Lacks content prefix log draft view count key) result
    key_made key envelope message whole entries result e is h =
        let own : IsNextUnsigned Says content prefix (log.kind.head view) key draft.clock draft.time.now (texts draft.entries.items) envelope message whole =
        subst (λ (words : List (Bor (List ℕ))). IsNextUnsigned Says content prefix (log.kind.head view) key draft.clock draft.time.now (texts words) envelope message whole) e is in
        Answers-to (IsPrintedNext log view count whole (unsigned_line envelope message)) (IsMadeForKey Says Lacks content prefix log draft view count key)
        (λ printed it. to_be_signed envelope message whole own it) result h

    pub key_unsaid : (key : NamedBytes) (entries : List (Bor (List ℕ))) (error : MakeError) (end : CommandError) → entries ≡ draft.entries.items
        → (error ≡ OutOfMemory → end ≡ command_error.OutOfMemory) → IsMakeError Says Lacks draft.clock draft.time.now (texts entries) error
        → IfOutput IsUnusable end → IfOutput (IsMadeForKey Says Lacks content prefix log draft view count key) end
    key_unsaid key entries error end e memory why h =
        IfOutput-to (IsUnsaid Says Lacks content prefix log draft) (IsMadeForKey Says Lacks content prefix log draft view count key)
        (λ printed it. unsaid_for_key it) end
        (none_said error end memory (subst (λ (words : List (Bor (List ℕ))). IsMakeError Says Lacks draft.clock draft.time.now (texts words) error) e why) h)

    -- the same by the key's text
    pub text_made : (text : List ℕ) (key : NamedBytes) (result : Result CommandOutput CommandError) → public_key_of text ≡ Ok key
        → Answers (IsMadeForKey Says Lacks content prefix log draft view count key) result
        → Answers (IsMadeForText Says Lacks content prefix log draft view count text) result
    text_made text key result e h =
        Answers-to (IsMadeForKey Says Lacks content prefix log draft view count key) (IsMadeForText Says Lacks content prefix log draft view count text)
        (λ printed it. of_key key e it) result h

    pub text_unread : (text : List ℕ) (end : CommandError) → IfOutput (λ printed. IsErr (public_key_of text) × IsUnusable printed) end
        → IfOutput (IsMadeForText Says Lacks content prefix log draft view count text) end
    text_unread text end h =
        IfOutput-to (λ printed. IsErr (public_key_of text) × IsUnusable printed) (IsMadeForText Says Lacks content prefix log draft view count text)
        (λ printed it. no_key it.0 it.1) end h

    -- the same by who signs
    pub made_by : (by : Signer) (result : Result CommandOutput CommandError) → draft.signer ≡ by
        → Answers (IsMadeBy Says Lacks content prefix log draft view count by) result
        → Answers (IsMadeBy Says Lacks content prefix log draft view count draft.signer) result
    made_by by result e h = subst (λ (it : Signer). Answers (IsMadeBy Says Lacks content prefix log draft view count it) result) (sym e) h

  module _ (belongs : SignatureRelation) where
    -- after a lawful log, by its view and how many records it has
    pub made_after : (ls inputs : List (List ℕ)) (view : View) (count : ℕ) (result : Result CommandOutput CommandError) → IsLawful log belongs ls inputs
        → IsViewOf log view inputs → count ≡ length inputs → Answers (IsMadeBy Says Lacks content prefix log draft view count draft.signer) result
        → Answers (IsPrintedOf log belongs (IsMadeAfter Says Lacks content prefix log draft belongs) ls) result
    made_after ls inputs view count result it stands many h =
        Answers-to (IsMadeBy Says Lacks content prefix log draft view count draft.signer)
        (IsPrintedOf log belongs (IsMadeAfter Says Lacks content prefix log draft belongs) ls)
        (λ printed is. lawful inputs it
        (subst (λ (n : ℕ). IsMadeBy Says Lacks content prefix log draft (log.kind.view_of (envelopes_of log inputs)) n draft.signer printed) many
        (subst (λ (v : View). IsMadeBy Says Lacks content prefix log draft v count draft.signer printed) stands is))) result h

    module _ (old : Option Files) (path : List ℕ) where
      pub made_read : (file : List ℕ) (result : Result CommandOutput CommandError) → ReadsLog old path file
          → Answers (IsMadeOf Says Lacks content prefix log draft belongs file) result
          → Answers (IsMade Says Lacks content prefix log draft belongs old path) result
      made_read file result held h =
          Answers-to (IsMadeOf Says Lacks content prefix log draft belongs file)
          (IsMade Says Lacks content prefix log draft belongs old path) (λ printed it. of_log file held it) result h

      pub made_unread : (end : CommandError) → IfOutput IsLogUnread end
          → IfOutput (IsMade Says Lacks content prefix log draft belongs old path) end
      made_unread end h =
          IfOutput-to IsLogUnread (IsMade Says Lacks content prefix log draft belongs old path) (λ printed it. no_file it) end h

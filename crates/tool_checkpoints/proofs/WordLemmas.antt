-- What words and files say, and the errors of commands where they say nothing.
use Rattle.std.proofs.Common.{◌≡◌, ◌⊎◌, inl, inr, ℕ, List, sym, subst, ◌∙◌, Option, Some, None, Result, Ok, Err, IfErr, IfOk}
use Rattle.std.specs.Prelude.{◌<◌, ◌^◌, IsUtf8}
use Rattle.std.specs.Str.Parse.{IsNumeral, digits_value, without_leading_plus}
use Rattle.serde_json.specs.Data.{Data}
use Rattle.serde_json.specs.Read.{read}
use Rattle.warg_crypto.specs.declared.hash.AnyHashError.{AnyHashError}
use Rattle.warg_log_records.specs.declared.record_id.RecordId.{RecordId}
use Rattle.warg_registry.specs.RegistryJson.{checkpoint_in}
use Rattle.warg_registry.specs.declared.checkpoint.Checkpoint.{Checkpoint}
use Rattle.warg_registry.specs.declared.log_id.LogId.{LogId}
use Rattle.warg_log_records.specs.RecordIds.{id_of_text as record_id_of_text}
use Rattle.warg_registry.specs.LogIds.{id_of_text as log_id_of_text}
use Rattle.warg_audit.specs.Files.Answers.{Answers, IfOutput, IsUnusable}
use Rattle.warg_audit.specs.Files.Files.{Files, Reads}
use Rattle.warg_audit.specs.Files.OutputData.{OutputData}
use Rattle.warg_audit.specs.Files.ReadErrors.{IsUnread}
use Rattle.warg_audit.specs.Files.Unusable.{read as file, unread}
use Rattle.warg_audit.specs.declared.files.command_output.CommandOutput.{CommandOutput}
use Rattle.warg_audit.specs.declared.files.command_error.CommandError.{CommandError}
use Rattle.warg_audit.specs.declared.files.command_error.CommandError.TheVariants as command_error
use Rattle.warg_audit.proofs.FilesLemmas.AnswerLemmas.{Answers-to, IfOutput-to}
use Rattle.warg_audit.proofs.FilesLemmas.UnusableLemmas.{file_unread}
use Rattle.tool_checkpoints.specs.Proofs.{IsCheckpoint}
use Rattle.tool_checkpoints.specs.Words.{IsByFile, IsByWords, IsIn, IsLogWord, IsNumber, IsRecordWord, IsUnsaid, IsUnsaidIn, by_value, unsaid}

-- ---- words that say nothing

-- an end for Q, so that nothing is said
pub unsaid_end : {A : Type 0} (Says : A → Type 0) (Q : Type 0) (end : CommandError) → IfOutput IsUnusable end → IfOutput (λ printed. Q) end
    → (Q → (value : A) → Says value → ⊥) → IfOutput (IsUnsaid Says) end
unsaid_end Says Q (command_error.Output answer) u q f = record { nothing = f q; unusable = u }
unsaid_end Says Q command_error.OutOfMemory u q f = tt

-- the same of an end where both are told
pub unsaid_for : {A : Type 0} (Says : A → Type 0) (Q : Type 0) (end : CommandError) → IfOutput (λ printed. Q × IsUnusable printed) end
    → (Q → (value : A) → Says value → ⊥) → IfOutput (IsUnsaid Says) end
unsaid_for Says Q end h f =
    IfOutput-to (λ printed. Q × IsUnusable printed) (IsUnsaid Says) (λ printed it. record { nothing = f it.0; unusable = it.1 }) end h

-- the same where nothing is said anyway
pub unsaid_as : {A : Type 0} (Says : A → Type 0) (end : CommandError) → IfOutput IsUnusable end → ((value : A) → Says value → ⊥)
    → IfOutput (IsUnsaid Says) end
unsaid_as Says end u never = IfOutput-to IsUnusable (IsUnsaid Says) (λ printed is. record { nothing = never; unusable = is }) end u

-- an end that is none of memory, so that nothing is said
pub unsaid_unless : {A : Type 0} (Says : A → Type 0) (memory : Type 0) (end : CommandError) → IfOutput IsUnusable end
    → (memory → end ≡ command_error.OutOfMemory) → (memory ⊎ ((value : A) → Says value → ⊥)) → IfOutput (IsUnsaid Says) end
unsaid_unless Says memory end u f (inl it) = rw (f it) tt
unsaid_unless Says memory (command_error.Output answer) u f (inr never) = record { nothing = never; unusable = u }
unsaid_unless Says memory command_error.OutOfMemory u f (inr never) = tt

-- a word that is refused for Q, so that it says nothing
pub unsaid_word : {T A : Type 0} (Says : A → Type 0) (Q : Type 0) (result : Result T CommandError) → IfErr result (IfOutput IsUnusable)
    → IfErr result (IfOutput (λ printed. Q)) → (Q → (value : A) → Says value → ⊥) → IfErr result (IfOutput (IsUnsaid Says))
unsaid_word Says Q (Ok value) u q f = tt
unsaid_word Says Q (Err end) u q f = unsaid_end Says Q end u q f

-- words that say nothing, by a word that says nothing
pub unsaid_to : {A B : Type 0} (Says : A → Type 0) (Tells : B → Type 0) (end : CommandError) → IfOutput (IsUnsaid Says) end
    → ((it : B) → Tells it → (value : A) × Says value) → IfOutput (IsUnsaid Tells) end
unsaid_to Says Tells end h f =
    IfOutput-to (IsUnsaid Says) (IsUnsaid Tells)
    (λ printed is. record { nothing = λ it tells. is.nothing (f it tells).0 (f it tells).1; unusable = is.unusable }) end h

-- the same of what is refused, if it is
pub unsaid_if : {T A B : Type 0} (Says : A → Type 0) (Tells : B → Type 0) (result : Result T CommandError) → IfErr result (IfOutput (IsUnsaid Says))
    → ((it : B) → Tells it → (value : A) × Says value) → IfErr result (IfOutput (IsUnsaid Tells))
unsaid_if Says Tells (Ok value) h f = tt
unsaid_if Says Tells (Err end) h f = unsaid_to Says Tells end h f

pub number_said : (word : List ℕ) (n : ℕ)
    → ((IsNumeral 10 (without_leading_plus word) × (digits_value 10 (without_leading_plus word) < 2 ^ 64)) × (n ≡ digits_value 10 (without_leading_plus word)))
    → IsNumber word n
number_said word n it = record { said = (it.0.0, it.1); fits = subst (λ (m : ℕ). m < 2 ^ 64) (sym it.1) it.0.1 }

pub no_number : (word : List ℕ)
    → ((IsNumeral 10 (without_leading_plus word) × (digits_value 10 (without_leading_plus word) < 2 ^ 64)) → ⊥)
    → (n : ℕ) → IsNumber word n → ⊥
no_number word never n it = never (it.said.0, subst (λ (m : ℕ). m < 2 ^ 64) it.said.1 it.fits)

pub no_log : (word : List ℕ) (fault : AnyHashError) → Err fault ≡ log_id_of_text word → (log_id : LogId) → IsLogWord word log_id → ⊥
no_log word fault e log_id is = let both : Err fault ≡ Ok log_id = e ∙ is in cc

pub no_record : (word : List ℕ) (fault : AnyHashError) → Err fault ≡ record_id_of_text word → (record_id : RecordId)
    → IsRecordWord word record_id → ⊥
no_record word fault e record_id is = let both : Err fault ≡ Ok record_id = e ∙ is in cc

-- what is refused is not read
pub no_value : {X E : Type 0} (want : Result X E) (memory : Type 0) (fault : E) → (memory ⊎ (want ≡ Err fault))
    → memory ⊎ ((value : X) → want ≡ Ok value → ⊥)
no_value want memory fault (inl it) = inl it
no_value want memory fault (inr e) = inr (λ value is. let both : Err fault ≡ Ok value = sym e ∙ is in cc)

-- ---- answers by words

module _ {A : Type 0} (Says : A → Type 0) (P : A → OutputData → Type 0) where
  pub words_said : (value : A) (result : Result CommandOutput CommandError) → Says value → Answers (P value) result → Answers (IsByWords Says P) result
  words_said value result says h = Answers-to (P value) (IsByWords Says P) (λ printed is. by_value value says is) result h

  pub words_unsaid : (end : CommandError) → IfOutput (IsUnsaid Says) end → IfOutput (IsByWords Says P) end
  words_unsaid end h = IfOutput-to (IsUnsaid Says) (IsByWords Says P) (λ printed is. unsaid is) end h

-- ---- answers by files

module _ {A : Type 0} (files : Option Files) (path : List ℕ) (Says : List ℕ → A → Type 0) where
  -- what the file of a path says, by what its bytes say
  pub in_bytes : (bytes : List ℕ) (result : Result A CommandError) → Reads files path bytes → IfOk result (Says bytes)
      → IfOk result (IsIn files path Says)
  in_bytes bytes (Ok value) held says = record { bytes = bytes; held = held; said = says }
  in_bytes bytes (Err end) held says = tt

  pub unsaid_bytes : (bytes : List ℕ) (result : Result A CommandError) → Reads files path bytes → IfErr result (IfOutput (IsUnsaid (Says bytes)))
      → IfErr result (IfOutput (IsUnsaidIn files path Says))
  unsaid_bytes bytes (Ok value) held h = tt
  unsaid_bytes bytes (Err end) held h =
      IfOutput-to (IsUnsaid (Says bytes)) (IsUnsaidIn files path Says) (λ printed is. file bytes held is) end h

  pub unread_bytes : (end : CommandError) → IfOutput (IsUnread files path) end → IfOutput (IsUnsaidIn files path Says) end
  unread_bytes end h = file_unread files path (λ bytes. IsUnsaid (Says bytes)) end h

  module _ (P : A → OutputData → Type 0) where
    pub by_file : (value : A) → IsIn files path Says value → (printed : OutputData) → P value printed → IsByFile files path Says P printed
    by_file value it printed is = file it.bytes it.held (by_value value it.said is)

    pub file_said : (value : A) (result : Result CommandOutput CommandError) → IsIn files path Says value → Answers (P value) result
        → Answers (IsByFile files path Says P) result
    file_said value result it h = Answers-to (P value) (IsByFile files path Says P) (by_file value it) result h

    by_none : (printed : OutputData) → IsUnsaidIn files path Says printed → IsByFile files path Says P printed
    by_none printed (unread is) = unread is
    by_none printed (file bytes held is) = file bytes held (unsaid is)

    pub file_unsaid : (end : CommandError) → IfOutput (IsUnsaidIn files path Says) end → IfOutput (IsByFile files path Says P) end
    file_unsaid end h = IfOutput-to (IsUnsaidIn files path Says) (IsByFile files path Says P) by_none end h

-- ---- checkpoints and proofs

no_json : (bytes : List ℕ) → (IsUtf8 bytes → read bytes ≡ None) → (checkpoint : Checkpoint) → IsCheckpoint bytes checkpoint → ⊥
no_json bytes never checkpoint it =
    let both : None ≡ Some it.value = sym (never it.utf8) ∙ it.json in cc

pub unsaid_json : (bytes : List ℕ) (end : CommandError) → IfOutput (λ printed. (IsUtf8 bytes → read bytes ≡ None) × IsUnusable printed) end
    → IfOutput (IsUnsaid (IsCheckpoint bytes)) end
unsaid_json bytes end h = unsaid_for (IsCheckpoint bytes) (IsUtf8 bytes → read bytes ≡ None) end h (no_json bytes)

-- the checkpoint is that of the JSON that was read
pub said_of : (bytes : List ℕ) (d : Data) → read bytes ≡ Some d → (checkpoint : Checkpoint) → IsCheckpoint bytes checkpoint
    → (value : Checkpoint) × (checkpoint_in d ≡ Ok value)
said_of bytes d e checkpoint it =
    let f : Some it.value ≡ Some d = sym it.json ∙ e in
    let same : it.value ≡ d = cc in (checkpoint, rw same at it.said)

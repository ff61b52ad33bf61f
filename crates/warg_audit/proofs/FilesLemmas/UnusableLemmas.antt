-- The errors of commands as their answers, and answers by words and files.
use Rattle.std.proofs.Common.{◌≡◌, inl, inr, ℕ, List, Option, Result, Ok, Err}
use Rattle.std.proofs.lemmas.Bool.{false≢true}
use Rattle.warg_audit.specs.Files.OutputData.{OutputData}
use Rattle.warg_audit.specs.Files.Files.{Files, Reads}
use Rattle.warg_audit.specs.Files.Answers.{output_data, Answers, IfOutput, IsSettled, IsUnanswered, IsUnusable}
use Rattle.warg_audit.specs.Files.ReadErrors.{IsUnread, IsUnreadFor}
use Rattle.warg_audit.specs.declared.files.input.ReadError.{ReadError}
use Rattle.warg_audit.specs.declared.files.input.ReadError.TheVariants as fault
use Rattle.warg_audit.specs.Files.Unusable.{IfUsable, IsOfFile, unread, read, IsOfWord, no_word, word}
use Rattle.warg_audit.specs.declared.files.command_output.CommandOutput.{CommandOutput}
use Rattle.warg_audit.specs.declared.files.command_error.CommandError.{CommandError}
use Rattle.warg_audit.specs.declared.files.command_error.CommandError.TheVariants as command_error
use Rattle.warg_audit.proofs.FilesLemmas.AnswerLemmas.{Answers-to, IfOutput-to}

-- what holds of each answer
pub always_error : (P : OutputData → Type 0) (end : CommandError) → ((printed : OutputData) → P printed) → IfOutput P end
always_error P (command_error.Output answer) f = f (output_data answer)
always_error P command_error.OutOfMemory f = tt

-- ---- errors of commands as their answers

settled_by_end : (P : OutputData → Type 0) (end : CommandError) (answer : CommandOutput) → IsSettled (Err end) (Ok answer) → IfOutput P end
    → P (output_data answer)
settled_by_end P (command_error.Output it) answer e h = let same : it ≡ answer = cc in rw same at h
settled_by_end P command_error.OutOfMemory answer e h = absurd (false≢true e)

pub settled_is : (P : OutputData → Type 0) (outcome : Result CommandOutput CommandError) (answer : CommandOutput) → IsSettled outcome (Ok answer)
    → Answers P outcome → P (output_data answer)
settled_is P (Ok it) answer e h = let same : it ≡ answer = cc in rw same at h
settled_is P (Err end) answer e h = settled_by_end P end answer e h

-- ---- words and files that can't be used

pub unanswered : (end : CommandError) → IfOutput IsUnusable end → IfOutput IsUnanswered end
unanswered end h = IfOutput-to IsUnusable IsUnanswered (λ printed is. inl is) end h

by_fault : (why : ReadError) (printed : OutputData) → IsUnreadFor why printed → IsUnanswered printed
by_fault fault.Missing printed is = inl is
by_fault fault.Folder printed is = inl is
by_fault fault.Closed printed is = inl is
by_fault fault.TooLong printed is = inl is
by_fault fault.Failed printed is = inr is
by_fault fault.OutOfMemory printed is = inr is

pub unread_end : (files : Option Files) (path : List ℕ) (end : CommandError) → IfOutput (IsUnread files path) end
    → IfOutput IsUnanswered end
unread_end files path end h =
    IfOutput-to (IsUnread files path) IsUnanswered (λ printed it. by_fault it.why printed it.is) end h

pub unanswered_end : (P : OutputData → Type 0) (end : CommandError) → IfOutput IsUnanswered end → IfOutput (IfUsable P) end
unanswered_end P end h = IfOutput-to IsUnanswered (IfUsable P) (λ printed is. inl is) end h

pub unusable_end : (P : OutputData → Type 0) (end : CommandError) → IfOutput IsUnusable end → IfOutput (IfUsable P) end
unusable_end P end h = unanswered_end P end (unanswered end h)

-- ---- files

module _ (files : Option Files) (path : List ℕ) (P : List ℕ → OutputData → Type 0) where
  pub file_read : (bytes : List ℕ) (result : Result CommandOutput CommandError) → Reads files path bytes → Answers (P bytes) result
      → Answers (IsOfFile files path P) result
  file_read bytes result held h = Answers-to (P bytes) (IsOfFile files path P) (λ printed is. read bytes held is) result h

  pub file_unread : (end : CommandError) → IfOutput (IsUnread files path) end → IfOutput (IsOfFile files path P) end
  file_unread end h = IfOutput-to (IsUnread files path) (IsOfFile files path P) (λ printed is. unread is) end h

-- ---- words

pub word_read : {A : Type 0} (Says : A → Type 0) (P : A → OutputData → Type 0) (value : A) (result : Result CommandOutput CommandError) → Says value
    → Answers (P value) result → Answers (IsOfWord Says P) result
word_read Says P value result says h = Answers-to (P value) (IsOfWord Says P) (λ printed is. word value says is) result h

pub word_unread : {A : Type 0} (Says : A → Type 0) (P : A → OutputData → Type 0) (end : CommandError) → IfOutput IsUnusable end
    → IfOutput (IsOfWord Says P) end
word_unread Says P end h = IfOutput-to IsUnusable (IsOfWord Says P) (λ printed is. no_word is) end h

-- What is printed by a reader and a writer that may fail.
use Rattle.std.specs.Prelude.{◌≡◌, ◌⊎◌, ℕ, List, Option, IfSome, string_bytes}
use Rattle.std.specs.Io.KnownBytes.{Appends}
use Rattle.warg_audit.specs.declared.reply.Text.{Text}
use Rattle.warg_audit.specs.declared.reply.Text.TheVariants.{Owned, Fixed}
use Rattle.warg_audit.specs.declared.reply.Reply.{Reply}
use Rattle.warg_audit.specs.Answers.{IsAnswer}
use Rattle.warg_audit.specs.Printouts.{OutputData, read_error, out_of_memory}

-- the text of a reply, as bytes
abbrev pub text_of : Text → List ℕ
text_of (Owned text) = string_bytes text
text_of (Fixed text) = text.now

-- a reply as plain data
abbrev pub printed_of : Reply → OutputData
printed_of reply = record { text = text_of reply.text; status = reply.status }

-- The reply to words, of a reader that has these bytes left where they are known: the answer to its
-- bytes; or the line for a failed read; or the line for refused memory.
pub data IsReply (words : List (List ℕ)) (known : Option (List ℕ)) (ReadFailed : Type 0) (printed : OutputData) : Type 0 where
  answer : (bytes : List ℕ) → IfSome known (λ all. all ≡ bytes) → IsAnswer words bytes printed
      → IsReply words known ReadFailed printed
  unread : ReadFailed → printed ≡ read_error → IsReply words known ReadFailed printed
  memory_refused : printed ≡ out_of_memory → IsReply words known ReadFailed printed

-- this was printed whole, by a writer that holds these bytes before and after where they are known, and its status given
pub record IsPrinted (before after : Option (List ℕ)) (status : ℕ) (printed : OutputData) : Type 0 where
  pub status_is : status ≡ printed.status
  pub text_is : Appends before after printed.text

-- the same, or status 3 where a write failed
abbrev pub IsPrintedOrFailed : Option (List ℕ) → Option (List ℕ) → Type 0 → ℕ → OutputData → Type 0
IsPrintedOrFailed before after WriteFailed status printed = IsPrinted before after status printed ⊎ ((status ≡ 3) × WriteFailed)

-- the answer was printed whole
pub record IsAnswered (words : List (List ℕ)) (known before after : Option (List ℕ)) (status : ℕ) : Type 0 where
  pub bytes : List ℕ
  pub are_known : IfSome known (λ all. all ≡ bytes)
  pub printed : OutputData
  pub is_answer : IsAnswer words bytes printed
  pub is_printed : IsPrinted before after status printed

-- why there is status 3
pub data IsIoError (before after : Option (List ℕ)) (ReadFailed WriteFailed : Type 0) : Type 0 where
  unread : ReadFailed → Appends before after read_error.text → IsIoError before after ReadFailed WriteFailed
  memory_refused : Appends before after out_of_memory.text → IsIoError before after ReadFailed WriteFailed
  unwritten : WriteFailed → IsIoError before after ReadFailed WriteFailed

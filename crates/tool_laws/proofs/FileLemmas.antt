-- Answers by what words and files say: where they can't be used, nothing is printed.
use Rattle.std.proofs.Common.{◌≡◌, ℕ, List, codes, inl, inr, Option, refl}
use Rattle.warg_audit.specs.Files.Answers.{IsUnanswered}
use Rattle.warg_audit.specs.Files.Changes.{IsUnheld, unheld}
use Rattle.warg_audit.specs.Files.Files.{Files}
use Rattle.warg_audit.specs.Files.OutputData.{OutputData}
use Rattle.warg_audit.specs.Files.ReadErrors.{IsLogUnread, IsUnread, unread_text}
use Rattle.warg_audit.specs.Files.RecordLines.{record_lines}
use Rattle.warg_audit.specs.Files.Texts.{silent}
use Rattle.warg_audit.specs.Files.Unusable.{IfUsable, IsOfFile, IsOfLines, read, unread}
use Rattle.warg_audit.specs.declared.files.change.HoldError.{HoldError}
use Rattle.warg_audit.specs.declared.files.change.HoldError.TheVariants as hold
use Rattle.tool_checkpoints.specs.Words.{IsByFile, IsByWords, IsUnsaid, IsUnsaidIn, by_value, unsaid}
use Rattle.warg_printable.specs.Lines.{IsPrintedText}
use Rattle.warg_printable.proofs.LineLemmas.{no_lines}
use Rattle.tool_laws.proofs.LineLemmas.{IsClean, clean_same, line_text, plain_line}

-- nothing is printed
pub silent_clean : (status : ℕ) (printed : OutputData) → printed ≡ silent status → IsClean printed
silent_clean status printed h = clean_same printed (silent status) h no_lines

unanswered_clean : (printed : OutputData) → IsUnanswered printed → IsClean printed
unanswered_clean printed (inl unusable) = silent_clean 2 printed unusable
unanswered_clean printed (inr failed) = silent_clean 3 printed failed

pub unread_clean : (files : Option Files) (path : List ℕ) (printed : OutputData) → IsUnread files path printed → IsClean printed
unread_clean files path printed h = silent_clean (unread_text h.why).status printed h.is

pub log_unread_clean : (printed : OutputData) → IsLogUnread printed → IsClean printed
log_unread_clean printed h = silent_clean (unread_text h.why).status printed h.is

fault_clean : (fault : HoldError) → IsPrintedText (unheld fault).text
fault_clean (hold.Unread fault) = no_lines
fault_clean hold.Busy = line_text (codes "busy\n") (plain_line (codes "busy") refl)
fault_clean hold.Special = no_lines
fault_clean hold.ManyNames = no_lines
fault_clean hold.ReadOnly = no_lines
fault_clean hold.DeadLink = no_lines
fault_clean hold.NoFolder = no_lines
fault_clean hold.Unlocked = no_lines

pub unheld_clean : (printed : OutputData) → IsUnheld printed → IsClean printed
unheld_clean printed h = clean_same printed (unheld h.0) h.1 (fault_clean h.0)

pub usable_clean : (P : OutputData → Type 0) → ((printed : OutputData) → P printed → IsClean printed) → (printed : OutputData)
    → IfUsable P printed → IsClean printed
usable_clean P each printed (inl unanswered) = unanswered_clean printed unanswered
usable_clean P each printed (inr h) = each printed h

-- the answer by what words say
pub words_clean : {A : Type 0} {Says : A → Type 0} {P : A → OutputData → Type 0} (printed : OutputData) → IsByWords Says P printed
    → ((it : A) → Says it → P it printed → IsClean printed) → IsClean printed
words_clean printed (unsaid h) each = silent_clean 2 printed h.unusable
words_clean printed (by_value it said h) each = each it said h

module _ (files : Option Files) (path : List ℕ) where
  pub file_clean : (P : List ℕ → OutputData → Type 0) → ((bytes : List ℕ) (printed : OutputData) → P bytes printed → IsClean printed)
      → (printed : OutputData) → IsOfFile files path P printed → IsClean printed
  file_clean P each printed (unread h) = unread_clean files path printed h
  file_clean P each printed (read bytes reads h) = each bytes printed h

  pub lines_clean : (P : List (List ℕ) → OutputData → Type 0) → ((lines : List (List ℕ)) (printed : OutputData) → P lines printed → IsClean printed)
      → (printed : OutputData) → IsOfLines files path P printed → IsClean printed
  lines_clean P each printed h = file_clean (λ bytes. P (record_lines bytes)) (λ bytes it. each (record_lines bytes) it) printed h

  -- the answer by what a file says
  pub by_file_clean : {A : Type 0} {Says : List ℕ → A → Type 0} {P : A → OutputData → Type 0} (printed : OutputData) → IsByFile files path Says P printed
      → ((it : A) → P it printed → IsClean printed) → IsClean printed
  by_file_clean printed (unread h) each = unread_clean files path printed h
  by_file_clean printed (read bytes reads h) each = words_clean printed h (λ it said. each it)

  -- a file that says nothing
  pub unsaid_clean : {A : Type 0} (Says : List ℕ → A → Type 0) (printed : OutputData) → IsUnsaidIn files path Says printed → IsClean printed
  unsaid_clean Says printed h = file_clean (λ bytes. IsUnsaid (Says bytes)) (λ bytes it none. silent_clean 2 it none.unusable) printed h

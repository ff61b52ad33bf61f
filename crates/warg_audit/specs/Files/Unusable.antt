-- Words and files that can be used or can't, and answers by what they say.
use Rattle.std.specs.Prelude.{◌⊎◌, ℕ, List, Option}
use Rattle.warg_audit.specs.Files.OutputData.{OutputData}
use Rattle.warg_audit.specs.Files.Files.{Files, Reads}
use Rattle.warg_audit.specs.Files.Answers.{IsUnanswered, IsUnusable}
use Rattle.warg_audit.specs.Files.ReadErrors.{IsUnread}
use Rattle.warg_audit.specs.Files.RecordLines.{record_lines}

-- P, unless the words or the files can't be used, or a read fails
abbrev pub IfUsable : (OutputData → Type 0) → OutputData → Type 0
IfUsable P printed = IsUnanswered printed ⊎ P printed

-- the answer by what a word says, unless it says nothing
pub data IsOfWord {A : Type 0} (Says : A → Type 0) (P : A → OutputData → Type 0) (printed : OutputData) : Type 0 where
  no_word : IsUnusable printed → IsOfWord Says P printed
  word : (value : A) → Says value → P value printed → IsOfWord Says P printed

module _ (files : Option Files) (path : List ℕ) where
  -- the answer by what the file of the path holds, unless it can't be read
  pub data IsOfFile (P : List ℕ → OutputData → Type 0) (printed : OutputData) : Type 0 where
    unread : IsUnread files path printed → IsOfFile P printed
    read : (bytes : List ℕ) → Reads files path bytes → P bytes printed → IsOfFile P printed

  -- the answer by the lines of records in it
  abbrev pub IsOfLines : (List (List ℕ) → OutputData → Type 0) → OutputData → Type 0
  IsOfLines P printed = IsOfFile (λ bytes. P (record_lines bytes)) printed

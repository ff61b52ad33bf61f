-- What words and files say, and the answer by that, or by their saying nothing.
use Rattle.std.specs.Prelude.{◌≡◌, ◌<◌, ◌^◌, ℕ, List, Option, Ok}
use Rattle.std.specs.Str.Parse.{IsNumeral, digits_value, without_leading_plus}
use Rattle.warg_log_records.specs.RecordIds.{id_of_text as record_id_of_text}
use Rattle.warg_log_records.specs.declared.record_id.RecordId.{RecordId}
use Rattle.warg_registry.specs.LogIds.{id_of_text as log_id_of_text}
use Rattle.warg_registry.specs.declared.log_id.LogId.{LogId}
use Rattle.warg_audit.specs.Files.Answers.{IsUnusable}
use Rattle.warg_audit.specs.Files.Files.{Files, Reads}
use Rattle.warg_audit.specs.Files.OutputData.{OutputData}
use Rattle.warg_audit.specs.Files.Unusable.{IsOfFile}

-- the words say nothing, so nothing is printed, and the status is 2
pub record IsUnsaid {A : Type 0} (Says : A → Type 0) (printed : OutputData) : Type 0 where
  pub nothing : (value : A) → Says value → ⊥
  pub unusable : IsUnusable printed

-- the answer by what words say, if they say something
pub data IsByWords {A : Type 0} (Says : A → Type 0) (P : A → OutputData → Type 0) (printed : OutputData) : Type 0 where
  unsaid : IsUnsaid Says printed → IsByWords Says P printed
  by_value : (value : A) → Says value → P value printed → IsByWords Says P printed

module _ {A : Type 0} (files : Option Files) (path : List ℕ) (Says : List ℕ → A → Type 0) where
  -- the file of the path holds what says the value
  pub record IsIn (value : A) : Type 0 where
    pub bytes : List ℕ
    pub held : Reads files path bytes
    pub said : Says bytes value

  -- the file of the path can't be read, or holds what says nothing
  abbrev pub IsUnsaidIn : OutputData → Type 0
  IsUnsaidIn printed = IsOfFile files path (λ bytes. IsUnsaid (Says bytes)) printed

  -- the answer by what the file of the path says, if it can be read and says something
  abbrev pub IsByFile : (A → OutputData → Type 0) → OutputData → Type 0
  IsByFile P printed = IsOfFile files path (λ bytes. IsByWords (Says bytes) P) printed

-- ---- numbers and ids

-- the number that a word says in decimal digits; a plus may stand first
abbrev pub IsNumberWord : List ℕ → ℕ → Type 0
IsNumberWord word n = IsNumeral 10 (without_leading_plus word) × (n ≡ digits_value 10 (without_leading_plus word))

-- the number of 64 bits that a word says so
pub record IsNumber (word : List ℕ) (n : ℕ) : Type 0 where
  pub said : IsNumberWord word n
  pub fits : n < 2 ^ 64

-- the word is the id of the log
abbrev pub IsLogWord : List ℕ → LogId → Type 0
IsLogWord word log_id = log_id_of_text word ≡ Ok log_id

-- the word is the id of the record
abbrev pub IsRecordWord : List ℕ → RecordId → Type 0
IsRecordWord word record_id = record_id_of_text word ≡ Ok record_id

-- What is printed of a log's last record, and of how many records there are.
use Rattle.std.specs.Prelude.{◌≡◌, ◌<◌, ◌+◌, ◌^◌, ℕ, List, ◌++◌, codes, length, Option, Some, None, SomeIff}
use Rattle.std.specs.Fmt.{decimal}
use Rattle.warg_log.specs.declared.head.Head.{Head}
use Rattle.warg_protocol.specs.Records.{hash_text}
use Rattle.warg_audit.specs.LogAnswers.{LogDisplay}
use Rattle.warg_audit.specs.Printouts.{OutputData}
use Rattle.warg_audit.specs.Files.Texts.{line, no, yes}
use Rattle.warg_printable.specs.Printable.{printable}
use Rattle.tool_answers.specs.ShownWords.{IsTimeText}
use Rattle.tool_answers.specs.Verdicts.{IsViewOf}

-- how many records there are, in words
abbrev pub count_text : Option ℕ → List ℕ
count_text None = codes "unknown"
count_text (Some count) = decimal count

-- the line of a last record: its id, its time, its version, and how many there are
abbrev pub head_line : List ℕ → List ℕ → List ℕ → List ℕ → List ℕ
head_line id time version count =
    line (printable (id ++ (codes " " ++ (time ++ (codes " " ++ (version ++ (codes " " ++ count)))))))

-- what is printed of a last record, and of how many there are where that is known; `none` where there is none
abbrev pub IsHeadLine : Option Head → Option ℕ → OutputData → Type 0
IsHeadLine None count printed = printed ≡ no (codes "none\n")
IsHeadLine (Some head) count printed =
    (time : List ℕ) × IsTimeText head.timestamp time
    × (printed ≡ yes (head_line (hash_text head.digest.hash) time (decimal head.version) (count_text count)))

-- what is printed of the last of the inputs of a lawful log, which are so many; last: the last record of a state that they lead to
pub record IsHeadText {Meaning Fault View Offence S : Type 0} (log : LogDisplay Meaning Fault View Offence) (view : S → View)
    (last : S → Option Head) (inputs : List (List ℕ)) (printed : OutputData) : Type 0 where
  pub state : S
  pub stands : IsViewOf log (view state) inputs
  pub is : IsHeadLine (last state) (Some (length inputs)) printed

-- how many records there are with so many more: known where it was known before, and below 2^64
abbrev pub IsTotal : Option ℕ → ℕ → Option ℕ → Type 0
IsTotal None more total = total ≡ None
IsTotal (Some count) more total = SomeIff total (count + more < 2 ^ 64) (count + more)

-- the same of the state that a saved one, of a log of so many records where that is known, and so many more led to
abbrev pub IsResumedHead : {S : Type 0} → (S → Option Head) → Option ℕ → S → ℕ → OutputData → Type 0
IsResumedHead last count next more printed =
    (total : Option ℕ) × IsTotal count more total × IsHeadLine (last next) total printed

-- What a command answers, as plain data, and the error of a command before its own answer.
use Rattle.std.specs.Prelude.{◌≡◌, ◌⊎◌, ℕ, List, Result, Ok, Err, IsErr, string_bytes}
use Rattle.std.specs.declared.alloc.AllocError.{AllocError}
use Rattle.warg_audit.specs.Files.OutputData.{OutputData}
use Rattle.warg_audit.specs.declared.files.command_output.CommandOutput.{CommandOutput}
use Rattle.warg_audit.specs.declared.files.command_error.CommandError.{CommandError}
use Rattle.warg_audit.specs.declared.files.command_error.CommandError.TheVariants as command_error
use Rattle.warg_audit.specs.Files.Texts.{side_text, silent}

-- what an answer prints on standard output, and its status
abbrev pub output_data : CommandOutput → OutputData
output_data answer = record { text = string_bytes answer.text; status = answer.status }

-- P of what is answered instead, if a command ends so
abbrev pub IfOutput : (OutputData → Type 0) → CommandError → Type 0
IfOutput P (command_error.Output answer) = P (output_data answer)
IfOutput P command_error.OutOfMemory = Unit {0}

-- P of what a command answers, as its result or as its error, unless memory ran out
abbrev pub Answers : (OutputData → Type 0) → Result CommandOutput CommandError → Type 0
Answers P (Ok answer) = P (output_data answer)
Answers P (Err end) = IfOutput P end

-- the same of what is printed and what is told on standard error
abbrev pub AnswersTold : (OutputData → List ℕ → Type 0) → Result CommandOutput CommandError → Type 0
AnswersTold P (Ok answer) = P (output_data answer) (string_bytes answer.error_text)
AnswersTold P (Err (command_error.Output answer)) = P (output_data answer) (string_bytes answer.error_text)
AnswersTold P (Err command_error.OutOfMemory) = Unit {0}

-- the error is that of a side, with the side's name in front of what is answered
abbrev pub IsSideError : List ℕ → CommandError → CommandError → Type 0
IsSideError name own (command_error.Output answer) = (it : CommandOutput) × (own ≡ command_error.Output it) × (output_data answer ≡ side_text name (output_data it))
IsSideError name own command_error.OutOfMemory = Unit {0}

-- the answer of a command, as its result or as its error
abbrev pub IsSettled : Result CommandOutput CommandError → Result CommandOutput AllocError → Type 0
IsSettled (Ok answer) output = output ≡ Ok answer
IsSettled (Err (command_error.Output answer)) output = output ≡ Ok answer
IsSettled (Err command_error.OutOfMemory) output = IsErr output

-- nothing is printed, for words or files that can't be used
abbrev pub IsUnusable : OutputData → Type 0
IsUnusable printed = printed ≡ silent 2

-- nothing is printed, for a read or a write that failed
abbrev pub IsFailed : OutputData → Type 0
IsFailed printed = printed ≡ silent 3

-- nothing is printed, for either
abbrev pub IsUnanswered : OutputData → Type 0
IsUnanswered printed = IsUnusable printed ⊎ IsFailed printed

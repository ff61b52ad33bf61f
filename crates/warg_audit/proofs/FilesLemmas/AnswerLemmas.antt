-- What is said of answers and of the errors of commands.
use Rattle.std.proofs.Common.{ℕ, List, Result, Ok, Err, OnOk, string_bytes}
use Rattle.warg_audit.specs.Files.OutputData.{OutputData}
use Rattle.warg_audit.specs.Files.Answers.{output_data, Answers, AnswersTold, IfOutput}
use Rattle.warg_audit.specs.declared.files.command_output.CommandOutput.{CommandOutput}
use Rattle.warg_audit.specs.declared.files.command_error.CommandError.{CommandError}
use Rattle.warg_audit.specs.declared.files.command_error.CommandError.TheVariants as command_error

pub IfOutput-to : (P Q : OutputData → Type 0) → ((printed : OutputData) → P printed → Q printed) → (end : CommandError)
    → IfOutput P end → IfOutput Q end
IfOutput-to P Q f (command_error.Output answer) h = f (output_data answer) h
IfOutput-to P Q f command_error.OutOfMemory h = tt

pub Answers-to : (P Q : OutputData → Type 0) → ((printed : OutputData) → P printed → Q printed) → (result : Result CommandOutput CommandError)
    → Answers P result → Answers Q result
Answers-to P Q f (Ok answer) h = f (output_data answer) h
Answers-to P Q f (Err end) h = IfOutput-to P Q f end h

pub AnswersTold-to : (P Q : OutputData → List ℕ → Type 0) → ((printed : OutputData) (told : List ℕ) → P printed told → Q printed told)
    → (result : Result CommandOutput CommandError) → AnswersTold P result → AnswersTold Q result
AnswersTold-to P Q f (Ok answer) h = f (output_data answer) (string_bytes answer.error_text) h
AnswersTold-to P Q f (Err (command_error.Output answer)) h = f (output_data answer) (string_bytes answer.error_text) h
AnswersTold-to P Q f (Err command_error.OutOfMemory) h = tt

-- what is printed, whatever is told
pub Answers-from_told : (P : OutputData → List ℕ → Type 0) (Q : OutputData → Type 0) → ((printed : OutputData) (told : List ℕ) → P printed told → Q printed)
    → (result : Result CommandOutput CommandError) → AnswersTold P result → Answers Q result
Answers-from_told P Q f (Ok answer) h = f (output_data answer) (string_bytes answer.error_text) h
Answers-from_told P Q f (Err (command_error.Output answer)) h = f (output_data answer) (string_bytes answer.error_text) h
Answers-from_told P Q f (Err command_error.OutOfMemory) h = tt

pub on_ok : {T E P : Type 0} (r : Result T E) → P → OnOk r P
on_ok (Ok x) h = h
on_ok (Err e) h = tt

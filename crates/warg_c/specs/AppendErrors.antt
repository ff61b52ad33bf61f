-- Why nothing is asked or appended, by the error: what the functions below the exports say.
use Rattle.std.specs.Prelude.{ℕ, Bool, List}
use Rattle.warg_log_records.specs.Readings.{operator_reading, package_reading}
use Rattle.warg_operator_log.specs.StateLaws.{operator_log}
use Rattle.warg_package_log.specs.StateLaws.{package_log}
use Rattle.warg_replay.specs.Telling.{verdict_belongs}
use Rattle.warg_replay.specs.declared.external.signature_verdict.SignatureVerdict.{SignatureVerdict}
use Rattle.warg_c.specs.AppendAnswers.{OfAnswer, operator_says, package_says}
use Rattle.warg_c.specs.KeptWords as kept
use Rattle.warg_c.specs.ArgumentErrors.{argument_error_text}
use Rattle.warg_c.specs.Questions.{SaysNone}
use Rattle.warg_c.specs.Texts.{IsGiven}
use Rattle.warg_c.specs.declared.call_error.CallError.{CallError}
use Rattle.warg_c.specs.declared.call_error.CallError.TheVariants.{OutOfMemory, BadArgument}
use Rattle.warg_c.specs.declared.any_log.AnyLog.{AnyLog}
use Rattle.warg_c.specs.declared.any_log.AnyLog.TheVariants.{Package, Operator}
use Rattle.warg_c.specs.declared.argument_error.ArgumentError.TheVariants.{BadQuestion}
use Rattle.warg_c.specs.declared.question.Asked.{Asked}

-- why nothing is asked
abbrev pub ask_errors : AnyLog → List ℕ → Asked → List ℕ → ℕ → List ℕ → CallError → Type 0
ask_errors (Package log) = kept.AskErrors package_log package_reading package_says log
ask_errors (Operator log) = kept.AskErrors operator_log operator_reading operator_says log

-- why nothing is appended by an answer
abbrev pub append_refuses : AnyLog → SignatureVerdict → List ℕ → ℕ → List ℕ → CallError → Type 0
append_refuses (Package log) answer = kept.Refuses package_log package_reading package_says (verdict_belongs answer) log
append_refuses (Operator log) answer = kept.Refuses operator_log operator_reading operator_says (verdict_belongs answer) log

-- why nothing is appended where the library verifies
abbrev pub signed_errors : AnyLog → List ℕ → ℕ → List ℕ → CallError → Type 0
signed_errors (Package log) = kept.RefusesSigned package_log package_reading package_says log
signed_errors (Operator log) = kept.RefusesSigned operator_log operator_reading operator_says log

-- why nothing is appended by the caller's verdict on a question
abbrev pub IsRefusedBy : AnyLog → Bool → Asked → List ℕ → List ℕ → ℕ → List ℕ → CallError → Type 0
IsRefusedBy held belongs n question envelope used new f = OfAnswer belongs n question (λ answer. append_refuses held answer envelope used new f)

-- why nothing is appended; the bytes may say no question, and then that is told
abbrev pub append_errors : AnyLog → Bool → Asked → List ℕ → List ℕ → ℕ → List ℕ → CallError → Type 0
append_errors held belongs n question envelope used new OutOfMemory = Unit {0}
append_errors held belongs n question envelope used new BadArgument = SaysNone n question × IsGiven (argument_error_text BadQuestion) used new
append_errors held belongs n question envelope used new f = IsRefusedBy held belongs n question envelope used new f

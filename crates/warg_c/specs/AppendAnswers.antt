-- What is asked before a record is appended, and what becomes of it.
use Rattle.std.specs.Prelude.{◌≡◌, ℕ, Bool, List, Option, Some, None}
use Rattle.warg_log_records.specs.Kinds.{SignatureRelation, AcceptsNoMore}
use Rattle.warg_log_records.specs.Readings.{operator_reading, package_reading}
use Rattle.warg_operator_log.specs.ErrorTexts as operator_texts
use Rattle.warg_operator_log.specs.OffenceNames as operator_names
use Rattle.warg_operator_log.specs.StateLaws.{operator_log}
use Rattle.warg_operator_log.specs.declared.error.ValidationError as of_operator
use Rattle.warg_p256.specs.Scheme.{p256_belongs}
use Rattle.warg_package_log.specs.ErrorTexts as package_texts
use Rattle.warg_package_log.specs.OffenceNames as package_names
use Rattle.warg_package_log.specs.StateLaws.{package_log}
use Rattle.warg_package_log.specs.declared.error.ValidationError as of_package
use Rattle.warg_replay.specs.declared.external.signature_verdict.SignatureVerdict.{SignatureVerdict}
use Rattle.warg_replay.specs.declared.replay.RunCause.{RunCause}
use Rattle.warg_c.specs.KeptWords as kept
use Rattle.warg_c.specs.Questions.{HoldsOf, Says}
use Rattle.warg_c.specs.Texts.{SaysCause}
use Rattle.warg_c.specs.declared.any_log.AnyLog.{AnyLog}
use Rattle.warg_c.specs.declared.any_log.AnyLog.TheVariants.{Package, Operator}
use Rattle.warg_c.specs.declared.question.Asked.{Asked}

-- the text spells what the envelope asks: its record may come next exactly if that signature belongs
abbrev pub ask_tells : AnyLog → List ℕ → Asked → List ℕ → Type 0
ask_tells (Package log) = kept.IsAsked package_log package_reading log
ask_tells (Operator log) = kept.IsAsked operator_log operator_reading log

-- the envelope asks for a signature by a key of another algorithm than the library's
abbrev pub asks_other : AnyLog → List ℕ → Type 0
asks_other (Package log) = kept.AsksOther package_log package_reading log
asks_other (Operator log) = kept.AsksOther operator_log operator_reading log

-- the record of the envelope is lawful as the next one, under the relation
abbrev pub may_come : SignatureRelation → List ℕ → AnyLog → Type 0
may_come b envelope (Package log) = kept.MayCome package_log package_reading b log envelope
may_come b envelope (Operator log) = kept.MayCome operator_log operator_reading b log envelope

-- the record of the envelope is appended, under the relation
abbrev pub append_does : SignatureRelation → List ℕ → AnyLog → AnyLog → Type 0
append_does b envelope (Package old) (Package new) = kept.Appends package_log package_reading b envelope old new
append_does b envelope (Operator old) (Operator new) = kept.Appends operator_log operator_reading b envelope old new
append_does b envelope (Package old) (Operator new) = ⊥
append_does b envelope (Operator old) (Package new) = ⊥

-- the same of what a handle held before and holds now
abbrev pub append_moves : SignatureRelation → List ℕ → AnyLog → Option AnyLog → Type 0
append_moves b envelope old (Some new) = append_does b envelope old new
append_moves b envelope old None = ⊥

-- the record is appended, under whatever relation holds of what the caller said to belong
abbrev pub told_moves : Bool → Asked → List ℕ → List ℕ → AnyLog → Option AnyLog → Type 0
told_moves belongs n question envelope old new =
    (b : SignatureRelation) → HoldsOf b belongs n question → append_moves b envelope old new

-- the record is lawful by a signature of `ecdsa-p256`, and is appended, under whatever relation holds of all such signatures
abbrev pub signed_moves : List ℕ → AnyLog → Option AnyLog → Type 0
signed_moves envelope old new =
    may_come p256_belongs envelope old × ((b : SignatureRelation) → AcceptsNoMore p256_belongs b → append_moves b envelope old new)

-- the text is that of an error of a package log, or of an envelope
abbrev pub package_says : RunCause of_package.ValidationError → List ℕ → Type 0
package_says = SaysCause package_names.error_name (λ e. Some (package_texts.error_text e))

-- the same of an operator log
abbrev pub operator_says : RunCause of_operator.ValidationError → List ℕ → Type 0
operator_says = SaysCause operator_names.error_name (λ e. Some (operator_texts.error_text e))

-- the bytes are no envelope, whatever tells which signatures belong, and the error's text is given
abbrev pub is_never_read : AnyLog → List ℕ → ℕ → List ℕ → Type 0
is_never_read (Package log) = kept.IsNeverRead package_log package_reading package_says log
is_never_read (Operator log) = kept.IsNeverRead operator_log operator_reading operator_says log

-- the record of the envelope is unlawful, whatever tells which signatures belong, and the error's text is given
abbrev pub is_never_lawful : AnyLog → List ℕ → ℕ → List ℕ → Type 0
is_never_lawful (Package log) = kept.IsNeverLawful package_log package_reading package_says log
is_never_lawful (Operator log) = kept.IsNeverLawful operator_log operator_reading operator_says log

-- the bytes are no envelope, under the relation, and the error's text is given
abbrev pub is_unread : SignatureRelation → AnyLog → List ℕ → ℕ → List ℕ → Type 0
is_unread b (Package log) = kept.IsUnread package_log package_reading package_says b log
is_unread b (Operator log) = kept.IsUnread operator_log operator_reading operator_says b log

-- the record of the envelope is unlawful under the relation, and the error's text is given
abbrev pub is_unlawful : SignatureRelation → AnyLog → List ℕ → ℕ → List ℕ → Type 0
is_unlawful b (Package log) = kept.IsUnlawful package_log package_reading package_says b log
is_unlawful b (Operator log) = kept.IsUnlawful operator_log operator_reading operator_says b log

-- the bytes say a question, and this holds of the caller's answer to it
abbrev pub OfAnswer : Bool → Asked → List ℕ → (SignatureVerdict → Type 0) → Type 0
OfAnswer belongs n question P = (answer : SignatureVerdict) × Says n question answer.question × (answer.belongs ≡ belongs) × P answer

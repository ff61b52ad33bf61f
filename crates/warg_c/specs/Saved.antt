-- Saved states.
use Rattle.std.specs.Prelude.{◌≡◌, ◌⊎◌, ℕ, List, Option, Result, Ok, Err, codes}
use Rattle.std.specs.Str.{IsUtf8}
use Rattle.warg_crypto.specs.Json.Json.{AreReadBack}
use Rattle.warg_crypto.specs.declared.json.error.JsonError.{JsonError}
use Rattle.warg_crypto.specs.declared.json.error.JsonError.TheVariants as value
use Rattle.warg_operator_log.specs.SavedBack as operators_back
use Rattle.warg_operator_log.specs.SavedState as operators
use Rattle.warg_package_log.specs.SavedBack as packages_back
use Rattle.warg_package_log.specs.SavedState as packages
use Rattle.warg_saved_states.specs.JsonText.{in_text, TextReadsBack}
use Rattle.warg_saved_states.specs.Texts.{text_of}
use Rattle.warg_saved_states.specs.declared.error.JsonTextError.{JsonTextError}
use Rattle.warg_saved_states.specs.declared.error.JsonTextError.TheVariants as json
use Rattle.warg_c.specs.declared.call_error.CallError.{CallError}
use Rattle.warg_c.specs.declared.any_log.AnyLog.{AnyLog}
use Rattle.warg_c.specs.declared.any_log.AnyLog.TheVariants.{Package, Operator}
use Rattle.warg_c.specs.declared.any_log.LogKind.{LogKind}
use Rattle.warg_c.specs.declared.any_log.LogKind.TheVariants as kinds
use Rattle.warg_c.specs.declared.log_or_state.LogOrState.TheVariants.{Whole, Resumed}
use Rattle.warg_c.specs.AnyLogs.{IsNoKind, IsOfNumber, kind_numbered}
use Rattle.warg_c.specs.Logs.{state_of}
use Rattle.warg_c.specs.ArgumentErrors.{argument_error_text}
use Rattle.warg_c.specs.Texts.{Always, ErrorsAs, IsGiven}
use Rattle.warg_c.specs.declared.argument_error.ArgumentError.TheVariants.{NoKind}

-- the state's JSON as a text, or why it has none
abbrev pub saved_text : AnyLog → Result (List ℕ) JsonError
saved_text (Package log) = text_of (packages.state_json (state_of log))
saved_text (Operator log) = text_of (operators.state_json (state_of log))

abbrev pub save_tells : AnyLog → List ℕ → Type 0
save_tells held text = saved_text held ≡ Ok text

abbrev pub save_lacks : AnyLog → Type 0
save_lacks held = (e : JsonError) × (saved_text held ≡ Err e)

-- what is wanted is written, or there is none
abbrev pub IsWritten : {V : Type 0} → (V → List ℕ) → Result (List ℕ) JsonError → Result V CallError → Type 0
IsWritten items want (Ok v) = want ≡ Ok (items v)
IsWritten items want (Err f) = ErrorsAs Always ((e : JsonError) × (want ≡ Err e)) ⊥ f

-- the text is read as an equal state; of a package log where the texts of its versions read back, as those of every accepted log do
abbrev pub reads_back : AnyLog → List ℕ → Type 0
reads_back (Package log) text = AreReadBack (packages_back.saved_versions (state_of log)) → TextReadsBack packages.state_in packages_back.AreEqual (state_of log) text
reads_back (Operator log) text = TextReadsBack operators.state_in operators_back.AreEqual (state_of log) text

-- the log goes on from the state that the text says, and has so many records, where that is known
abbrev pub resume_gives : List ℕ → Option ℕ → AnyLog → Type 0
resume_gives text count (Package (Whole log)) = ⊥
resume_gives text count (Package (Resumed s n)) = (in_text packages.state_in text ≡ Ok s) × (n ≡ count)
resume_gives text count (Operator (Whole log)) = ⊥
resume_gives text count (Operator (Resumed s n)) = (in_text operators.state_in text ≡ Ok s) × (n ≡ count)

abbrev pub resume_gives_number : ℕ → List ℕ → Option ℕ → AnyLog → Type 0
resume_gives_number kind text count held = IsOfNumber kind held × resume_gives text count held

-- the text says no state of the kind, by this fault
abbrev pub SaysNoState : LogKind → List ℕ → JsonTextError → Type 0
SaysNoState kinds.Package text e = in_text packages.state_in text ≡ Err e
SaysNoState kinds.Operator text e = in_text operators.state_in text ≡ Err e

-- the same of any bytes: those that are no UTF-8 are no JSON
pub record IsSavedFault (kind : LogKind) (bytes : List ℕ) (e : JsonTextError) : Type 0 where
  pub of_text : IsUtf8 bytes → SaysNoState kind bytes e
  pub of_others : (IsUtf8 bytes → ⊥) → e ≡ json.NotJson

-- what is told of JSON that says no state: a name, a colon, a space and a sentence
abbrev pub value_text : JsonError → List ℕ
value_text value.WrongType = codes "WrongType: a value is of another type"
value_text value.Missing = codes "Missing: a member is missing"
value_text value.BadText = codes "BadText: a text is not of its form"
value_text value.TimeBeforeEpoch = codes "TimeBeforeEpoch: a time lies before 1970"
value_text value.TimeOutOfRange = codes "TimeOutOfRange: a time is out of range"
value_text (value.Incoherent why) = codes "Incoherent: the state is that of no log"
value_text value.OutOfMemory = codes "OutOfMemory: there was no memory"

-- the same of a text that says none
abbrev pub fault_text : JsonTextError → List ℕ
fault_text json.NotJson = codes "NotJson: the text is no JSON"
fault_text (json.Value e) = value_text e
fault_text json.OutOfMemory = codes "OutOfMemory: there was no memory"

-- the number names no kind; or the bytes say no state of it; and that is told
abbrev pub is_no_saved : ℕ → List ℕ → ℕ → List ℕ → Type 0
is_no_saved n bytes used out = (IsNoKind n × IsGiven (argument_error_text NoKind) used out) ⊎ ((kind : LogKind) × (e : JsonTextError) × (kind_numbered n ≡ Ok kind) × IsSavedFault kind bytes e × IsGiven (fault_text e) used out)

-- Why bytes are no record or no envelope. Out of memory is none of these.
use Rattle.std.specs.Prelude.{◌≡◌, ℤ, Option, Some, None, IsSomeAnd, Result, Ok, Err, MatchResult}
use Rattle.warg_crypto.specs.declared.coding.WireFault.{WireFault}
use Rattle.warg_crypto.specs.declared.coding.DecodeError.{DecodeError}
use Rattle.warg_crypto.specs.declared.coding.DecodeError.TheVariants as error
use Rattle.warg_crypto.specs.declared.hash.AnyHashError.{AnyHashError}
use Rattle.warg_crypto.specs.declared.signing.error.KeyParseError.{KeyParseError}

-- a record's first fault
pub data RecordFault : Type 0 where
  Wire : WireFault → RecordFault
  Prev : AnyHashError → RecordFault
  MissingTime : RecordFault
  TimeOutOfRange : RecordFault
  EmptyEntry : RecordFault
  Algorithm : RecordFault
  Key : KeyParseError → RecordFault
  Permission : ℤ → RecordFault
  Version : RecordFault
  ContentHash : AnyHashError → RecordFault

-- the fault that an error names; out of memory names none
abbrev pub fault_of : DecodeError → Option RecordFault
fault_of (error.Wire w) = Some (Wire w)
fault_of (error.Prev h) = Some (Prev h)
fault_of error.MissingTime = Some MissingTime
fault_of error.TimeOutOfRange = Some TimeOutOfRange
fault_of error.EmptyEntry = Some EmptyEntry
fault_of error.Algorithm = Some Algorithm
fault_of (error.Key k) = Some (Key k)
fault_of (error.Permission v) = Some (Permission v)
fault_of error.Version = Some Version
fault_of (error.ContentHash h) = Some (ContentHash h)
fault_of error.OutOfMemory = None

-- the error that names a fault
abbrev pub error_of : RecordFault → DecodeError
error_of (Wire w) = error.Wire w
error_of (Prev h) = error.Prev h
error_of MissingTime = error.MissingTime
error_of TimeOutOfRange = error.TimeOutOfRange
error_of EmptyEntry = error.EmptyEntry
error_of Algorithm = error.Algorithm
error_of (Key k) = error.Key k
error_of (Permission v) = error.Permission v
error_of Version = error.Version
error_of (ContentHash h) = error.ContentHash h

-- what is said, its fault as the error that names it
abbrev pub decode_result : {X : Type 0} → Result X RecordFault → Result X DecodeError
decode_result (Ok x) = Ok x
decode_result (Err f) = Err (error_of f)

-- what is said ends with this fault; an error that names none says nothing
abbrev pub NamesFault : {X F : Type 0} → Result X F → Option F → Type 0
NamesFault said None = Unit {0}
NamesFault said (Some f) = said ≡ Err f

-- what was answered, seen by view, is what is said, out of memory aside
abbrev pub IsReading : {X Y E F : Type 0} → (X → Y) → (E → Option F) → Result Y F → Result X E → Type 0
IsReading view named_by said (Ok x) = said ≡ Ok (view x)
IsReading view named_by said (Err e) = NamesFault said (named_by e)

-- what was answered, seen by view, is what is said, where no memory is taken
abbrev pub IsExactReading : {X Y E F : Type 0} → (X → Y) → (E → Option F) → Result Y F → Result X E → Type 0
IsExactReading view named_by said r = MatchResult r (λ x. said ≡ Ok (view x)) (λ e. IsSomeAnd (named_by e) (λ f. said ≡ Err f))

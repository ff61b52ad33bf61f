-- What bytes are read as, and which error a part's fault is.
use Rattle.std.specs.Prelude.{Result}
use Rattle.warg_crypto.specs.OutcomeResults.{ReturnsOr}
use Rattle.warg_crypto.specs.declared.coding.WireFault.{WireFault}
use Rattle.warg_crypto.specs.declared.coding.WireFault.TheVariants as wire
use Rattle.warg_crypto.specs.declared.coding.DecodeError.{DecodeError}
use Rattle.warg_crypto.specs.declared.coding.DecodeError.TheVariants as fault
use Rattle.warg_crypto.specs.declared.signing.error.KeyParseError.{KeyParseError}
use Rattle.warg_crypto.specs.declared.signing.error.KeyParseError.TheVariants as key

-- what was read, seen by view, is what the bytes say, unless memory ran out
abbrev pub IsDecoded : {X Y : Type 0} → (X → Y) → Result Y DecodeError → Result X DecodeError → Type 0
IsDecoded view said r = ReturnsOr fault.OutOfMemory view r said

-- a message's fault; out of memory stays out of memory
abbrev pub wire_error : WireFault → DecodeError
wire_error wire.OutOfMemory = fault.OutOfMemory
wire_error e = fault.Wire e

-- a key's fault; out of memory stays out of memory
abbrev pub key_error : KeyParseError → DecodeError
key_error key.OutOfMemory = fault.OutOfMemory
key_error e = fault.Key e

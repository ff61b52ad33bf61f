-- How bytes are read as records of a kind, as one word for the contracts that speak of it.
use Rattle.std.specs.Prelude.{ℕ, List, Option, Result}
use Rattle.warg_crypto.specs.declared.coding.DecodeError.{DecodeError}

-- What content bytes say, what a record says, and which fault an error names: all that it says stands in its type, and it
-- has one value. So a word that takes it takes all three, and a contract names one in place of three.
pub record Reading {C M F : Type 0} (read : List ℕ → Result M F) (meaning : C → M) (fault_of : DecodeError → Option F) : Type 0 where

-- How a kind of log judges its records, as one word for the contracts that speak of it.
use Rattle.std.specs.Prelude.{Option}
use Rattle.warg_log_records.specs.Kinds.{Kind}

-- The rules of a kind, what its states stand for, and which offence an error names: all that it says stands in its type, and
-- it has one value. So a word that takes it takes all three, and a contract names one in place of three.
pub record LogOf {S E View Offence : Type 0} (kind : Kind View Offence) (view : S → View) (offence_of : E → Option Offence) : Type 0 where

-- What is reported of the logs of a kind, as one word for the contracts that speak of it.
use Rattle.std.specs.Prelude.{ℕ, List, Option}

-- The names of a kind's errors, and the lines that are printed of its states: all that it says stands in its type, and
-- it has one value. So a word that takes it takes both, and a contract names one in place of two.
pub record ReportOf {S E : Type 0} (name_of : E → Option (List ℕ)) (lines_of : S → List ℕ) : Type 0 where

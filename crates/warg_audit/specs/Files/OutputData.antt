-- What a program prints.
use Rattle.std.specs.Prelude.{ℕ, List}

-- the text that is printed, and the exit status
pub record OutputData : Type 0 where
  pub text : List ℕ
  pub status : ℕ

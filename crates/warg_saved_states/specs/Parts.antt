-- The parts of a text's object.
use Rattle.std.specs.Prelude.{ℕ, ◌≡◌, List, false}
use Rattle.std.specs.Str.{bytes_eq}
use Rattle.warg_saved_states.specs.Asked.{is_asked}

-- the names differ, and none of them is one of those that are asked for
pub record AreApart (asked : List (List ℕ)) (first second third : List ℕ) : Type 0 where
  pub first_second : bytes_eq first second ≡ false
  pub first_third : bytes_eq first third ≡ false
  pub second_third : bytes_eq second third ≡ false
  pub first_other : is_asked asked first ≡ false
  pub second_other : is_asked asked second ≡ false
  pub third_other : is_asked asked third ≡ false

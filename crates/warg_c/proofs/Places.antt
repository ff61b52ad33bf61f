-- The item at a place of an iterator of a list.
use Rattle.std.proofs.Common.{◌≡◌, ◌≤◌, ℕ, List, Option, Some, None, refl, subst}
use Rattle.std.specs.Iterator.{SkipsThenYields}
use Rattle.std.specs.List.{slice_get}
use Rattle.std.specs.Map.Iter.{TakesFirst}
use Rattle.std.specs.Option.{option_map, option_copied}
use Rattle.std.proofs.lemmas.Option.{slice_get_past}
use Rattle.std.proofs.lemmas.Map.Iter.{iter_turn, iter_end}
use denote.Bor.{Bor}

-- what `nth` gives of an iterator that is seen as the list that it has left
pub nth-is : {A X : Type 0} (view : A → X) (all : List X) (n : ℕ) (r : Option (Bor A)) (u : List X) → SkipsThenYields (TakesFirst (λ (b : Bor A). view b.now)) all n r u → slice_get all n ≡ option_map view (option_copied r)
nth-is view all n (Some x) u (xs, (t, run, step), len) = subst (λ i. slice_get all i ≡ Some (view x.now)) len (iter_turn (λ b. view b.now) all xs all t u (Some x) refl run x refl step).1
nth-is view all n None u (xs, (t, run, step), le) = slice_get_past all n (subst (λ m. m ≤ n) (iter_end (λ b. view b.now) all xs all t u None refl run refl step).1 le)

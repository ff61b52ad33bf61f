-- What a map says after entries are inserted in turn, and after changes are laid over it.
use Rattle.std.proofs.Common.{◌≡◌, Bool, true, false, cond, not, Option, Some, None, is_some, List, [], ◌∷◌, ◌++◌, refl, sym, ap, subst, append_assoc, ◌∙◌}
use Rattle.std.proofs.lemmas.List.{append-nil}
use Rattle.std.specs.Cmp.{IsEquivalence}
use Rattle.std.specs.Option.{option_or}
use Rattle.std.specs.List.{AllByRecursion, IsDistinct}
use Rattle.std.specs.Map.{keys_of}
use Rattle.indexmap.specs.IndexMap.{insert_all}
use Rattle.indexmap.proofs.MapLemmas.{insert_entry-absent}

module _ {K X : Type 0} {eq : K → K → Bool} (laws : IsEquivalence eq) where
  apart : (k : K) (es xs : List (K × X)) (x : K × X) → AllByRecursion (λ l. eq k l ≡ false) (keys_of (es ++ x ∷ xs)) → eq k x.0 ≡ false
  apart k [] xs x h = h.0
  apart k (e ∷ es) xs x h = apart k es xs x h.1

  absent : (es xs : List (K × X)) (x : K × X) → IsDistinct eq (keys_of (es ++ x ∷ xs)) → AllByRecursion (λ k. eq x.0 k ≡ false) (keys_of es)
  unfolding IsDistinct
  absent [] xs x d = tt
  absent (e ∷ es) xs x d = (laws.symm x.0 e.0 ∙ apart e.0 es xs x d.0, absent es xs x d.1)

  -- where no two keys are equal, entries inserted in turn go last
  pub insert_all-apart : (es xs : List (K × X)) → IsDistinct eq (keys_of (es ++ xs)) → insert_all eq es xs ≡ es ++ xs
  insert_all-apart es [] d = sym (append-nil es)
  insert_all-apart es (x ∷ xs) d =
      let moved : (es ++ x ∷ []) ++ xs ≡ es ++ x ∷ xs = append_assoc es (x ∷ []) xs in
      ap (λ l. insert_all eq l xs) (insert_entry-absent eq x.0 x.1 es (absent es xs x d))
      ∙ insert_all-apart (es ++ x ∷ []) xs (subst (λ l. IsDistinct eq (keys_of l)) (sym moved) d)
      ∙ moved

pub unless_there : {X : Type 0} (there : Bool) (o : Option X) → cond (not there) o None ≡ cond there None o
unless_there true o = refl
unless_there false o = refl

-- what changes say, where what lies below says nothing else of what they say
pub over_others : {X : Type 0} (changed below : Option X) → option_or (cond (is_some changed) None below) changed ≡ option_or changed below
over_others (Some x) below = refl
over_others None (Some y) = refl
over_others None None = refl

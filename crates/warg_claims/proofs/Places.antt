-- Places of lists.
use Rattle.std.proofs.Common.{◌≡◌, ◌<◌, ◌+◌, ◌⊎◌, ℕ, zero, suc, List, [], ◌∷◌, ◌++◌, length, get_or, map, take, Some, None, inl, inr, refl, sym, ap, ◌∙◌, arith}
use Rattle.std.specs.List.{slice_get}
use Rattle.std.proofs.lemmas.Option.{slice_get-get_or, slice_get-map, slice_get_past}
use Rattle.std.proofs.lemmas.List.{map_push, take-map, take_more}
use Rattle.std.specs.Option.{option_map}

some-none : {X : Type 0} (x : X) → Some x ≡ None → ⊥
some-none x h = cc h

some-one : {X : Type 0} (x y : X) → Some x ≡ Some y → x ≡ y
some-one x y h = cc h

-- an element of a list with one more, or that one
pub at-push : {X : Type 0} (xs : List X) (x : X) (j : ℕ) (t : X) → slice_get (xs ++ x ∷ []) j ≡ Some t
    → ((j < length xs) × (slice_get xs j ≡ Some t)) ⊎ ((j ≡ length xs) × (t ≡ x))
at-push [] x zero t h = inr (refl, sym (some-one x t h))
at-push [] x (suc j) t h = let none = slice_get_past (x ∷ []) (suc j) (omega arith) in absurd (some-none t (sym h ∙ none))
at-push (y ∷ xs) x zero t h = inl (omega arith, h)
at-push (y ∷ xs) x (suc j) t h = elim (at-push xs x j t h) [
  | inl inside ↦ inl (omega (arith, inside.0), inside.1)
  | inr last ↦ inr (ap (λ n. suc n) last.0, last.1)
]

-- an element before a place, as of the front up to there
pub slice_get-take : {X : Type 0} (n : ℕ) (xs : List X) (j : ℕ) → j < n → slice_get (take n xs) j ≡ slice_get xs j
slice_get-take zero xs j h = absurd (omega arith)
slice_get-take (suc n) [] j h = refl
slice_get-take (suc n) (x ∷ xs) zero h = refl
slice_get-take (suc n) (x ∷ xs) (suc j) h = slice_get-take n xs j (omega arith)

-- the front with one element more, where the elements are seen by a function
pub take-map-next : {X Y : Type 0} (f : X → Y) (xs : List X) (i : ℕ) (x : X) (y : Y) → i < length xs → x ≡ get_or xs i x → y ≡ f x
    → take (i + 1) (map f xs) ≡ take i (map f xs) ++ y ∷ []
take-map-next f xs i x y below is seen =
    take-map f (i + 1) xs ∙ ap (map f) (take_more xs i x below) ∙ map_push f (take i xs) (get_or xs i x)
    ∙ ap (λ l. l ++ f (get_or xs i x) ∷ []) (sym (take-map f i xs)) ∙ ap (λ z. take i (map f xs) ++ z ∷ []) (ap f (sym is) ∙ sym seen)

-- the element there
pub slice_get-map-at : {X Y : Type 0} (f : X → Y) (xs : List X) (i : ℕ) (x : X) (y : Y) → i < length xs → x ≡ get_or xs i x → y ≡ f x
    → slice_get (map f xs) i ≡ Some y
slice_get-map-at f xs i x y below is seen =
    slice_get-map f xs i ∙ ap (option_map f) (slice_get-get_or xs i x below ∙ ap Some (sym is)) ∙ ap Some (sym seen)

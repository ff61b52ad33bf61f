-- Lists, seen as plain data.
use Rattle.std.proofs.Common.{◌≡◌, List, [], ◌∷◌, map, refl, ap, Option}
use Rattle.std.specs.List.{AllZip, filter_map, cons_option}

-- the clones of items look like the items as a list, where a clone looks like its item
pub map-clones : {A B : Type 0} (view : A → B) (IsClone : A → A → Type 0) → ((x y : A) → IsClone x y → view y ≡ view x)
    → (xs ys : List A) → AllZip IsClone xs ys → map view ys ≡ map view xs
map-clones view IsClone alike [] [] h = refl
map-clones view IsClone alike [] (y ∷ ys) h = absurd h
map-clones view IsClone alike (x ∷ xs) [] h = absurd h
map-clones view IsClone alike (x ∷ xs) (y ∷ ys) h = λ i. alike x y h.0 i ∷ map-clones view IsClone alike xs ys h.1 i

-- a function that goes through a view
pub map-as : {A B C : Type 0} (f : B → C) (g : A → B) (h : A → C) → ((x : A) → h x ≡ f (g x)) → (xs : List A) → map h xs ≡ map f (map g xs)
map-as f g h same [] = refl
map-as f g h same (x ∷ xs) = λ i. same x i ∷ map-as f g h same xs i

pub filter_map-through : {A B C : Type 0} (f : B → Option C) (g : A → B) (xs : List A) → filter_map (λ x. f (g x)) xs ≡ filter_map f (map g xs)
filter_map-through f g [] = refl
filter_map-through f g (x ∷ xs) = ap (cons_option (f (g x))) (filter_map-through f g xs)

-- Steps towards whole records.
use Rattle.std.proofs.Common.{◌≡◌, ℕ, ◌+◌, ◌<◌, List, [], ◌∷◌, ◌++◌, length, take, get_or, map, sym, ap, subst, ◌∙◌, add-one}
use Rattle.std.specs.List.{AllByRecursion}
use Rattle.std.proofs.Math.Seq.{take-suc}

all-append : {X : Type 0} (P : X → Type 0) (xs ys : List X) → AllByRecursion P xs → AllByRecursion P ys → AllByRecursion P (xs ++ ys)
all-append P [] ys h k = k
all-append P (x ∷ xs) ys h k = (h.0, all-append P xs ys h.1 k)

-- one more
pub all-next : {X : Type 0} (P : X → Type 0) (xs : List X) (i : ℕ) (x : X) → i < length xs → x ≡ get_or xs i x
    → AllByRecursion P (take i xs) → P x → AllByRecursion P (take (i + 1) xs)
all-next P xs i x below at h p =
    let front : take (i + 1) xs ≡ take i xs ++ x ∷ [] = rw add-one (take-suc xs i x below ∙ ap (λ y. take i xs ++ y ∷ []) (sym at)) in
    subst (AllByRecursion P) (sym front) (all-append P (take i xs) (x ∷ []) h (p, tt))

-- what each gives of the list that is seen
pub all-seen : {X Y : Type 0} (view : X → Y) (R W : Y → Type 0) (xs : List X) → AllByRecursion (λ x. R (view x) → W (view x)) xs
    → AllByRecursion R (map view xs) → AllByRecursion W (map view xs)
all-seen view R W [] h r = tt
all-seen view R W (x ∷ xs) h r = (h.0 r.0, all-seen view R W xs h.1 r.1)

pub all-map : {X Y : Type 0} (view : X → Y) (W : Y → Type 0) (xs : List X) → AllByRecursion (λ x. W (view x)) xs → AllByRecursion W (map view xs)
all-map view W [] h = tt
all-map view W (x ∷ xs) h = (h.0, all-map view W xs h.1)

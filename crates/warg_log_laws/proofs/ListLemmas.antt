-- Facts on lists and their places.
use Rattle.std.proofs.Common.{◌≡◌, ℕ, zero, suc, ◌+◌, ◌<◌, Bool, true, false, cond, true≢false, List, [], ◌∷◌, ◌++◌, length, take, drop, map, reverse, Some, None, refl, sym, ap, ◌∙◌, subst, arith}
use Rattle.std.specs.Prelude.{slice_get, filter}
use Rattle.std.specs.List.{AllByRecursion, enumerate_from}
use Rattle.std.proofs.lemmas.List.{reverse-append}

pub same_item : {A : Type 0} (x y : A) → Some x ≡ Some y → x ≡ y
same_item x y h = cc

pub no_item : {A : Type 0} {B : Type 0} (x : A) → None ≡ Some x → B
no_item x h = absurd cc

pub item_at : {A : Type 0} (xs : List A) (n : ℕ) → n < length xs → (x : A) × (slice_get xs n ≡ Some x)
item_at [] n h = absurd (omega (arith, h))
item_at (x ∷ xs) zero h = (x, refl)
item_at (x ∷ xs) (suc n) h = item_at xs n (omega (arith, h))

pub mapped_at : {A B : Type 0} (f : A → B) (xs : List A) (n : ℕ) (y : B) → slice_get (map f xs) n ≡ Some y → (x : A) × ((slice_get xs n ≡ Some x) × (f x ≡ y))
mapped_at f [] n y h = no_item y h
mapped_at f (x ∷ xs) zero y h = (x, (refl, same_item (f x) y h))
mapped_at f (x ∷ xs) (suc n) y h = mapped_at f xs n y h

pub take_at : {A : Type 0} (xs : List A) (n i : ℕ) (x : A) → slice_get (take n xs) i ≡ Some x → (i < n) × (slice_get xs i ≡ Some x)
take_at [] zero i x h = no_item x h
take_at [] (suc n) i x h = no_item x h
take_at (y ∷ ys) zero i x h = no_item x h
take_at (y ∷ ys) (suc n) zero x h = (omega arith, h)
take_at (y ∷ ys) (suc n) (suc i) x h = let r = take_at ys n i x h in (omega (arith, r.0), r.1)

pub take-take : {A : Type 0} (xs : List A) (i n : ℕ) → i < n → take i (take n xs) ≡ take i xs
take-take xs zero n h = refl
take-take xs (suc i) zero h = absurd (omega (arith, h))
take-take [] (suc i) (suc n) h = refl
take-take (x ∷ xs) (suc i) (suc n) h = ap (λ l. x ∷ l) (take-take xs i n (omega (arith, h)))

pub split_at : {A : Type 0} (xs : List A) (n : ℕ) (x : A) → slice_get xs n ≡ Some x → xs ≡ take n xs ++ x ∷ drop (suc n) xs
split_at [] n x h = no_item x h
split_at (y ∷ ys) zero x h = ap (λ z. z ∷ ys) (same_item y x h)
split_at (y ∷ ys) (suc n) x h = ap (λ l. y ∷ l) (split_at ys n x h)

pub dropped_at : {A : Type 0} (xs : List A) (n i : ℕ) → slice_get (drop n xs) i ≡ slice_get xs (n + i)
dropped_at xs zero i = let is : i ≡ 0 + i = omega arith in ap (slice_get xs) is
dropped_at [] (suc n) i = refl
dropped_at (x ∷ xs) (suc n) i = let is : suc (n + i) ≡ suc n + i = omega arith in dropped_at xs n i ∙ ap (slice_get (x ∷ xs)) is

pub take_next : {A : Type 0} (xs : List A) (n : ℕ) (x : A) → slice_get xs n ≡ Some x → take (suc n) xs ≡ take n xs ++ x ∷ []
take_next [] n x h = no_item x h
take_next (y ∷ ys) zero x h = ap (λ z. z ∷ []) (same_item y x h)
take_next (y ∷ ys) (suc n) x h = ap (λ l. y ∷ l) (take_next ys n x h)

pub enumerated_at : {A : Type 0} (m : ℕ) (xs : List A) (n : ℕ) (x : A) → slice_get xs n ≡ Some x → slice_get (enumerate_from m xs) n ≡ Some (m + n, x)
enumerated_at m [] n x h = no_item x h
enumerated_at m (y ∷ ys) zero x h =
    let m_is : m ≡ m + 0 = omega arith in
    (λ i. Some (m_is i, same_item y x h i))
enumerated_at m (y ∷ ys) (suc n) x h =
    let m_is : (m + 1) + n ≡ m + suc n = omega arith in
    enumerated_at (m + 1) ys n x h ∙ ap (λ k. Some (k, x)) m_is

pub reverse-cons : {A : Type 0} (x : A) (xs : List A) → reverse (x ∷ xs) ≡ reverse xs ++ x ∷ []
reverse-cons x xs = reverse-append (x ∷ []) xs

module _ {A : Type 0} where
  pub each-weaker : (P Q : A → Type 0) → ((x : A) → P x → Q x) → (xs : List A) → AllByRecursion P xs → AllByRecursion Q xs
  each-weaker P Q f [] h = tt
  each-weaker P Q f (x ∷ xs) h = (f x h.0, each-weaker P Q f xs h.1)

  pub each-append : (P : A → Type 0) (xs ys : List A) → AllByRecursion P xs → AllByRecursion P ys → AllByRecursion P (xs ++ ys)
  each-append P [] ys h g = g
  each-append P (x ∷ xs) ys h g = (h.0, each-append P xs ys h.1 g)

  pub each-rest : (P : A → Type 0) (xs ys : List A) → AllByRecursion P (xs ++ ys) → AllByRecursion P ys
  each-rest P [] ys h = h
  each-rest P (x ∷ xs) ys h = each-rest P xs ys h.1

  pub each-from : (P : A → Type 0) (xs : List A) → ((i : ℕ) (x : A) → slice_get xs i ≡ Some x → P x) → AllByRecursion P xs
  each-from P [] h = tt
  each-from P (x ∷ xs) h = (h 0 x refl, each-from P xs (λ i y at. h (suc i) y at))

  pub each-at : (P : A → Type 0) (xs : List A) → AllByRecursion P xs → (n : ℕ) (x : A) → slice_get xs n ≡ Some x → P x
  each-at P [] h n x at = no_item x at
  each-at P (y ∷ ys) h zero x at = subst P (same_item y x at) h.0
  each-at P (y ∷ ys) h (suc n) x at = each-at P ys h.1 n x at

pub each-map : {A B : Type 0} (f : A → B) (P : B → Type 0) (xs : List A) → AllByRecursion (λ x. P (f x)) xs → AllByRecursion P (map f xs)
each-map f P [] h = tt
each-map f P (x ∷ xs) h = (h.0, each-map f P xs h.1)

module _ {A : Type 0} (t : A → Bool) where
  filtered : (b : Bool) (x : A) (xs : List A) → t x ≡ b → filter t (x ∷ xs) ≡ cond b (x ∷ filter t xs) (filter t xs)
  filtered b x xs is = ap (λ c. cond c (x ∷ filter t xs) (filter t xs)) is

  -- what a filter gives first stands in the list, and passes
  pub filter_first : (xs : List A) (y : A) (ys : List A) → filter t xs ≡ y ∷ ys → (n : ℕ) × ((slice_get xs n ≡ Some y) × (t y ≡ true))
  filter_first [] y ys h = cc
  filter_first (x ∷ xs) y ys h = by (t x) refl (λ g. filter_first xs y ys g)
    where
      by : (b : Bool) → t x ≡ b → (filter t xs ≡ y ∷ ys → (n : ℕ) × ((slice_get xs n ≡ Some y) × (t y ≡ true))) → (n : ℕ) × ((slice_get (x ∷ xs) n ≡ Some y) × (t y ≡ true))
      by true is later =
          let one : x ∷ filter t xs ≡ y ∷ ys = sym (filtered true x xs is) ∙ h in
          let same : x ≡ y = cc in
          (0, (ap (λ z. Some z) same, ap t (sym same) ∙ is))
      by false is later = let found = later (sym (filtered false x xs is) ∙ h) in (suc found.0, found.1)

  none_passes : (xs : List A) → filter t xs ≡ [] → (n : ℕ) (x : A) → slice_get xs n ≡ Some x → t x ≡ false
  none_passes [] h n x at = no_item x at
  none_passes (y ∷ ys) h n x at = by (t y) refl (λ g m there. none_passes ys g m x there) n at
    where
      by : (b : Bool) → t y ≡ b → (filter t ys ≡ [] → (m : ℕ) → slice_get ys m ≡ Some x → t x ≡ false) → (m : ℕ) → slice_get (y ∷ ys) m ≡ Some x → t x ≡ false
      by true is later m there =
          let some : y ∷ filter t ys ≡ [] = sym (filtered true y ys is) ∙ h in
          cc some
      by false is later zero there = ap t (sym (same_item y x there)) ∙ is
      by false is later (suc m) there = later (sym (filtered false y ys is) ∙ h) m there

  -- where a filter gives one, each that passes is it
  pub filter_only : (xs : List A) (y : A) → filter t xs ≡ y ∷ [] → (n : ℕ) (x : A) → slice_get xs n ≡ Some x → t x ≡ true → x ≡ y
  filter_only [] y h n x at passes = no_item x at
  filter_only (z ∷ zs) y h n x at passes = by (t z) refl (λ g m there. filter_only zs y g m x there passes) n at
    where
      by : (b : Bool) → t z ≡ b → (filter t zs ≡ y ∷ [] → (m : ℕ) → slice_get zs m ≡ Some x → x ≡ y) → (m : ℕ) → slice_get (z ∷ zs) m ≡ Some x → x ≡ y
      by true is later zero there =
          let one : z ∷ filter t zs ≡ y ∷ [] = sym (filtered true z zs is) ∙ h in
          let same : z ≡ y = cc in
          sym (same_item z x there) ∙ same
      by true is later (suc m) there =
          let one : z ∷ filter t zs ≡ y ∷ [] = sym (filtered true z zs is) ∙ h in
          let rest : filter t zs ≡ [] = cc in
          absurd (true≢false (sym passes ∙ none_passes zs rest m x there))
      by false is later zero there = absurd (true≢false (sym passes ∙ ap t (sym (same_item z x there)) ∙ is))
      by false is later (suc m) there = later (sym (filtered false z zs is) ∙ h) m there

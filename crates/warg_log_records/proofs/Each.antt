-- Steps one after another, as a loop takes them.
use Rattle.std.proofs.Common.{◌≡◌, List, [], ◌∷◌, ◌++◌, Option, Some, None, Result, Ok, Err, refl, ap, ◌∙◌}
use Rattle.warg_envelope.specs.Faults.{NamesFault}
use Rattle.warg_log_records.specs.RecordReading.{◌>>=◌, each}

-- a fault ends what follows
pub tells_bind : {X Y F : Type 0} (read : Result X F) (next : X → Result Y F) (told : Option F) → NamesFault read told → NamesFault (read >>= next) told
tells_bind read next None h = tt
tells_bind read next (Some f) h = ap (λ (r : Result _ _). r >>= next) h

module _ {B F : Type 0} where
  bind-nil : (r : Result (List B) F) → r ≡ (r >>= λ us. Ok ([] ++ us))
  bind-nil (Ok us) = refl
  bind-nil (Err e) = refl

  bind-cons : (r : Result B F) (s t : Result (List B) F) → (r >>= λ y. (s >>= λ us. t >>= λ vs. Ok (us ++ vs)) >>= λ zs. Ok (y ∷ zs)) ≡ ((r >>= λ y. s >>= λ us. Ok (y ∷ us)) >>= λ us. t >>= λ vs. Ok (us ++ vs))
  bind-cons (Ok y) (Ok us) (Ok vs) = refl
  bind-cons (Ok y) (Ok us) (Err e) = refl
  bind-cons (Ok y) (Err e) t = refl
  bind-cons (Err e) s t = refl

module _ {A B F : Type 0} where
  module _ (f : A → Result B F) where
    pub each-append : (xs ys : List A) → each f (xs ++ ys) ≡ (each f xs >>= λ us. each f ys >>= λ vs. Ok (us ++ vs))
    each-append [] ys = bind-nil (each f ys)
    each-append (x ∷ xs) ys = (λ i. f x >>= λ y. each-append xs ys i >>= λ zs. Ok (y ∷ zs)) ∙ bind-cons (f x) (each f xs) (each f ys)

    -- one more
    pub each-grows : (xs : List A) (us : List B) (x : A) (u : B) → each f xs ≡ Ok us → f x ≡ Ok u → each f (xs ++ x ∷ []) ≡ Ok (us ++ u ∷ [])
    each-grows xs us x u h k = each-append xs (x ∷ []) ∙ (λ i. h i >>= λ vs. (k i >>= λ y. Ok (y ∷ [])) >>= λ ws. Ok (vs ++ ws))

    -- the first fault
    pub each-stops : (xs : List A) (us : List B) (x : A) (ys : List A) (told : Option F) → each f xs ≡ Ok us → NamesFault (f x) told → NamesFault (each f (xs ++ x ∷ ys)) told
    each-stops xs us x ys None h k = tt
    each-stops xs us x ys (Some e) h k = each-append xs (x ∷ ys) ∙ (λ i. h i >>= λ vs. (k i >>= λ y. each f ys >>= λ zs. Ok (y ∷ zs)) >>= λ ws. Ok (vs ++ ws))

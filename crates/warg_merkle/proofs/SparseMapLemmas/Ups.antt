-- The rest of a key's way up.
use Rattle.std.proofs.Common.{◌≡◌, ℕ, suc, ◌<◌, true, false, List, [], ◌∷◌, length, Option, Some, None, refl, sym, ◌∙◌, ap, arith}
use Rattle.warg_merkle.specs.Trees.{Left, Right, node_input, climb}
use Rattle.warg_merkle.specs.SparseMap.Maps.{is_right, sides_up}

side_right : (n : ℕ) (key : List ℕ) → is_right key n ≡ true → sides_up (suc n) key ≡ Right ∷ sides_up n key
unfolding sides_up
side_right n key is = rw is refl

side_left : (n : ℕ) (key : List ℕ) → is_right key n ≡ false → sides_up (suc n) key ≡ Left ∷ sides_up n key
unfolding sides_up
side_left n key is = rw is refl

no_sides : (key : List ℕ) → sides_up 0 key ≡ []
unfolding sides_up
no_sides key = refl

module _ (hash : List ℕ → List ℕ) where
  pub to_right : (n d : ℕ) (key p : List ℕ) (ps qs : List (List ℕ)) (h : List ℕ) (r : Option (List ℕ)) → n ≡ suc d → qs ≡ p ∷ ps → true ≡ is_right key d → climb hash (sides_up n key) qs h ≡ r → climb hash (sides_up d key) ps (hash (node_input p h)) ≡ r
  unfolding climb
  to_right n d key p ps qs h r is_n is_qs is e = sym (ap (λ m. climb hash (sides_up m key) qs h) is_n ∙ ap (λ ss. climb hash ss qs h) (side_right d key (sym is)) ∙ ap (λ rest. climb hash (Right ∷ sides_up d key) rest h) is_qs) ∙ e

  pub to_left : (n d : ℕ) (key p : List ℕ) (ps qs : List (List ℕ)) (h : List ℕ) (r : Option (List ℕ)) → n ≡ suc d → qs ≡ p ∷ ps → false ≡ is_right key d → climb hash (sides_up n key) qs h ≡ r → climb hash (sides_up d key) ps (hash (node_input h p)) ≡ r
  unfolding climb
  to_left n d key p ps qs h r is_n is_qs is e = sym (ap (λ m. climb hash (sides_up m key) qs h) is_n ∙ ap (λ ss. climb hash ss qs h) (side_left d key (sym is)) ∙ ap (λ rest. climb hash (Left ∷ sides_up d key) rest h) is_qs) ∙ e

  short_at : (d : ℕ) (key h : List ℕ) → climb hash (sides_up (suc d) key) [] h ≡ None
  unfolding climb sides_up
  short_at d key h = refl

  pub short : (n d : ℕ) (key : List ℕ) (qs : List (List ℕ)) (h : List ℕ) (r : Option (List ℕ)) → n ≡ suc d → length qs ≡ 0 → climb hash (sides_up n key) qs h ≡ r → None ≡ r
  short n d key [] h r is_n none e = sym (ap (λ m. climb hash (sides_up m key) [] h) is_n ∙ short_at d key h) ∙ e
  short n d key (q ∷ qs) h r is_n none e = absurd (omega arith)

  pub whole : (n : ℕ) (key : List ℕ) (qs : List (List ℕ)) (h : List ℕ) (r : Option (List ℕ)) → n ≡ 0 → length qs ≡ 0 → climb hash (sides_up n key) qs h ≡ r → Some h ≡ r
  unfolding climb
  whole n key [] h r is_n none e = sym (ap (λ m. climb hash (sides_up m key) [] h) is_n ∙ ap (λ ss. climb hash ss [] h) (no_sides key)) ∙ e
  whole n key (q ∷ qs) h r is_n none e = absurd (omega arith)

  pub long : (n : ℕ) (key : List ℕ) (qs : List (List ℕ)) (h : List ℕ) (r : Option (List ℕ)) → n ≡ 0 → 0 < length qs → climb hash (sides_up n key) qs h ≡ r → None ≡ r
  unfolding climb
  long n key [] h r is_n more e = absurd (omega arith)
  long n key (q ∷ qs) h r is_n more e = sym (ap (λ m. climb hash (sides_up m key) (q ∷ qs) h) is_n ∙ ap (λ ss. climb hash ss (q ∷ qs) h) (no_sides key)) ∙ e

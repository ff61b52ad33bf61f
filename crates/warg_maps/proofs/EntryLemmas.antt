-- What `insert_entry` does to a list of entries, however the map did it.
use Rattle.std.proofs.Common.{◌≡◌, ◌+◌, Bool, true, false, cond, List, [], ◌∷◌, length, Option, Some, is_some, if◌then◌else◌, refl, sym, ap, ◌∙◌, subst, true≢false, arith}
use Rattle.std.specs.List.{AllByRecursion, IsDistinct}
use Rattle.std.specs.Cmp.{IsEquivalence}
use Rattle.std.specs.Map.{keys_of, lookup, update, update_all, IsKeyTest, KeepsOthers}
use Rattle.std_collections.proofs.Entries.{by_answer}
use Rattle.indexmap.specs.IndexMap.{insert_entry, insert_all}

-- two answers in either order, where both are not `true`
swapped : {A : Type 0} (b c : Bool) (x y z : A) → (b ≡ true → c ≡ true → ⊥) → cond b x (cond c y z) ≡ cond c y (cond b x z)
swapped true true x y z h = absurd (h refl refl)
swapped true false x y z h = refl
swapped false c x y z h = refl

-- the first of two equal answers counts
covered : {A : Type 0} (b : Bool) (x y z : A) → cond b x z ≡ cond b x (cond b y z)
covered true x y z = refl
covered false x y z = refl

module _ {K X : Type 0} {eq : K → K → Bool} (laws : IsEquivalence eq) (k : K) (v : X) where
  -- a test answers the same of two equal keys
  alike : (other : K → Bool) → IsKeyTest eq other → (x : K) → eq k x ≡ true → other x ≡ other k
  alike other test x same =
      by_answer (other k) (λ yes. test k x yes ∙ same ∙ sym yes)
      (λ no. by_answer (other x) (λ yes. absurd (true≢false (sym (test x k yes ∙ laws.symm x k ∙ same) ∙ no))) (λ other_no. other_no ∙ sym no))

  -- what any test finds after an insert
  pub lookup-inserted : (other : K → Bool) → IsKeyTest eq other → (es : List (K × X)) → lookup other (insert_entry eq es k v) ≡ cond (other k) (Some v) (lookup other es)
  lookup-inserted other test [] = refl
  lookup-inserted other test (e ∷ es) =
      by_answer (eq k e.0)
      (λ same. ap (λ b. lookup other (cond b ((e.0, v) ∷ es) (e ∷ insert_entry eq es k v))) same
      ∙ ap (λ b. cond b (Some v) (lookup other es)) (alike other test e.0 same)
      ∙ covered (other k) (Some v) (Some e.1) (lookup other es)
      ∙ ap (λ b. cond (other k) (Some v) (cond b (Some e.1) (lookup other es))) (sym (alike other test e.0 same)))
      (λ apart. ap (λ b. lookup other (cond b ((e.0, v) ∷ es) (e ∷ insert_entry eq es k v))) apart
      ∙ ap (cond (other e.0) (Some e.1)) (lookup-inserted other test es)
      ∙ swapped (other e.0) (other k) (Some e.1) (Some v) (lookup other es) (λ there here. true≢false (sym there ∙ test k e.0 here ∙ apart)))

  pub inserted-each : (es : List (K × X)) (q : K) → lookup (eq q) (insert_entry eq es k v) ≡ cond (eq k q) (Some v) (lookup (eq q) es)
  inserted-each es q = lookup-inserted (eq q) (laws.congr q) es ∙ ap (λ b. cond b (Some v) (lookup (eq q) es)) (laws.symm q k)

  pub inserted-here : (es : List (K × X)) → lookup (eq k) (insert_entry eq es k v) ≡ Some v
  inserted-here es = lookup-inserted (eq k) (laws.congr k) es ∙ ap (λ b. cond b (Some v) (lookup (eq k) es)) (laws.refl k)

  pub inserted-apart : (es : List (K × X)) → KeepsOthers eq (eq k) es (insert_entry eq es k v)
  unfolding KeepsOthers
  inserted-apart es other test apart = lookup-inserted other test es ∙ ap (λ b. cond b (Some v) (lookup other es)) (apart k (laws.refl k))

  -- one more entry, unless the key is there
  pub length-inserted : (es : List (K × X)) → length (insert_entry eq es k v) ≡ length es + (if is_some (lookup (eq k) es) then 0 else 1)
  length-inserted [] = refl
  length-inserted (e ∷ es) =
      by_answer (eq k e.0)
      (λ same. (λ j. length (cond (same j) ((e.0, v) ∷ es) (e ∷ insert_entry eq es k v))) ∙ omega arith ∙ sym (ap (λ b. length (e ∷ es) + (if is_some (cond b (Some e.1) (lookup (eq k) es)) then 0 else 1)) same))
      (λ apart. let more = length-inserted es in
      (λ j. length (cond (apart j) ((e.0, v) ∷ es) (e ∷ insert_entry eq es k v))) ∙ omega (arith, more) ∙ sym (ap (λ b. length (e ∷ es) + (if is_some (cond b (Some e.1) (lookup (eq k) es)) then 0 else 1)) apart))

  every-inserted : (P : K → Type 0) → P k → (es : List (K × X)) → AllByRecursion P (keys_of es) → AllByRecursion P (keys_of (insert_entry eq es k v))
  every-inserted P here [] all = (here, tt)
  every-inserted P here (e ∷ es) all =
      by_answer (eq k e.0) (λ same. subst (λ b. AllByRecursion P (keys_of (cond b ((e.0, v) ∷ es) (e ∷ insert_entry eq es k v)))) (sym same) all)
      (λ apart. subst (λ b. AllByRecursion P (keys_of (cond b ((e.0, v) ∷ es) (e ∷ insert_entry eq es k v)))) (sym apart) (all.0, every-inserted P here es all.1))

  pub distinct-inserted : (es : List (K × X)) → IsDistinct eq (keys_of es) → IsDistinct eq (keys_of (insert_entry eq es k v))
  unfolding IsDistinct
  distinct-inserted [] distinct = (tt, tt)
  distinct-inserted (e ∷ es) distinct =
      by_answer (eq k e.0) (λ same. subst (λ b. IsDistinct eq (keys_of (cond b ((e.0, v) ∷ es) (e ∷ insert_entry eq es k v)))) (sym same) distinct)
      (λ apart. subst (λ b. IsDistinct eq (keys_of (cond b ((e.0, v) ∷ es) (e ∷ insert_entry eq es k v)))) (sym apart)
      (every-inserted (λ y. eq e.0 y ≡ false) (laws.symm e.0 k ∙ apart) es distinct.0, distinct-inserted es distinct.1))

  -- what each key has after an insert, in the words of `Updates`
  pub updates-inserted : (es fs : List (K × X)) → fs ≡ insert_entry eq es k v
      → ((q : K) → lookup (eq q) fs ≡ cond (eq k q) (Some v) (lookup (eq q) es)) × (lookup (eq k) fs ≡ Some v) × ((q : K) → eq k q ≡ false → lookup (eq q) fs ≡ lookup (eq q) es) × KeepsOthers eq (eq k) es fs
  updates-inserted es fs after =
      subst (λ l. ((q : K) → lookup (eq q) l ≡ cond (eq k q) (Some v) (lookup (eq q) es)) × (lookup (eq k) l ≡ Some v) × ((q : K) → eq k q ≡ false → lookup (eq q) l ≡ lookup (eq q) es) × KeepsOthers eq (eq k) es l) (sym after)
      (inserted-each es, inserted-here es, λ q apart. inserted-each es q ∙ ap (λ b. cond b (Some v) (lookup (eq q) es)) apart, inserted-apart es)

module _ {K X : Type 0} {eq : K → K → Bool} (laws : IsEquivalence eq) where
  -- the entries as a function: each insert updates it
  pub lookup-inserted_all : (xs es : List (K × X)) (f : K → Option X) → ((q : K) → lookup (eq q) es ≡ f q) → (q : K) → lookup (eq q) (insert_all eq es xs) ≡ update_all eq f xs q
  lookup-inserted_all [] es f same q = same q
  lookup-inserted_all (x ∷ xs) es f same q =
      lookup-inserted_all xs (insert_entry eq es x.0 x.1) (update eq f x.0 (Some x.1)) (λ p. inserted-each laws x.0 x.1 es p ∙ ap (cond (eq x.0 p) (Some x.1)) (same p)) q

  pub distinct-inserted_all : (xs es : List (K × X)) → IsDistinct eq (keys_of es) → IsDistinct eq (keys_of (insert_all eq es xs))
  distinct-inserted_all [] es distinct = distinct
  distinct-inserted_all (x ∷ xs) es distinct = distinct-inserted_all xs (insert_entry eq es x.0 x.1) (distinct-inserted laws x.0 x.1 es distinct)

-- The map of entries with one more at their end.
use Rattle.std.proofs.Common.{◌≡◌, ◌≢◌, inl, inr, ℕ, ◌<◌, ◌≤◌, Bool, false, true, List, [], ◌∷◌, ◌++◌, length, refl, sym, ap, subst, ◌∙◌, arith, Option, Some, None, if◌then◌else◌}
use Rattle.std.specs.List.{Contains}
use Rattle.std.proofs.lemmas.Bool.{cond-false, cond-true, false_from_ne_true, false≢true}
use Rattle.std.proofs.lemmas.List.{length-append}
use Rattle.std.proofs.lemmas.List.Elements.{Contains-append_left, Contains-push, Contains-push_cases}
use Rattle.sha2.specs.Sha256.{sha256}
use Rattle.warg_listed_map.specs.ListedMaps.{IsMapOf}
use Rattle.warg_listed_map.specs.declared.entry.Entry.{Entry}
use Rattle.warg_merkle.specs.SparseMap.Maps.{value_input, way_down}
use Rattle.warg_merkle.specs.SparseTree.Nodes.{Sets}
use Rattle.warg_merkle.specs.Trees.{Side, Left, Right, leaf_input}

-- ---- a value put at a way

abbrev same_side : Side → Side → Bool
same_side Left Left = true
same_side Left Right = false
same_side Right Left = false
same_side Right Right = true

abbrev same_way : List Side → List Side → Bool
same_way [] [] = true
same_way [] (t ∷ b) = false
same_way (s ∷ a) [] = false
same_way (s ∷ a) (t ∷ b) = if same_side s t then same_way a b else false

same_side-itself : (s : Side) → same_side s s ≡ true
same_side-itself Left = refl
same_side-itself Right = refl

same_way-itself : (a : List Side) → same_way a a ≡ true
same_way-itself [] = refl
same_way-itself (s ∷ a) = cond-true (same_side s s) (same_way a a) false (same_side-itself s) ∙ same_way-itself a

same_way-is : (a b : List Side) → same_way a b ≡ true → a ≡ b
same_way-is [] [] e = refl
same_way-is [] (t ∷ b) e = absurd (false≢true e)
same_way-is (s ∷ a) [] e = absurd (false≢true e)
same_way-is (Left ∷ a) (Left ∷ b) e = ap (λ w. Left ∷ w) (same_way-is a b e)
same_way-is (Left ∷ a) (Right ∷ b) e = absurd (false≢true e)
same_way-is (Right ∷ a) (Left ∷ b) e = absurd (false≢true e)
same_way-is (Right ∷ a) (Right ∷ b) e = ap (λ w. Right ∷ w) (same_way-is a b e)

module _ (m : List Side → Option (List ℕ)) (way : List Side) (value : List ℕ) where
  abbrev pub put_at : List Side → Option (List ℕ)
  put_at w = if same_way w way then Some value else m w

  pub sets_put : Sets m put_at way value
  sets_put = record {
    changed = cond-true (same_way way way) (Some value) (m way) (same_way-itself way);
    others = λ other differ. cond-false (same_way other way) (Some value) (m other)
        (false_from_ne_true (same_way other way) (λ is. differ (same_way-is other way is)));
  }

-- ---- entries

pub no_entry : (e : Entry) → Contains [] e → ⊥
no_entry e (k, below, is) = absurd (omega (arith, below))

pub empty_map : IsMapOf way_down [] (λ way. None)
empty_map = record { leaf = λ e stands. absurd (no_entry e stands.among); none = λ at nothing. refl }

module _ (entries : List Entry) (e : Entry) (m n : List Side → Option (List ℕ)) (value : List ℕ) (of : IsMapOf way_down entries m)
    (placed : (x : Entry) → Contains entries x → x.place < length entries) (at : e.place ≡ length entries)
    (sets : Sets m n (way_down e.key) value) (hashed : e.leaf ≡ sha256 (leaf_input value)) where
  leaf_before : (x : Entry) → Contains entries x → way_down x.key ≢ way_down e.key
      → ((o : Entry) → Contains (entries ++ e ∷ []) o → way_down o.key ≡ way_down x.key → o.place ≤ x.place)
      → sha256 (value_input (n (way_down x.key))) ≡ x.leaf
  leaf_before x before apart last =
      ap (λ v. sha256 (value_input v)) (sets.others (way_down x.key) apart)
      ∙ of.leaf x (record { among = before; latest = λ o among same. last o (Contains-append_left entries (e ∷ []) o among) same })

  is_earlier : (x : Entry) → Contains entries x → e.place ≤ x.place → ⊥
  is_earlier x before high = let low = placed x before in absurd (omega (arith, high, low, at))

  pub map_more : IsMapOf way_down (entries ++ e ∷ []) n
  map_more = record {
    leaf = λ x stands. elim (Contains-push_cases entries e x stands.among) [
      | inl before ↦ leaf_before x before (λ same. is_earlier x before (stands.latest e (Contains-push entries e) (sym same))) stands.latest
      | inr same ↦ subst (λ (y : Entry). sha256 (value_input (n (way_down y.key))) ≡ y.leaf) same
          (ap (λ v. sha256 (value_input v)) sets.changed ∙ sym hashed)
    ];
    none = λ w nothing.
        sets.others w (λ same. nothing e (Contains-push entries e) (sym same))
        ∙ of.none w (λ x among. nothing x (Contains-append_left entries (e ∷ []) x among));
  }

  pub placed_more : (x : Entry) → Contains (entries ++ e ∷ []) x → x.place < length (entries ++ e ∷ [])
  placed_more x among = elim (Contains-push_cases entries e x among) [
    | inl before ↦ let low = placed x before in omega (arith, low, length-append entries (e ∷ []))
    | inr same ↦ let is = ap (λ (y : Entry). y.place) same in omega (arith, is, at, length-append entries (e ∷ []))
  ]

-- A list of different permissions reads back as it was.
use Rattle.std.specs.Prelude.{ℕ, ◌≡◌, List, [], ◌∷◌, ◌++◌, map, Bool, true, false, ◌||◌, if◌then◌else◌, ⊤, Option, Some, Result, Ok, Err, IfOk, refl}
use Rattle.std.specs.Cmp.{IsEquivalence}
use Rattle.std.specs.List.{AllByRecursion, IsDistinct, list_any}
use Rattle.std.proofs.Common.{sym, ap, ◌∙◌, subst, append_assoc, append-nil}
use Rattle.indexmap.specs.IndexSet.{insert_key}
use Rattle.serde_json.specs.Data.{Data, string}
use Rattle.serde_json.specs.View.{items_of}
use Rattle.warg_crypto.specs.declared.json.error.JsonError.{JsonError}
use Rattle.warg_crypto.specs.Json.Json.{AreReadBack, ReturnsOrNoMemory, ReadsBack, json_result}
use Rattle.warg_saved_states.specs.SavedPermissions.{permissions_from, permissions_in, permissions_json}

written_same : {A : Type 0} (x y : A) → json_result x ≡ Ok y → x ≡ y
written_same x y e = cc

module _ {P : Type 0} (same : P → P → Bool) where
  abbrev AllNew : List P → List P → Type 0
  AllNew done [] = ⊤
  AllNew done (p ∷ ps) = (list_any (same p) done ≡ false) × AllNew (done ++ p ∷ []) ps

  none-last : (q p : P) (done : List P) → list_any (same q) done ≡ false → same q p ≡ false → list_any (same q) (done ++ p ∷ []) ≡ false
  none-last q p [] h other = rw other refl
  none-last q p (d ∷ done) h other = by (same q d) h (λ n. none-last q p done n other)
    where
      by : (b : Bool) → (b || list_any (same q) done) ≡ false → (list_any (same q) done ≡ false → list_any (same q) (done ++ p ∷ []) ≡ false)
          → (b || list_any (same q) (done ++ p ∷ [])) ≡ false
      by true n again = cc n
      by false n again = again n

  still_none : (laws : IsEquivalence same) (p : P) (done qs : List P) → AllByRecursion (λ q. list_any (same q) done ≡ false) qs → AllByRecursion (λ q. same p q ≡ false) qs
      → AllByRecursion (λ q. list_any (same q) (done ++ p ∷ []) ≡ false) qs
  still_none laws p done [] h other = tt
  still_none laws p done (q ∷ qs) h other = (none-last q p done h.0 (laws.symm q p ∙ other.0), still_none laws p done qs h.1 other.1)

  all_new : (laws : IsEquivalence same) (done ps : List P) → AllByRecursion (λ q. list_any (same q) done ≡ false) ps → IsDistinct same ps → AllNew done ps
  unfolding IsDistinct
  all_new laws done [] h d = tt
  all_new laws done (p ∷ ps) h d = (h.0, all_new laws (done ++ p ∷ []) ps (still_none laws p done ps h.1 d.0) d.1)

  none_done : (ps : List P) → AllByRecursion (λ q. list_any (same q) [] ≡ false) ps
  none_done [] = tt
  none_done (p ∷ ps) = (refl, none_done ps)

  module _ (text_of : P → List ℕ) (named : List ℕ → Option P) (back : (p : P) → named (text_of p) ≡ Some p) where
    from_names : (done ps : List P) → AllNew done ps → permissions_from same named done (items_of (map (λ p. string (text_of p)) ps)) ≡ Ok (done ++ ps)
    from_names done [] h = ap json_result (sym (append-nil done))
    from_names done (p ∷ ps) h =
        let next : insert_key same done p ≡ done ++ p ∷ [] = ap (λ b. if b then done else done ++ p ∷ []) h.0 in
        rw (back p, next) (from_names (done ++ p ∷ []) ps h.1 ∙ ap json_result (append_assoc done (p ∷ []) ps))

pub permissions_read_back : {P : Type 0} (same : P → P → Bool) (laws : IsEquivalence same) (text_of : P → List ℕ) (named : List ℕ → Option P) (back : (p : P) → named (text_of p) ≡ Some p)
    → (ps : List P) → IsDistinct same ps → {V : Type 0} (view : V → Data) (r : Result V JsonError) → ReturnsOrNoMemory view r (permissions_json text_of ps)
    → AreReadBack [] → IfOk r (λ v. ReadsBack (permissions_in same named) (λ a b. a ≡ b) ps (view v))
permissions_read_back same laws text_of named back ps distinct view (Err e) given none = tt
permissions_read_back same laws text_of named back ps distinct view (Ok v) given none = record {
  again = ps;
  is = subst (λ (d : Data). permissions_in same named d ≡ Ok ps) (written_same _ _ given)
      (from_names same text_of named back [] ps (all_new same laws [] ps (none_done same ps) distinct));
  equal = refl;
}

-- The pairs of a map read back where its values do.
use Rattle.std.specs.Prelude.{ℕ, ◌≡◌, List, [], ◌∷◌, Bool, true, false, OnOk, None, Result, Ok, Err, refl}
use Rattle.std.specs.List.{AllByRecursion, IsDistinct}
use Rattle.std.specs.Map.{keys_of}
use Rattle.std.specs.Str.{bytes_eq}
use Rattle.std.proofs.Common.{sym, ap, ◌∙◌, true≢false}
use Rattle.std.proofs.lemmas.Slice.Eq.{bytes_eq-Decides}
use Rattle.serde_json.specs.Data.{Data}
use Rattle.warg_crypto.specs.declared.json.error.JsonError.{JsonError}
use Rattle.warg_crypto.specs.Json.Json.{AreReadBack, IsReadBack, Version}
use Rattle.warg_crypto.specs.Json.Pairs.{plain_pairs, value_at}
use Rattle.warg_crypto.specs.Json.JsonLaws.{ok_same}
use Rattle.warg_saved_states.specs.Backs.{AreBack, AreVersionsBack, IsBack}

pub on_ok_then : {A : Type 0} {P Q : Type 0} (r : Result A JsonError) → (P → Q) → OnOk r P → OnOk r Q
on_ok_then (Ok x) f p = f p
on_ok_then (Err e) f p = tt

pub always : {A : Type 0} {P : Type 0} (r : Result A JsonError) → P → OnOk r P
always (Ok x) p = p
always (Err e) p = tt

-- where names and values ask nothing of versions
pub no_versions : {K A : Type 0} (es : List (K × A)) → AreVersionsBack (λ _. []) (λ _. []) es
no_versions [] = tt
no_versions (e ∷ es) = ((tt, tt), no_versions es)

module _ {K V A B : Type 0} (plain : K → A) (value : V → B) (name_of : A → List ℕ) (named : List ℕ → Result A JsonError)
    (writes : B → Result Data JsonError) (reads : Data → Result B JsonError) (of_name : A → List Version) (of_value : B → List Version) where
  -- each value is read as it was, where the texts of its versions are
  abbrev pub AreValuesBack : List (K × V) → Type 0
  AreValuesBack es = AllByRecursion (λ e. AreReadBack (of_value (value e.1)) → IsReadBack writes reads (λ x y. x ≡ y) (value e.1)) es

  module _ (eq : K → K → Bool) (read : (k : A) → AreReadBack (of_name k) → named (name_of k) ≡ Ok k) (same_key : (a b : K) → plain a ≡ plain b → eq a b ≡ true) where
    absent : (k : K) (es : List (K × V)) → named (name_of (plain k)) ≡ Ok (plain k) → AllByRecursion (λ x. eq k x ≡ false) (keys_of es)
        → AllByRecursion (IsBack name_of named writes reads) (plain_pairs plain value es) → value_at name_of (name_of (plain k)) (plain_pairs plain value es) ≡ None
    absent k [] own other back = refl
    absent k (e ∷ es) own other back = by (bytes_eq (name_of (plain k)) (name_of (plain e.0))) refl (absent k es own other.1 back.1)
      where
        by : (b : Bool) → bytes_eq (name_of (plain k)) (name_of (plain e.0)) ≡ b → value_at name_of (name_of (plain k)) (plain_pairs plain value es) ≡ None
            → value_at name_of (name_of (plain k)) (plain_pairs plain value (e ∷ es)) ≡ None
        by false is none = rw is none
        by true is none =
            let name : name_of (plain k) ≡ name_of (plain e.0) = (bytes_eq-Decides (name_of (plain k)) (name_of (plain e.0))).0 is in
            let one : plain k ≡ plain e.0 = ok_same (plain k) (plain e.0) (sym own ∙ ap named name ∙ back.0.name) in
            absurd (true≢false (sym (same_key k e.0 one) ∙ other.0))

    pub are_back : (es : List (K × V)) → IsDistinct eq (keys_of es) → AreValuesBack es → AreVersionsBack of_name of_value (plain_pairs plain value es)
        → AreBack name_of named writes reads (plain_pairs plain value es)
    unfolding IsDistinct
    are_back [] distinct values versions = record { each = tt; unique = tt }
    are_back (e ∷ es) distinct values versions =
        let rest = are_back es distinct.1 values.1 versions.1 in
        let own = read (plain e.0) versions.0.0 in
        record {
          each = (record { name = own; value = values.0 versions.0.1 }, rest.each);
          unique = (absent e.0 es own distinct.0 rest.each, rest.unique);
        }

-- The parts of a coherent state fit together, in whatever order their maps are read.
use Rattle.std.specs.Prelude.{ℕ, ◌≡◌, ◌≤◌, nat_le, List, [], ◌∷◌, Bool, true, false, not, ◌||◌, cond, Option, Some, None, is_some, is_none, refl}
use Rattle.std.specs.List.{list_any}
use Rattle.std.specs.Map.{keys_of, lookup}
use Rattle.std.specs.Option.{option_map}
use Rattle.std.specs.Str.{bytes_eq}
use Rattle.std.proofs.Common.{sym, ap, ◌∙◌, true≢false}
use Rattle.std.proofs.lemmas.Bool.{le-leb}
use Rattle.std.proofs.lemmas.Slice.Eq.{bytes_eq-Decides}
use Rattle.warg_crypto.specs.NamedBytes.{NamedBytes, fingerprint_of}
use Rattle.warg_crypto.specs.Json.Pairs.{IsUniquePairs}
use Rattle.warg_crypto.specs.declared.hash.HashAlgorithm.{HashAlgorithm}
use Rattle.warg_crypto.specs.declared.json.error.Incoherence.{Incoherence}
use Rattle.warg_saved_states.specs.Fit.{begun_case, case_if, empty_case, first_case, is_misplaced, is_nil, is_unknown, version_case}
use Rattle.warg_saved_states.specs.MapNames.{text_name}

self : (k : List ℕ) → bytes_eq k k ≡ true
self k = (bytes_eq-Decides k k).1 refl

-- what no value that is found passes is passed by no pair
pub none_found : {A : Type 0} (test : List ℕ × A → Bool) (es : List (List ℕ × A)) → IsUniquePairs text_name es
    → ((k : List ℕ) (x : A) → lookup (bytes_eq k) es ≡ Some x → test (k, x) ≡ false) → list_any test es ≡ false
none_found test [] unique h = refl
none_found {A} test (e ∷ es) unique h =
    let first : test e ≡ false = h e.0 e.1 (ap (λ b. cond b (Some e.1) (lookup (bytes_eq e.0) es)) (self e.0)) in
    rw first (none_found test es unique.1 (λ k x at. h k x (later k x at (bytes_eq k e.0) refl)))
  where
    later : (k : List ℕ) (x : A) → lookup (bytes_eq k) es ≡ Some x → (b : Bool) → bytes_eq k e.0 ≡ b
        → cond (bytes_eq k e.0) (Some e.1) (lookup (bytes_eq k) es) ≡ Some x
    later k x at false is = rw is at
    later k x at true is =
        let one : k ≡ e.0 = (bytes_eq-Decides k e.0).0 is in
        let none : Some x ≡ None = sym at ∙ (λ i. lookup (bytes_eq (one i)) es) ∙ unique.0 in
        cc none

-- each key stands under its fingerprint
pub keys_placed : (keys : List (List ℕ × NamedBytes)) → IsUniquePairs text_name keys
    → ((k : List ℕ) (key : NamedBytes) → lookup (bytes_eq k) keys ≡ Some key → bytes_eq (fingerprint_of key) k ≡ true) → list_any is_misplaced keys ≡ false
keys_placed keys unique h = none_found is_misplaced keys unique (λ k x at. ap not (h k x at))

not_none : {X : Type 0} (o : Option X) → is_some o ≡ true → is_none o ≡ false
not_none None h = absurd (true≢false (sym h))
not_none (Some x) h = refl

-- each id with an entry has a key
pub rights_known : {X : Type 0} (rights : List (List ℕ × X)) (keys : List (List ℕ × NamedBytes)) → IsUniquePairs text_name rights
    → ((k : List ℕ) → is_some (lookup (bytes_eq k) rights) ≡ true → is_some (lookup (bytes_eq k) keys) ≡ true) → list_any (λ e. is_unknown keys e.0) rights ≡ false
rights_known rights keys unique h = none_found (λ e. is_unknown keys e.0) rights unique (λ k x at. not_none (lookup (bytes_eq k) keys) (h k (ap is_some at)))

any_key : {X : Type 0} (test : List ℕ → Bool) (es : List (List ℕ × X)) → list_any test (keys_of es) ≡ list_any (λ e. test e.0) es
any_key test [] = refl
any_key test (e ∷ es) = ap (λ b. test e.0 || b) (any_key test es)

-- and so it is with keys that are found alike
pub rights_still : {X : Type 0} (rights : List (List ℕ × X)) (keys again : List (List ℕ × NamedBytes)) → list_any (λ e. is_unknown keys e.0) rights ≡ false
    → ((q : List ℕ) → lookup (bytes_eq q) again ≡ lookup (bytes_eq q) keys) → list_any (is_unknown again) (keys_of rights) ≡ false
rights_still rights keys again h at = any_key (is_unknown again) rights ∙ (λ i. list_any (λ e. is_none (at e.0 i)) rights) ∙ h

-- where nothing is found, nothing is there
pub nil_found : {X : Type 0} (es : List (List ℕ × X)) → ((k : List ℕ) → is_some (lookup (bytes_eq k) es) ≡ false) → is_nil es ≡ true
nil_found [] h = refl
nil_found (e ∷ es) h =
    let first : cond (bytes_eq e.0 e.0) (Some e.1) (lookup (bytes_eq e.0) es) ≡ Some e.1 = ap (λ b. cond b (Some e.1) (lookup (bytes_eq e.0) es)) (self e.0) in
    absurd (true≢false (sym (ap is_some first) ∙ h e.0))

module _ {H : Type 0} (version : H → ℕ) where
  pub begun_none : (a : Option HashAlgorithm) (h : Option H) → is_some a ≡ is_some h → begun_case a (option_map version h) ≡ None
  begun_none None None is = refl
  begun_none None (Some h) is = absurd (true≢false (sym is))
  begun_none (Some a) None is = absurd (true≢false is)
  begun_none (Some a) (Some h) is = refl

  pub empty_none : (a : Option HashAlgorithm) (h : Option H) (b : Bool) → is_some a ≡ is_some h → (is_none h ≡ true → b ≡ true) → empty_case a b ≡ None
  empty_none (Some a) h b is empty = refl
  empty_none None (Some h) b is empty = absurd (true≢false (sym is))
  empty_none None None b is empty = rw (empty refl) refl

  pub version_none : (o : Option H) → ((h : H) → o ≡ Some h → version h ≤ 1) → version_case (option_map version o) ≡ None
  version_none None h = refl
  version_none (Some g) h =
      let small : nat_le (version g) 1 ≡ true = le-leb (version g) 1 (h g refl) in
      rw small refl

pub case_none : (b : Bool) (i : Incoherence) → b ≡ false → case_if b i ≡ None
case_none true i h = absurd (true≢false h)
case_none false i h = refl

-- none of six cases
pub all_fit : (a b c d e f : Option Incoherence) → a ≡ None → b ≡ None → c ≡ None → d ≡ None → e ≡ None → f ≡ None
    → first_case (a ∷ b ∷ c ∷ d ∷ e ∷ f ∷ []) ≡ None
all_fit a b c d e f h i j k l m = rw (h, i, j, k, l, m) refl

-- A map is read of an object, member by member.
use Rattle.std.specs.Prelude.{ℕ, ◌≡◌, List, [], ◌∷◌, ◌++◌, map, Bool, true, false, if◌then◌else◌, Result, Ok, Err, refl}
use Rattle.std.specs.declared.cmp.Ordering.TheVariants.{Less}
use Rattle.std.specs.Cmp.Lexicographic.{slice_cmp, nat_list_eq_equiv}
use Rattle.std.specs.List.{AllByRecursion}
use Rattle.std.specs.List.Sorted.{IsStrictlySortedBy}
use Rattle.std.specs.Map.{keys_of}
use Rattle.std.specs.Ordering.{is_eq, nat_cmp}
use Rattle.std.specs.Str.{bytes_eq}
use Rattle.std.proofs.Common.{sym, ap, ◌∙◌, subst, append_assoc, true≢false}
use Rattle.std.proofs.lemmas.Map.Text.{is_eq-slice_cmp}
use Rattle.std.proofs.lemmas.Slice.Eq.{bytes_eq-Decides}
use Rattle.indexmap.specs.IndexMap.{insert_entry}
use Rattle.serde_json.specs.Data.{Data, Members, member}
use Rattle.warg_crypto.specs.declared.json.error.JsonError.{JsonError}
use Rattle.warg_crypto.specs.Json.Pairs.{AreAscending, names_of, pairs_of, plain_pairs}
use Rattle.warg_crypto.specs.Json.Json.{◌>>=◌, json_result}

-- what was read already, before what is left
abbrev pub before : {A : Type 0} → List A → Result (List A) JsonError → Result (List A) JsonError
before done (Ok more) = Ok (done ++ more)
before done (Err e) = Err e

-- one more that was read
before_one : {A : Type 0} (done : List A) (x : A) (r : Result (List A) JsonError)
    → before done (r >>= λ rest. json_result (x ∷ rest)) ≡ before (done ++ x ∷ []) r
before_one done x (Ok more) = ap json_result (sym (append_assoc done (x ∷ []) more))
before_one done x (Err e) = refl

at_seam : {X : Type 0} (P : X → Type 0) (xs : List X) (y : X) (ys : List X) → AllByRecursion P (xs ++ y ∷ ys) → P y
at_seam P [] y ys h = h.0
at_seam P (x ∷ xs) y ys h = at_seam P xs y ys h.1

-- names that ascend differ from each that follows
names_differ : (ns : List (List ℕ)) (n : List ℕ) (rest : List (List ℕ)) → AreAscending (ns ++ n ∷ rest) → AllByRecursion (λ m. bytes_eq n m ≡ false) ns
unfolding IsStrictlySortedBy
names_differ [] n rest h = tt
names_differ (m ∷ ns) n rest h =
    let less : slice_cmp nat_cmp m n ≡ Less = at_seam (λ y. slice_cmp nat_cmp m y ≡ Less) ns n rest h.0 in
    (nat_list_eq_equiv.symm n m ∙ sym (is_eq-slice_cmp m n) ∙ ap is_eq less, names_differ ns n rest h.1)

pub new_last : {K V : Type 0} (eq : K → K → Bool) (es : List (K × V)) (k : K) (v : V) → AllByRecursion (λ x. eq k x ≡ false) (keys_of es) → insert_entry eq es k v ≡ es ++ (k, v) ∷ []
new_last eq [] k v h = refl
new_last eq (e ∷ es) k v h = ap (λ b. if b then (e.0, v) ∷ es else e ∷ insert_entry eq es k v) h.0 ∙ ap (λ l. e ∷ l) (new_last eq es k v h.1)

pub map-last : {X Y : Type 0} (f : X → Y) (xs : List X) (y : X) → map f (xs ++ y ∷ []) ≡ map f xs ++ f y ∷ []
map-last f [] y = refl
map-last f (x ∷ xs) y = ap (λ l. f x ∷ l) (map-last f xs y)

module _ {K V A B : Type 0} (plain : K → A) (value : V → B) (name_of : A → List ℕ) (named : List ℕ → Result A JsonError) (reads : Data → Result B JsonError) where
  -- the entries are what was read, and the rest is to come
  pub record IsReading (es : List (K × V)) (rest all : Members) : Type 0 where
    pub read : before (plain_pairs plain value es) (pairs_of named reads rest) ≡ pairs_of named reads all
    pub names : map (λ e. name_of (plain e.0)) es ++ names_of rest ≡ names_of all

  module _ (eq : K → K → Bool) (one_key : (a b : K) → eq a b ≡ true → plain a ≡ plain b) (back : (name : List ℕ) (k : A) → named name ≡ Ok k → name_of k ≡ name) where
    pub keys_differ : (es : List (K × V)) (k : K) → AllByRecursion (λ m. bytes_eq (name_of (plain k)) m ≡ false) (map (λ e. name_of (plain e.0)) es) → AllByRecursion (λ x. eq k x ≡ false) (keys_of es)
    keys_differ [] k h = tt
    keys_differ (e ∷ es) k h = (by (eq k e.0) refl, keys_differ es k h.1)
      where
        by : (b : Bool) → eq k e.0 ≡ b → eq k e.0 ≡ false
        by false is = is
        by true is =
            let same : name_of (plain k) ≡ name_of (plain e.0) = ap name_of (one_key k e.0 is) in
            absurd (true≢false (sym ((bytes_eq-Decides (name_of (plain k)) (name_of (plain e.0))).1 same) ∙ h.0))

    -- one more member was read, and is put
    pub one_more : (es new : List (K × V)) (k : K) (v : V) (name : List ℕ) (json : Data) (more all : Members)
        → AreAscending (names_of all) → named name ≡ Ok (plain k) → reads json ≡ Ok (value v) → new ≡ insert_entry eq es k v
        → IsReading es (member name json more) all → IsReading new more all
    one_more es new k v name json more all ascend key read put is =
        let own : name_of (plain k) ≡ name = back name (plain k) key in
        let rising : AreAscending (map (λ e. name_of (plain e.0)) es ++ name ∷ names_of more) = subst AreAscending (sym is.names) ascend in
        let apart : AllByRecursion (λ m. bytes_eq (name_of (plain k)) m ≡ false) (map (λ e. name_of (plain e.0)) es)
        = subst (λ n. AllByRecursion (λ m. bytes_eq n m ≡ false) (map (λ e. name_of (plain e.0)) es)) (sym own) (names_differ (map (λ e. name_of (plain e.0)) es) name (names_of more) rising) in
        let last : new ≡ es ++ (k, v) ∷ [] = put ∙ new_last eq es k v (keys_differ es k apart) in
        let seen : plain_pairs plain value new ≡ plain_pairs plain value es ++ (plain k, value v) ∷ []
        = ap (plain_pairs plain value) last ∙ map-last (λ e. (plain e.0, value e.1)) es (k, v) in
        let one : before (plain_pairs plain value es) (pairs_of named reads (member name json more)) ≡ before (plain_pairs plain value es ++ (plain k, value v) ∷ []) (pairs_of named reads more)
        = rw (key, read) (before_one (plain_pairs plain value es) (plain k, value v) (pairs_of named reads more)) in
        let called : map (λ e. name_of (plain e.0)) new ≡ map (λ e. name_of (plain e.0)) es ++ name ∷ []
        = ap (map (λ e. name_of (plain e.0))) last ∙ map-last (λ e. name_of (plain e.0)) es (k, v) ∙ ap (λ n. map (λ e. name_of (plain e.0)) es ++ n ∷ []) own in
        record {
          read = ap (λ l. before l (pairs_of named reads more)) seen ∙ sym one ∙ is.read;
          names = ap (λ l. l ++ names_of more) called ∙ append_assoc (map (λ e. name_of (plain e.0)) es) (name ∷ []) (names_of more) ∙ is.names;
        }

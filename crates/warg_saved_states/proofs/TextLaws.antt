-- The texts of members, as they are put and joined.
use Rattle.std.proofs.Common.{◌≡◌, ℕ, List, [], ◌∷◌, ◌++◌, String, Global, Ordering, Less, Equal, Greater, string_bytes, string_cmp, nat_cmp, Bool, true, Bor, refl, sym, ap, subst, ◌∙◌}
use Rattle.std.specs.Prelude.{Result, Ok}
use Rattle.std.specs.Cmp.Lexicographic.{slice_cmp}
use Rattle.std.specs.BTreeMap.{insert_entry}
use Rattle.std.specs.Ordering.{match_ordering}
use Rattle.serde_json.specs.Data.{Data, Members, no_members, member, put, string}
use Rattle.serde_json.specs.Written.{comma_if, compact_text, members_text}
use Rattle.warg_crypto.specs.declared.json.error.JsonError.{JsonError}
use Rattle.warg_saved_states.specs.Texts.{AreMembers, object_rest, texts_of, texts_view}

first_same : (x y : List ℕ × List ℕ) (xs ys : List (List ℕ × List ℕ)) → x ∷ xs ≡ y ∷ ys → x ≡ y
first_same x y xs ys e = cc

others_same : (x y : List ℕ × List ℕ) (xs ys : List (List ℕ × List ℕ)) → x ∷ xs ≡ y ∷ ys → xs ≡ ys
others_same x y xs ys e = cc

put_at : (o : Ordering) (k v : String Global) (d : Data) (e : String Global × String Global) (es more : List (String Global × String Global))
    (l : List ℕ) (f : Data) (ms after : Members) → slice_cmp nat_cmp (string_bytes k) l ≡ o
    → string_bytes v ≡ compact_text d → texts_view (e ∷ es) ≡ texts_of (member l f ms)
    → texts_view more ≡ texts_of after
    → texts_view (match_ordering o ((k, v) ∷ e ∷ es) ((e.0, v) ∷ es) (e ∷ more))
    ≡ texts_of (match_ordering o (member (string_bytes k) d (member l f ms)) (member l d ms) (member l f after))
put_at Less k v d e es more l f ms after c own are again =
    ap (λ t. (string_bytes k, t) ∷ texts_view (e ∷ es)) own ∙ ap (λ ts. (string_bytes k, compact_text d) ∷ ts) are
put_at Equal k v d e es more l f ms after c own are again =
    let name : string_bytes e.0 ≡ l = ap (λ p. p.0) (first_same _ _ _ _ are) in
    ap (λ n. (n, string_bytes v) ∷ texts_view es) name ∙ ap (λ t. (l, t) ∷ texts_view es) own
    ∙ ap (λ ts. (l, compact_text d) ∷ ts) (others_same _ _ _ _ are)
put_at Greater k v d e es more l f ms after c own are again =
    ap (λ p. p ∷ texts_view more) (first_same _ _ _ _ are) ∙ ap (λ ts. (l, compact_text f) ∷ ts) again

-- a text that is put is that of the member
pub put_text : (es : List (String Global × String Global)) (k v : String Global) (d : Data) (ms : Members)
    → string_bytes v ≡ compact_text d → texts_view es ≡ texts_of ms
    → texts_view (insert_entry string_cmp es k v) ≡ texts_of (put (string_bytes k) d ms)
put_text [] k v d no_members own are = ap (λ t. (string_bytes k, t) ∷ []) own
put_text [] k v d (member l f ms) own are = cc are
put_text (e ∷ es) k v d no_members own are = cc are
put_text (e ∷ es) k v d (member l f ms) own are =
    let name : string_bytes e.0 ≡ l = ap (λ p. p.0) (first_same _ _ _ _ are) in
    ap (λ n. texts_view (match_ordering (slice_cmp nat_cmp (string_bytes k) n) ((k, v) ∷ e ∷ es) ((e.0, v) ∷ es) (e ∷ insert_entry string_cmp es k v))) name
    ∙ put_at (slice_cmp nat_cmp (string_bytes k) l) k v d e es (insert_entry string_cmp es k v) l f ms (put (string_bytes k) d ms) refl own are
    (put_text es k v d ms own (others_same _ _ _ _ are))

-- the texts joined are the text of the members
pub joined_text : (later : Bool) (ms : Members) → object_rest later (texts_of ms) ≡ members_text later ms
joined_text later no_members = refl
joined_text later (member k d ms) =
    ap (λ rest. comma_if later ++ (compact_text (string k) ++ 58 ∷ (compact_text d ++ rest))) (joined_text true ms)

module _ {V A : Type 0} (plain : V → A) (writes : A → Result Data JsonError) where
  value_at : (o : Ordering) (k : String Global) (v : Bor V) (d : Data) (e : String Global × Bor V) (es more : List (String Global × Bor V))
      (l : List ℕ) (f : Data) (ms after : Members) → writes (plain v.now) ≡ Ok d
      → AreMembers plain writes (e ∷ es) (member l f ms) → AreMembers plain writes more after
      → AreMembers plain writes (match_ordering o ((k, v) ∷ e ∷ es) ((e.0, v) ∷ es) (e ∷ more))
      (match_ordering o (member (string_bytes k) d (member l f ms)) (member l d ms) (member l f after))
  value_at Less k v d e es more l f ms after own are again = (refl, own, are)
  value_at Equal k v d e es more l f ms after own are again = (are.0, own, are.2)
  value_at Greater k v d e es more l f ms after own are again = (are.0, are.1, again)

  -- a value that is put by its name is the member that is put
  pub put_value : (es : List (String Global × Bor V)) (k : String Global) (v : Bor V) (d : Data) (ms : Members)
      → writes (plain v.now) ≡ Ok d → AreMembers plain writes es ms
      → AreMembers plain writes (insert_entry string_cmp es k v) (put (string_bytes k) d ms)
  put_value [] k v d no_members own are = (refl, own, tt)
  put_value [] k v d (member l f ms) own are = absurd are
  put_value (e ∷ es) k v d no_members own are = absurd are
  put_value (e ∷ es) k v d (member l f ms) own are =
      subst (λ (n : List ℕ). AreMembers plain writes (match_ordering (slice_cmp nat_cmp (string_bytes k) (string_bytes e.0)) ((k, v) ∷ e ∷ es) ((e.0, v) ∷ es) (e ∷ insert_entry string_cmp es k v))
      (match_ordering (slice_cmp nat_cmp (string_bytes k) n) (member (string_bytes k) d (member l f ms)) (member l d ms) (member l f (put (string_bytes k) d ms))))
      are.0
      (value_at (slice_cmp nat_cmp (string_bytes k) (string_bytes e.0)) k v d e es (insert_entry string_cmp es k v) l f ms (put (string_bytes k) d ms) own are
      (put_value es k v d ms own are.2))

  -- the first of the members, whose value is the first
  pub record First (e : String Global × Bor V) (es : List (String Global × Bor V)) (ms : Members) : Type 0 where
    pub value : Data
    pub others : Members
    pub are : ms ≡ member (string_bytes e.0) value others
    pub own : writes (plain e.1.now) ≡ Ok value
    pub rest : AreMembers plain writes es others

  pub first_of : (e : String Global × Bor V) (es : List (String Global × Bor V)) (ms : Members)
      → AreMembers plain writes (e ∷ es) ms → First e es ms
  first_of e es no_members are = absurd are
  first_of e es (member name d more) are =
      record { value = d; others = more; are = ap (λ n. member n d more) (sym are.0); own = are.1; rest = are.2 }

-- What is written by one step after another is canonical.
use Rattle.std.specs.Prelude.{ℕ, suc, ◌≡◌, List, [], ◌∷◌, map, Option, Some, None, Result, Ok, Err, refl}
use Rattle.std.specs.declared.cmp.Ordering.{Ordering}
use Rattle.std.specs.declared.cmp.Ordering.TheVariants.{Less, Equal, Greater}
use Rattle.std.specs.Cmp.Lexicographic.{slice_cmp}
use Rattle.std.specs.List.{AllByRecursion}
use Rattle.std.specs.List.Sorted.{IsStrictlySortedBy}
use Rattle.std.specs.Ordering.{nat_cmp, match_ordering, ordering_reverse}
use Rattle.std.proofs.Common.{ap, ◌∙◌}
use Rattle.std.proofs.lemmas.Cmp.{nat_list_cmp_total}
use Rattle.serde_json.specs.Data.{Data, Members, no_members, member, object, array, put, string}
use Rattle.serde_json.specs.View.{items_of}
use Rattle.warg_crypto.specs.declared.json.error.JsonError.{JsonError}
use Rattle.warg_crypto.specs.Json.Json.{◌>>=◌, json_result}
use Rattle.warg_crypto.specs.Json.Members.{put_json, put_option, put_some}
use Rattle.warg_crypto.specs.Json.Pairs.{AreAscending, names_of, pairs_onto}
use Rattle.warg_saved_states.specs.Canonical.{AreCanonicalIn, IsCanonical, PutsCanonical, WritesCanonical}
use Rattle.warg_saved_states.specs.Maps.{put_pairs}

-- the text is, of which there may be none
pub text_canonical : (n : ℕ) (r : Result (List ℕ) JsonError) → WritesCanonical n (r >>= λ text. json_result (string text))
text_canonical n (Ok text) = tt
text_canonical n (Err e) = tt

-- so are texts
pub texts_canonical : {P : Type 0} (n : ℕ) (text_of : P → List ℕ) (ps : List P)
    → IsCanonical (suc n) (array (items_of (map (λ p. string (text_of p)) ps)))
texts_canonical n text_of [] = tt
texts_canonical n text_of (p ∷ ps) = (tt, texts_canonical n text_of ps)

-- so is what is written after members that make a canonical object
pub then_canonical : (n : ℕ) (r : Result Members JsonError) (f : Members → Result Data JsonError) → PutsCanonical n r
    → ((ms : Members) → IsCanonical n (object ms) → WritesCanonical n (f ms)) → WritesCanonical n (r >>= f)
then_canonical n (Ok ms) f h next = next ms h
then_canonical n (Err e) f h next = tt

-- every name is above l
abbrev AreAbove : List ℕ → List (List ℕ) → Type 0
AreAbove l names = AllByRecursion (λ name. slice_cmp nat_cmp l name ≡ Less) names

all_above : (k l : List ℕ) (names : List (List ℕ)) → slice_cmp nat_cmp k l ≡ Less → AreAbove l names → AreAbove k names
all_above k l [] h above = tt
all_above k l (name ∷ names) h above = (nat_list_cmp_total.trans k l name h above.0, all_above k l names h above.1)

above_put : (l k : List ℕ) (d : Data) (ms : Members) → slice_cmp nat_cmp l k ≡ Less → AreAbove l (names_of ms)
    → AreAbove l (names_of (put k d ms))
above_put l k d no_members h above = (h, tt)
above_put l k d (member name e ms) h above = by (slice_cmp nat_cmp k name) (above_put l k d ms h above.1)
  where
    by : (o : Ordering) → AreAbove l (names_of (put k d ms))
        → AreAbove l (names_of (match_ordering o (member k d (member name e ms)) (member name d ms) (member name e (put k d ms))))
    by Less again = (h, above)
    by Equal again = above
    by Greater again = (above.0, again)

put_ascending : (k : List ℕ) (d : Data) (ms : Members) → AreAscending (names_of ms) → AreAscending (names_of (put k d ms))
unfolding IsStrictlySortedBy
put_ascending k d no_members h = (tt, tt)
put_ascending k d (member l e ms) h = by (slice_cmp nat_cmp k l) refl (put_ascending k d ms h.1)
  where
    by : (o : Ordering) → slice_cmp nat_cmp k l ≡ o → AreAscending (names_of (put k d ms))
        → AreAscending (names_of (match_ordering o (member k d (member l e ms)) (member l d ms) (member l e (put k d ms))))
    by Less is again = ((is, all_above k l (names_of ms) is h.0), h)
    by Equal is again = h
    by Greater is again = (above_put l k d ms (nat_list_cmp_total.antisymm l k ∙ ap ordering_reverse is) h.0, again)

put_in : (n : ℕ) (k : List ℕ) (d : Data) (ms : Members) → IsCanonical n d → AreCanonicalIn n ms → AreCanonicalIn n (put k d ms)
put_in n k d no_members own h = (own, tt)
put_in n k d (member l e ms) own h = by (slice_cmp nat_cmp k l) (put_in n k d ms own h.1)
  where
    by : (o : Ordering) → AreCanonicalIn n (put k d ms)
        → AreCanonicalIn n (match_ordering o (member k d (member l e ms)) (member l d ms) (member l e (put k d ms)))
    by Less again = (own, h)
    by Equal again = (own, h.1)
    by Greater again = (h.0, again)

-- no members are
pub none_canonical : (n : ℕ) → IsCanonical (suc n) (object no_members)
unfolding IsStrictlySortedBy
none_canonical n = (tt, tt)

module _ (n : ℕ) where
  -- members are, after a canonical value is put
  pub put_canonical : (k : List ℕ) (d : Data) (ms : Members) → IsCanonical n d → IsCanonical (suc n) (object ms)
      → IsCanonical (suc n) (object (put k d ms))
  put_canonical k d ms own h = (put_in n k d ms own h.0, put_ascending k d ms h.1)

  module _ {A : Type 0} (writes : A → Result Data JsonError) where
    -- after what is written of a value is put
    pub member_canonical : (name : List ℕ) (x : A) (ms : Members) → WritesCanonical n (writes x) → IsCanonical (suc n) (object ms)
        → PutsCanonical (suc n) (put_json writes name x ms)
    member_canonical name x ms own h = by (writes x) own
      where
        by : (r : Result Data JsonError) → WritesCanonical n r → PutsCanonical (suc n) (r >>= λ d. json_result (put name d ms))
        by (Ok d) is = put_canonical name d ms is h
        by (Err e) is = tt

    -- after what is written of a value that may be missing is put
    pub option_canonical : (name : List ℕ) (o : Option A) (ms : Members) → ((x : A) → o ≡ Some x → WritesCanonical n (writes x))
        → IsCanonical (suc n) (object ms) → PutsCanonical (suc n) (put_option writes name o ms)
    option_canonical name None ms own h = h
    option_canonical name (Some x) ms own h = by (writes x) (own x refl)
      where
        by : (r : Result Data JsonError) → WritesCanonical n r
            → PutsCanonical (suc n) ((r >>= λ d. json_result (Some d)) >>= λ o. json_result (put_some name o ms))
        by (Ok d) is = put_canonical name d ms is h
        by (Err e) is = tt

module _ {K A : Type 0} (n : ℕ) (name_of : K → List ℕ) (writes : A → Result Data JsonError) (own : (x : A) → WritesCanonical n (writes x)) where
  onto_canonical : (ms : Members) (es : List (K × A)) → IsCanonical (suc n) (object ms) → PutsCanonical (suc n) (pairs_onto name_of writes ms es)
  onto_canonical ms [] h = h
  onto_canonical ms (e ∷ es) h = by (writes e.1) (own e.1) (λ d is. onto_canonical (put (name_of e.0) d ms) es (put_canonical n (name_of e.0) d ms is h))
    where
      by : (r : Result Data JsonError) → WritesCanonical n r
          → ((d : Data) → IsCanonical n d → PutsCanonical (suc n) (pairs_onto name_of writes (put (name_of e.0) d ms) es))
          → PutsCanonical (suc n) (r >>= λ d. pairs_onto name_of writes (put (name_of e.0) d ms) es)
      by (Ok d) is again = again d is
      by (Err f) is again = tt

  -- after a map of canonical values is put
  pub pairs_canonical : (name : List ℕ) (es : List (K × A)) (ms : Members) → IsCanonical (suc (suc n)) (object ms)
      → PutsCanonical (suc (suc n)) (put_pairs name_of writes name es ms)
  pairs_canonical name [] ms h = h
  pairs_canonical name (e ∷ es) ms h = by (pairs_onto name_of writes no_members (e ∷ es)) (onto_canonical no_members (e ∷ es) (none_canonical n))
    where
      by : (r : Result Members JsonError) → PutsCanonical (suc n) r
          → PutsCanonical (suc (suc n)) (((r >>= λ found. json_result (object found)) >>= λ d. json_result (Some d)) >>= λ o. json_result (put_some name o ms))
      by (Ok found) is = put_canonical (suc n) name (object found) ms is h
      by (Err e) is = tt

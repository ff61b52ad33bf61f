-- Of a text's members those that are asked for are taken.
use Rattle.std.specs.Prelude.{ℕ, zero, suc, ◌≡◌, ◌-◌, ◌<◌, ◌≤◌, ◌==◌, ◌||◌, ◌⊎◌, List, [], ◌∷◌, length, Bool, true, false, Option, Some, None, refl}
use Rattle.std.specs.Borrow.{Bor}
use Rattle.std.specs.List.{list_any}
use Rattle.std.specs.declared.alloc.Global.{Global}
use Rattle.std.specs.declared.cmp.Ordering.{Ordering}
use Rattle.std.specs.declared.cmp.Ordering.TheVariants.{Less, Equal, Greater}
use Rattle.std.specs.Cmp.Lexicographic.{slice_cmp}
use Rattle.std.specs.Ordering.{nat_cmp, match_ordering}
use Rattle.std.specs.Prelude.{String}
use Rattle.std.specs.Str.{bytes_eq}
use Rattle.std.proofs.Common.{inl, inr, sym, ap, ◌∙◌, subst, arith, true≢false}
use Rattle.std.proofs.lemmas.Slice.Eq.{bytes_eq-Decides}
use Rattle.json.specs.Token.{Token}
use Rattle.json.specs.Json.{Json, Parse, members, read_key}
use Rattle.serde_json.specs.Data.{Data, Items, Members, array, member, no_members, null, object, put}
use Rattle.serde_json.specs.Find.{as_null, as_number, as_object, as_str, get_member}
use Rattle.serde_json.specs.Read.{converted, of_json, of_members}
use Rattle.serde_json.specs.View.{members_view}
use Rattle.serde_json.specs.declared.value.Value.{Value}
use Rattle.serde_json.proofs.Views.{get_member-put, get_member-put_other}
use Rattle.warg_crypto.specs.Json.Members.{SameOptions}
use Rattle.warg_crypto.specs.Json.Pairs.{names_of}
use Rattle.warg_saved_states.specs.Asked.{AreAskedOf, IsAskedOf, IsLike, IsTaken, is_asked, is_single, texts}
use Rattle.warg_saved_states.proofs.TextReading.{member_read, members_over}

-- names that differ are two
pub other_name : (a b : List ℕ) → bytes_eq a b ≡ false → (a ≡ b → ⊥)
other_name a b e same = true≢false (sym ((bytes_eq-Decides a b).1 same) ∙ e)

pub any_texts : (name : List ℕ) (names : List (Bor (List ℕ))) → list_any (λ y. bytes_eq y.now name) names ≡ is_asked (texts names) name
any_texts name [] = refl
any_texts name (b ∷ bs) = ap (λ r. bytes_eq b.now name || r) (any_texts name bs)

-- ---- how many members there are

abbrev name_put : List ℕ → List (List ℕ) → List (List ℕ)
name_put k [] = k ∷ []
name_put k (l ∷ ls) = match_ordering (slice_cmp nat_cmp k l) (k ∷ l ∷ ls) (l ∷ ls) (l ∷ name_put k ls)

names_put : (k : List ℕ) (d : Data) (ms : Members) → names_of (put k d ms) ≡ name_put k (names_of ms)
names_put k d no_members = refl
names_put k d (member l e ms) = by (slice_cmp nat_cmp k l) (names_put k d ms)
  where
    by : (o : Ordering) → names_of (put k d ms) ≡ name_put k (names_of ms)
        → names_of (match_ordering o (member k d (member l e ms)) (member l d ms) (member l e (put k d ms)))
        ≡ match_ordering o (k ∷ l ∷ names_of ms) (l ∷ names_of ms) (l ∷ name_put k (names_of ms))
    by Less again = refl
    by Equal again = refl
    by Greater again = ap (λ ns. l ∷ ns) again

put_grows : (k : List ℕ) (ls : List (List ℕ)) → length ls ≤ length (name_put k ls)
put_grows k [] = omega arith
put_grows k (l ∷ ls) = by (slice_cmp nat_cmp k l) (put_grows k ls)
  where
    by : (o : Ordering) → length ls ≤ length (name_put k ls) → length (l ∷ ls) ≤ length (match_ordering o (k ∷ l ∷ ls) (l ∷ ls) (l ∷ name_put k ls))
    by Less again = omega arith
    by Equal again = omega arith
    by Greater again = omega (arith, again)

pub names_len : (es : List (String Global × Value)) → length (names_of (members_view es)) ≡ length es
names_len [] = refl
names_len (e ∷ es) = let more = names_len es in omega (arith, more)

two_put : (k : List ℕ) (d : Data) (ms : Members) → 2 ≤ length (names_of ms) → 2 ≤ length (names_of (put k d ms))
two_put k d ms h = rw (names_put k d ms) (omega (arith, h, put_grows k (names_of ms)))

-- the names are the same, or there are two at least in both
abbrev pub HaveCount : Members → Members → Type 0
HaveCount ms found = (names_of found ≡ names_of ms) ⊎ ((2 ≤ length (names_of found)) × (2 ≤ length (names_of ms)))

count_both : (k : List ℕ) (d v : Data) (ms found : Members) → HaveCount ms found → HaveCount (put k d ms) (put k v found)
count_both k d v ms found (inl same) = inl (names_put k v found ∙ ap (name_put k) same ∙ sym (names_put k d ms))
count_both k d v ms found (inr both) = inr (two_put k v found both.0, two_put k d ms both.1)

count_over : (k : List ℕ) (d : Data) (ms found : Members) → 2 ≤ length (names_of found) → HaveCount ms found → HaveCount (put k d ms) found
count_over k d ms found two (inl same) = inr (two, two_put k d ms (subst (λ ns. 2 ≤ length ns) same two))
count_over k d ms found two (inr both) = inr (two, two_put k d ms both.1)

not_one : (n : ℕ) → 2 ≤ n → (n == 1) ≡ false
not_one n h = grind (arith, h)

count_single : (ms found : Members) → HaveCount ms found → is_single found ≡ is_single ms
count_single ms found (inl same) = ap (λ ns. length ns == 1) same
count_single ms found (inr both) = not_one (length (names_of found)) both.0 ∙ sym (not_one (length (names_of ms)) both.1)

-- ---- which members there are

module _ (R : Data → Data → Type 0) where
  same_at : (a b c e : Option Data) → a ≡ c → b ≡ e → SameOptions R c e → SameOptions R a b
  same_at a b c e p q h = rw (p, q) h

  same_put : (q k : List ℕ) (d v : Data) (ms found : Members) → R d v → SameOptions R (get_member q ms) (get_member q found)
      → SameOptions R (get_member q (put k d ms)) (get_member q (put k v found))
  same_put q k d v ms found own same = by (bytes_eq q k) refl
    where
      by : (b : Bool) → bytes_eq q k ≡ b → SameOptions R (get_member q (put k d ms)) (get_member q (put k v found))
      by true e =
          let here : q ≡ k = (bytes_eq-Decides q k).0 e in
          same_at _ _ (Some d) (Some v) (ap (λ m. get_member m (put k d ms)) here ∙ get_member-put k d ms) (ap (λ m. get_member m (put k v found)) here ∙ get_member-put k v found) own
      by false e =
          let other = other_name q k e in
          same_at _ _ (get_member q ms) (get_member q found) (get_member-put_other q k d ms other) (get_member-put_other q k v found other) same

  pub same_beside : (q k : List ℕ) (d : Data) (ms found new : Members) → (q ≡ k → ⊥) → get_member q new ≡ get_member q found → SameOptions R (get_member q ms) (get_member q found)
      → SameOptions R (get_member q (put k d ms)) (get_member q new)
  same_beside q k d ms found new other kept same = same_at _ _ (get_member q ms) (get_member q found) (get_member-put_other q k d ms other) kept same

-- ---- what is like what was read

module _ (R : Members → Members → Type 0) where
  pub like_plain : (d v : Data) → as_object d ≡ None → v ≡ d → IsLike R d v
  like_plain d v none same = record { none = ap as_null same; text = ap as_str same; number = ap as_number same; object = rw (ap as_object same ∙ none, none) tt }

  pub like_array : (ds es : Items) (v : Data) → v ≡ array es → IsLike R (array ds) v
  like_array ds es v is = record { none = ap as_null is; text = ap as_str is; number = ap as_number is; object = rw (ap as_object is) tt }

  pub like_object : (ms found : Members) (v : Data) → v ≡ object found → R ms found → IsLike R (object ms) v
  like_object ms found v is related = record { none = ap as_null is; text = ap as_str is; number = ap as_number is; object = rw (ap as_object is) related }

-- ---- one member after another

module _ (names : List (List ℕ)) (n : ℕ) where
  unasked : (q k : List ℕ) → is_asked names q ≡ true → is_asked names k ≡ false → (q ≡ k → ⊥)
  unasked q k asked not_asked same = true≢false (sym asked ∙ ap (is_asked names) same ∙ not_asked)

  same_taken : (q k : List ℕ) (d : Data) (ms found new : Members) → is_asked names q ≡ true → IsTaken names n k d found new
      → SameOptions (λ d v. IsAskedOf names n d v) (get_member q ms) (get_member q found)
      → SameOptions (λ d v. IsAskedOf names n d v) (get_member q (put k d ms)) (get_member q new)
  same_taken q k d ms found new asked (IsTaken.asked v own like is_new) same =
      rw is_new (same_put (λ d v. IsAskedOf names n d v) q k d v ms found like same)
  same_taken q k d ms found new asked (IsTaken.counted not_asked few is_new) same =
      let other = unasked q k asked not_asked in
      same_beside (λ d v. IsAskedOf names n d v) q k d ms found new other (ap (get_member q) is_new ∙ get_member-put_other q k null found other) same
  same_taken q k d ms found new asked (IsTaken.passed not_asked many is_new) same =
      same_beside (λ d v. IsAskedOf names n d v) q k d ms found new (unasked q k asked not_asked) (ap (get_member q) is_new) same

  count_taken : (k : List ℕ) (d : Data) (ms found new : Members) → IsTaken names n k d found new → HaveCount ms found → HaveCount (put k d ms) new
  count_taken k d ms found new (IsTaken.asked v own like is_new) is = subst (λ m. HaveCount (put k d ms) m) (sym is_new) (count_both k d v ms found is)
  count_taken k d ms found new (IsTaken.counted not_asked few is_new) is = subst (λ m. HaveCount (put k d ms) m) (sym is_new) (count_both k d null ms found is)
  count_taken k d ms found new (IsTaken.passed not_asked many is_new) is = subst (λ m. HaveCount (put k d ms) m) (sym is_new) (count_over k d ms found many is)

  few_or_two : (a : ℕ) → (a < 2) ⊎ (2 ≤ a)
  few_or_two zero = inl (omega arith)
  few_or_two (suc zero) = inl (omega arith)
  few_or_two (suc (suc a)) = inr (omega arith)

  -- a member that is passed over, of which the name is kept where there are few
  pub taken_over : (k : List ℕ) (d : Data) (old new : Members) → is_asked names k ≡ false → (length (names_of old) < 2 → new ≡ put k null old) → (2 ≤ length (names_of old) → new ≡ old)
      → IsTaken names n k d old new
  taken_over k d old new not_asked few many = by (few_or_two (length (names_of old)))
    where
      by : (length (names_of old) < 2) ⊎ (2 ≤ length (names_of old)) → IsTaken names n k d old new
      by (inl h) = IsTaken.counted not_asked h (few h)
      by (inr h) = IsTaken.passed not_asked h (many h)

  module _ (p : Parse Json) (start : List Token) where
    -- what was read so far, and what was taken of it
    pub record AreAskedSoFar (now : List Token) (found : Members) : Type 0 where
      pub turns : ℕ
      pub enough : length now ≤ turns
      pub shorter : length now ≤ length start
      pub ms : Members
      pub text : converted (λ js. of_members js no_members) (members p (length start) start) ≡ converted (λ js. of_members js ms) (members p turns now)
      pub same : (name : List ℕ) → is_asked names name ≡ true → SameOptions (λ d v. IsAskedOf names n d v) (get_member name ms) (get_member name found)
      pub count : HaveCount ms found

    pub ask_begin : (found : Members) → found ≡ no_members → AreAskedSoFar start found
    ask_begin found none = record {
      turns = length start;
      enough = omega arith;
      shorter = omega arith;
      ms = no_members;
      text = refl;
      same = λ q asked. rw none tt;
      count = inl (ap names_of none);
    }

    pub ask_one : (now s r : List Token) (found new : Members) (k : List ℕ) (d : Data) → read_key now ≡ Some (Some k, s) → length s < length now
        → converted of_json (p s) ≡ Some (d, r) → length r < length s → IsTaken names n k d found new → AreAskedSoFar now found → AreAskedSoFar r new
    ask_one now s r found new k d key less read lesser taken is = record {
      turns = is.turns - 1;
      enough = omega (arith, is.enough, less, lesser);
      shorter = omega (arith, is.shorter, less, lesser);
      ms = put k d is.ms;
      text = is.text ∙ member_read p is.ms is.turns k now s r d (omega (arith, is.enough, less)) key read;
      same = λ q asked. same_taken q k d is.ms found new asked taken (is.same q asked);
      count = count_taken k d is.ms found new taken is.count;
    }

    -- the members that were read
    pub ask_end : (now r : List Token) (found : Members) (levels : ℕ) → levels ≡ suc n → read_key now ≡ Some (None, r) → AreAskedSoFar now found
        → (all : Members) × (converted (λ js. of_members js no_members) (members p (length start) start) ≡ Some (all, r)) × AreAskedOf names levels all found
    ask_end now r found levels one over is = (
      is.ms,
      is.text ∙ members_over p is.ms is.turns now r is.enough over,
      subst (λ k. AreAskedOf names k is.ms found) (sym one) (record { same = is.same; single = count_single is.ms found is.count }),
    )

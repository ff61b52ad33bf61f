-- What is asked for and three maps are read of a text's members in one pass.
use Rattle.std.specs.Prelude.{ℕ, suc, ◌≡◌, ◌<◌, ◌≤◌, List, length, true, false, Option, Some, None, Result, Ok, Bool, refl}
use Rattle.std.specs.Str.{bytes_eq}
use Rattle.std.proofs.Common.{sym, ap, ◌∙◌, subst}
use Rattle.std.proofs.lemmas.Slice.Eq.{bytes_eq-Decides}
use Rattle.json.specs.Token.{Token}
use Rattle.json.specs.Json.{Json, Parse, members, read_key}
use Rattle.serde_json.specs.Data.{Data, Members, no_members, null, put}
use Rattle.serde_json.specs.Find.{get_member}
use Rattle.serde_json.specs.Read.{converted, of_json, of_members}
use Rattle.warg_crypto.specs.declared.json.error.JsonError.{JsonError}
use Rattle.warg_crypto.specs.Json.Pairs.{names_of}
use Rattle.warg_saved_states.specs.Asked.{AreAskedOf, IsTaken, is_asked}
use Rattle.warg_saved_states.specs.Parts.{AreApart}
use Rattle.warg_saved_states.proofs.AskedMembers.{AreAskedSoFar, ask_begin, ask_end, ask_one, taken_over}
use Rattle.warg_saved_states.proofs.OneMember.{IsMemberSoFar, member_end, member_other, member_own}

-- a name that is another's is no third's
same_other : (k a b : List ℕ) → bytes_eq k a ≡ true → bytes_eq a b ≡ false → bytes_eq k b ≡ false
same_other k a b own other = ap (λ n. bytes_eq n b) ((bytes_eq-Decides k a).0 own) ∙ other

flipped : (a b : List ℕ) → bytes_eq a b ≡ false → bytes_eq b a ≡ false
flipped a b other = by (bytes_eq b a) refl
  where
    by : (r : Bool) → bytes_eq b a ≡ r → bytes_eq b a ≡ false
    by false is = is
    by true is = ap (bytes_eq b) (sym ((bytes_eq-Decides b a).0 is)) ∙ (sym (ap (λ n. bytes_eq n b) (sym ((bytes_eq-Decides b a).0 is))) ∙ other)

-- members that were read of one text are the same
same_members : (o : Option (Members × List Token)) (a b : Members) (r : List Token) → o ≡ Some (a, r) → o ≡ Some (b, r) → a ≡ b
same_members o a b r p q = ap those (sym p ∙ q)
  where
    those : Option (Members × List Token) → Members
    those None = no_members
    those (Some read) = read.0

module _ {X Y : Type 0} (view : X → Y) (reads : Option Data → Result Y JsonError) (name : List ℕ) (p : Parse Json) (start : List Token) where
  -- the map of the members that were read, whichever they are
  pub map_read : (now r : List Token) (m : X) (all : Members) → read_key now ≡ Some (None, r)
      → converted (λ js. of_members js no_members) (members p (length start) start) ≡ Some (all, r)
      → IsMemberSoFar view reads name p start now (Ok m) → reads (get_member name all) ≡ Ok (view m)
  map_read now r m all over text is =
      let e = member_end view reads name p start now r (Ok m) over is in
      subst (λ ms. reads (get_member name ms) ≡ Ok (view m)) (same_members _ e.0 all r e.2 text) e.3

module _ {X Y X' Y' X'' Y'' : Type 0} (v : X → Y) (f : Option Data → Result Y JsonError) (v' : X' → Y') (f' : Option Data → Result Y' JsonError) (v'' : X'' → Y'') (f'' : Option Data → Result Y'' JsonError)
    (names : List (List ℕ)) (n : ℕ) (a b c : List ℕ) (p : Parse Json) (start : List Token) where
  -- what was read so far: what is asked for, and the three maps
  pub record ArePartsSoFar (now : List Token) (found : Members) (m : X) (m' : X') (m'' : X'') : Type 0 where
    pub asked : AreAskedSoFar names n p start now found
    pub first : IsMemberSoFar v f a p start now (Ok m)
    pub second : IsMemberSoFar v' f' b p start now (Ok m')
    pub third : IsMemberSoFar v'' f'' c p start now (Ok m'')

  module _ (apart : AreApart names a b c) (now s r : List Token) (old new : Members) (k : List ℕ) (d : Data) (key : read_key now ≡ Some (Some k, s)) (less : length s < length now)
      (read : converted of_json (p s) ≡ Some (d, r)) (lesser : length r < length s) where
    counted : (q : List ℕ) → bytes_eq k q ≡ true → is_asked names q ≡ false → (length (names_of old) < 2 → new ≡ put k null old) → (2 ≤ length (names_of old) → new ≡ old)
        → AreAskedSoFar names n p start now old → AreAskedSoFar names n p start r new
    counted q own other few many is =
        ask_one names n p start now s r old new k d key less read lesser
        (taken_over names n k d old new (ap (is_asked names) ((bytes_eq-Decides k q).0 own) ∙ other) few many) is

    -- the member of the first map, of the second, and of the third
    pub parts_first : (m m1 : X) (m' : X') (m'' : X'') → bytes_eq k a ≡ true → (length (names_of old) < 2 → new ≡ put k null old) → (2 ≤ length (names_of old) → new ≡ old)
        → f (Some d) ≡ Ok (v m1) → ArePartsSoFar now old m m' m'' → ArePartsSoFar r new m1 m' m''
    parts_first m m1 m' m'' own few many is_map is = record {
      asked = counted a own apart.first_other few many is.asked;
      first = member_own v f a p start now s r (Ok m) (Ok m1) k d own key less read lesser is_map is.first;
      second = member_other v' f' b p start now s r (Ok m') k d (same_other k a b own apart.first_second) key less read lesser is.second;
      third = member_other v'' f'' c p start now s r (Ok m'') k d (same_other k a c own apart.first_third) key less read lesser is.third;
    }

    pub parts_second : (m : X) (m' m1 : X') (m'' : X'') → bytes_eq k b ≡ true → (length (names_of old) < 2 → new ≡ put k null old) → (2 ≤ length (names_of old) → new ≡ old)
        → f' (Some d) ≡ Ok (v' m1) → ArePartsSoFar now old m m' m'' → ArePartsSoFar r new m m1 m''
    parts_second m m' m1 m'' own few many is_map is = record {
      asked = counted b own apart.second_other few many is.asked;
      first = member_other v f a p start now s r (Ok m) k d (same_other k b a own (flipped a b apart.first_second)) key less read lesser is.first;
      second = member_own v' f' b p start now s r (Ok m') (Ok m1) k d own key less read lesser is_map is.second;
      third = member_other v'' f'' c p start now s r (Ok m'') k d (same_other k b c own apart.second_third) key less read lesser is.third;
    }

    pub parts_third : (m : X) (m' : X') (m'' m1 : X'') → bytes_eq k c ≡ true → (length (names_of old) < 2 → new ≡ put k null old) → (2 ≤ length (names_of old) → new ≡ old)
        → f'' (Some d) ≡ Ok (v'' m1) → ArePartsSoFar now old m m' m'' → ArePartsSoFar r new m m' m1
    parts_third m m' m'' m1 own few many is_map is = record {
      asked = counted c own apart.third_other few many is.asked;
      first = member_other v f a p start now s r (Ok m) k d (same_other k c a own (flipped a c apart.first_third)) key less read lesser is.first;
      second = member_other v' f' b p start now s r (Ok m') k d (same_other k c b own (flipped b c apart.second_third)) key less read lesser is.second;
      third = member_own v'' f'' c p start now s r (Ok m'') (Ok m1) k d own key less read lesser is_map is.third;
    }

    -- another member
    pub parts_other : (m : X) (m' : X') (m'' : X'') → bytes_eq k a ≡ false → bytes_eq k b ≡ false → bytes_eq k c ≡ false → IsTaken names n k d old new
        → ArePartsSoFar now old m m' m'' → ArePartsSoFar r new m m' m''
    parts_other m m' m'' not_a not_b not_c taken is = record {
      asked = ask_one names n p start now s r old new k d key less read lesser taken is.asked;
      first = member_other v f a p start now s r (Ok m) k d not_a key less read lesser is.first;
      second = member_other v' f' b p start now s r (Ok m') k d not_b key less read lesser is.second;
      third = member_other v'' f'' c p start now s r (Ok m'') k d not_c key less read lesser is.third;
    }

  -- all members were read
  pub parts_end : (now r : List Token) (found : Members) (m : X) (m' : X') (m'' : X'') → read_key now ≡ Some (None, r) → ArePartsSoFar now found m m' m''
      → (all : Members) × (converted (λ js. of_members js no_members) (members p (length start) start) ≡ Some (all, r)) × AreAskedOf names (suc n) all found
      × (f (get_member a all) ≡ Ok (v m)) × (f' (get_member b all) ≡ Ok (v' m')) × (f'' (get_member c all) ≡ Ok (v'' m''))
  parts_end now r found m m' m'' over is =
      let e = ask_end names n p start now r found (suc n) refl over is.asked in (
        e.0,
        e.1,
        e.2,
        map_read v f a p start now r m e.0 over e.1 is.first,
        map_read v' f' b p start now r m' e.0 over e.1 is.second,
        map_read v'' f'' c p start now r m'' e.0 over e.1 is.third,
      )

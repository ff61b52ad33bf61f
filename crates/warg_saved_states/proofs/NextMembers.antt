-- The members of a map are read of a text, each above those before it.
use Rattle.std.specs.Prelude.{ℕ, ◌≡◌, ◌-◌, ◌<◌, ◌≤◌, List, [], ◌∷◌, ◌++◌, length, map, Bool, true, false, Option, Some, Result, Ok, refl}
use Rattle.std.specs.declared.cmp.Ordering.TheVariants.{Less, Greater}
use Rattle.std.specs.Cmp.Lexicographic.{nat_list_eq_equiv, slice_cmp}
use Rattle.std.specs.List.{AllByRecursion}
use Rattle.std.specs.Ordering.{is_eq, is_lt, nat_cmp, ordering_reverse}
use Rattle.std.specs.Str.{bytes_eq}
use Rattle.std.proofs.Common.{sym, ap, ◌∙◌, subst, arith}
use Rattle.std.proofs.lemmas.Cmp.{nat_list_cmp_total}
use Rattle.std.proofs.lemmas.Map.Text.{is_eq-slice_cmp}
use Rattle.indexmap.specs.IndexMap.{insert_entry}
use Rattle.json.specs.Token.{Token}
use Rattle.json.specs.Json.{Json, Parse, members, read_key}
use Rattle.serde_json.specs.Data.{Data, Members, no_members, member, put}
use Rattle.serde_json.specs.Read.{converted, of_json, of_members}
use Rattle.warg_crypto.specs.declared.json.error.JsonError.{JsonError}
use Rattle.warg_crypto.specs.Json.Json.{json_result}
use Rattle.warg_crypto.specs.Json.Pairs.{names_of, pairs_of, plain_pairs}
use Rattle.warg_crypto.specs.Json.JsonLaws.{bind_ok, ok_same}
use Rattle.warg_saved_states.specs.Ascending.{ascends}
use Rattle.warg_saved_states.proofs.Reading.{keys_differ, map-last, new_last}
use Rattle.warg_saved_states.proofs.TextReading.{member_read}

-- each of the names is below this one
abbrev pub AreBelow : List (List ℕ) → List ℕ → Type 0
AreBelow names name = AllByRecursion (λ n. slice_cmp nat_cmp n name ≡ Less) names

below_later : (names : List (List ℕ)) (a b : List ℕ) → slice_cmp nat_cmp a b ≡ Less → AreBelow names a → AreBelow names b
below_later [] a b less h = tt
below_later (n ∷ ns) a b less h = (nat_list_cmp_total.trans n a b h.0 less, below_later ns a b less h.1)

below_last : (names : List (List ℕ)) (a b : List ℕ) → slice_cmp nat_cmp a b ≡ Less → AreBelow names b → AreBelow (names ++ a ∷ []) b
below_last [] a b less h = (less, tt)
below_last (n ∷ ns) a b less h = (h.0, below_last ns a b less h.1)

is_less : (a b : List ℕ) → ascends (Some a) b ≡ true → slice_cmp nat_cmp a b ≡ Less
is_less a b e = by _ refl e
  where
    by : (o : _) → slice_cmp nat_cmp a b ≡ o → is_lt o ≡ true → slice_cmp nat_cmp a b ≡ Less
    by Less is h = is
    by _ is h = absurd cc

-- a name that comes after the last one is above all of them
abbrev pub RiseTo : List (List ℕ) → Option (List ℕ) → Type 0
RiseTo names last = (name : List ℕ) → ascends last name ≡ true → AreBelow names name

pub rise_to_next : (names : List (List ℕ)) (last : Option (List ℕ)) (name : List ℕ) → ascends last name ≡ true → RiseTo names last → RiseTo (names ++ name ∷ []) (Some name)
rise_to_next names last name up rise later e =
    let less = is_less name later e in
    below_last names name later less (below_later names name later less (rise name up))

differ : (names : List (List ℕ)) (name : List ℕ) → AreBelow names name → AllByRecursion (λ n. bytes_eq name n ≡ false) names
differ [] name h = tt
differ (n ∷ ns) name h = (nat_list_eq_equiv.symm name n ∙ sym (is_eq-slice_cmp n name) ∙ ap is_eq h.0, differ ns name h.1)

above : (l k : List ℕ) → slice_cmp nat_cmp l k ≡ Less → slice_cmp nat_cmp k l ≡ Greater
above l k less = nat_list_cmp_total.antisymm k l ∙ ap ordering_reverse less

put_above : (k l : List ℕ) (d e : Data) (ms : Members) → slice_cmp nat_cmp l k ≡ Less → put k d (member l e ms) ≡ member l e (put k d ms)
put_above k l d e ms less = rw (above l k less)

pub names_put : (ms : Members) (k : List ℕ) (d : Data) → AreBelow (names_of ms) k → names_of (put k d ms) ≡ names_of ms ++ k ∷ []
names_put no_members k d h = refl
names_put (member l e ms) k d h = ap names_of (put_above k l d e ms h.0) ∙ ap (λ ns. l ∷ ns) (names_put ms k d h.1)

module _ {A B : Type 0} (named : List ℕ → Result A JsonError) (reads : Data → Result B JsonError) where
  one_first : (l : List ℕ) (e : Data) (ms : Members) (key : A) (x : B) (rest : List (A × B)) → named l ≡ Ok key → reads e ≡ Ok x → pairs_of named reads ms ≡ Ok rest
      → pairs_of named reads (member l e ms) ≡ Ok ((key, x) ∷ rest)
  one_first l e ms key x rest name value is = rw (name, value, is)

  pub pairs_put : (ms : Members) (k : List ℕ) (d : Data) (key : A) (x : B) (ps : List (A × B)) → AreBelow (names_of ms) k → named k ≡ Ok key → reads d ≡ Ok x
      → pairs_of named reads ms ≡ Ok ps → pairs_of named reads (put k d ms) ≡ Ok (ps ++ (key, x) ∷ [])
  pairs_put no_members k d key x ps h name value is =
      one_first k d no_members key x [] name value refl ∙ ap (λ (qs : List (A × B)). json_result (qs ++ (key, x) ∷ [])) (ok_same [] ps is)
  pairs_put (member l e ms) k d key x ps h name value is =
      let n = bind_ok (named l) _ ps is in
      let v = bind_ok (reads e) _ ps n.2 in
      let rest = bind_ok (pairs_of named reads ms) _ ps v.2 in
      let more = pairs_put ms k d key x rest.0 h.1 name value rest.1 in
      ap (pairs_of named reads) (put_above k l d e ms h.0)
      ∙ one_first l e (put k d ms) n.0 v.0 (rest.0 ++ (key, x) ∷ []) n.1 v.1 more
      ∙ ap (λ (qs : List (A × B)). json_result (qs ++ (key, x) ∷ [])) (ok_same ((n.0, v.0) ∷ rest.0) ps rest.2)

-- what was read of a text so far: the members, and the entries of them
pub record IsReadSoFar {K V A B : Type 0} (plain : K → A) (value : V → B) (name_of : A → List ℕ) (named : List ℕ → Result A JsonError) (reads : Data → Result B JsonError)
    (p : Parse Json) (start now : List Token) (last : Option (List ℕ)) (es : List (K × V)) : Type 0 where
  pub turns : ℕ
  pub enough : length now ≤ turns
  pub shorter : length now ≤ length start
  pub ms : Members
  pub text : converted (λ js. of_members js no_members) (members p (length start) start) ≡ converted (λ js. of_members js ms) (members p turns now)
  pub pairs : pairs_of named reads ms ≡ Ok (plain_pairs plain value es)
  pub names : map (λ e. name_of (plain e.0)) es ≡ names_of ms
  pub rise : RiseTo (names_of ms) last

module _ {K V A B : Type 0} (plain : K → A) (value : V → B) (name_of : A → List ℕ) (named : List ℕ → Result A JsonError) (reads : Data → Result B JsonError)
    (eq : K → K → Bool) (one_key : (a b : K) → eq a b ≡ true → plain a ≡ plain b) (back : (name : List ℕ) (k : A) → named name ≡ Ok k → name_of k ≡ name)
    (p : Parse Json) (start : List Token) where
  -- one more member is read, and its entry is put
  pub read_one_more : (now s r : List Token) (last : Option (List ℕ)) (es new : List (K × V)) (name : List ℕ) (d : Data) (k : K) (v : V)
      → ascends last name ≡ true → read_key now ≡ Some (Some name, s) → length s < length now → converted of_json (p s) ≡ Some (d, r) → length r < length s
      → named name ≡ Ok (plain k) → reads d ≡ Ok (value v) → new ≡ insert_entry eq es k v
      → IsReadSoFar plain value name_of named reads p start now last es
      → IsReadSoFar plain value name_of named reads p start r (Some name) new
  read_one_more now s r last es new name d k v up key less read lesser named_so value_so put_so is =
      let own : name_of (plain k) ≡ name = back name (plain k) named_so in
      let below : AreBelow (names_of is.ms) name = is.rise name up in
      let apart : AllByRecursion (λ m. bytes_eq (name_of (plain k)) m ≡ false) (map (λ e. name_of (plain e.0)) es)
      = subst (λ n. AllByRecursion (λ m. bytes_eq n m ≡ false) (map (λ e. name_of (plain e.0)) es)) (sym own)
      (subst (λ ns. AllByRecursion (λ m. bytes_eq name m ≡ false) ns) (sym is.names) (differ (names_of is.ms) name below)) in
      let ended : new ≡ es ++ (k, v) ∷ [] = put_so ∙ new_last eq es k v (keys_differ plain value name_of named reads eq one_key back es k apart) in
      record {
        turns = is.turns - 1;
        enough = omega (arith, is.enough, less, lesser);
        shorter = omega (arith, is.shorter, less, lesser);
        ms = put name d is.ms;
        text = is.text ∙ member_read p is.ms is.turns name now s r d (omega (arith, is.enough, less)) key read;
        pairs = pairs_put named reads is.ms name d (plain k) (value v) (plain_pairs plain value es) below named_so value_so is.pairs
            ∙ ap json_result (sym (ap (plain_pairs plain value) ended ∙ map-last (λ e. (plain e.0, value e.1)) es (k, v)));
        names = ap (map (λ e. name_of (plain e.0))) ended ∙ map-last (λ e. name_of (plain e.0)) es (k, v) ∙ ap (λ ns. ns ++ name_of (plain k) ∷ []) is.names
            ∙ ap (λ n. names_of is.ms ++ n ∷ []) own ∙ sym (names_put is.ms name d below);
        rise = subst (λ ns. RiseTo ns (Some name)) (sym (names_put is.ms name d below)) (rise_to_next (names_of is.ms) last name up is.rise);
      }

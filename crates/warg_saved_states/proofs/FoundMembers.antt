-- What was read of the members of a map stands by their names, and is gone through in their order.
use Rattle.std.specs.Prelude.{ℕ, ◌≡◌, ◌-◌, ◌<◌, ◌≤◌, ◌⊎◌, List, [], ◌∷◌, ◌++◌, length, map, Bool, true, Some, None, Result, Ok, Err, IfErr, IfOk, MatchResult, refl}
use Rattle.std.specs.Borrow.{Bor}
use Rattle.std.specs.declared.alloc.Global.{Global}
use Rattle.std.specs.declared.boxed.Box.{Box}
use Rattle.std.specs.declared.cmp.Ordering.{Ordering}
use Rattle.std.specs.declared.cmp.Ordering.TheVariants.{Less, Equal, Greater}
use Rattle.std.specs.BTreeMap.{insert_entry}
use Rattle.std.specs.Cmp.Lexicographic.{slice_cmp}
use Rattle.std.specs.List.{AllByRecursion}
use Rattle.std.specs.List.Sorted.{IsStrictlySortedBy}
use Rattle.std.specs.Map.{keys_of}
use Rattle.std.specs.Ordering.{nat_cmp, match_ordering}
use Rattle.std.proofs.Common.{inl, inr, sym, ap, ap₂, ◌∙◌, subst, arith, append-nil}
use Rattle.indexmap.specs.IndexMap.{insert_entry as put_entry}
use Rattle.json.specs.Token.{Token}
use Rattle.json.specs.Json.{Json, Parse, members, read_key}
use Rattle.json.proofs.Grammar.{read_key-shorter}
use Rattle.serde_json.specs.Data.{Data, Members, no_members, member, put}
use Rattle.serde_json.specs.Read.{converted, of_json, of_members}
use Rattle.warg_crypto.specs.declared.json.error.JsonError.{JsonError}
use Rattle.warg_crypto.specs.Json.Json.{◌>>=◌, Returns, json_result}
use Rattle.warg_crypto.specs.Json.Pairs.{AreAscending, names_of, pairs_of, plain_pairs}
use Rattle.warg_saved_states.specs.Found.{AreFound, unboxed}
use Rattle.warg_saved_states.specs.declared.error.ReadFault.{ReadFault}
use Rattle.warg_saved_states.specs.declared.error.ReadFault.TheVariants.{NotJson, OutOfMemory}
use Rattle.warg_saved_states.proofs.Reading.{IsReading, before, one_more}
use Rattle.warg_saved_states.proofs.TextReading.{key_refused, member_read, member_refused, members_over}

-- names in byte order
abbrev pub by_name : Bor (List ℕ) → Bor (List ℕ) → Ordering
by_name x y = slice_cmp nat_cmp x.now y.now

-- what was put into a place is what was read
pub boxed_read : {X A : Type 0} (plain : X → A) (x : Result (Box X Global) JsonError) (r : Result X JsonError) (want : Result A JsonError) → unboxed x ≡ r → Returns plain r want
    → Returns (λ b. plain b.value) x want
boxed_read plain (Ok b) r want is h = subst (λ t. Returns plain t want) (sym is) h
boxed_read plain (Err e) r want is h = subst (λ t. Returns plain t want) (sym is) h

no_memory : (e : ReadFault) → e ≡ OutOfMemory → e ≡ NotJson → ⊥
no_memory e is same = cc

-- all that was found is gone through, unless memory runs out
pub gone_through : {X : Type 0} (result : Result X ReadFault) (F T : Members → Type 0) (Q : X → Members → Type 0) (L N : Type 0) → (ms : Members) → L → T ms → F ms
    → IfOk result (λ r. (ms : Members) → F ms → Q r ms) → IfErr result (λ e. e ≡ OutOfMemory)
    → MatchResult result (λ r. (ms : Members) × L × T ms × Q r ms) (λ e. e ≡ NotJson → N)
gone_through (Ok r) F T Q L N ms less told found ok err = (ms, less, told, ok ms found)
gone_through (Err e) F T Q L N ms less told found ok err = λ same. absurd (no_memory e err same)

module _ {X A : Type 0} (plain : X → A) (reads : Data → Result A JsonError) where
  abbrev Entry : Type 0
  Entry = Bor (List ℕ) × Result X JsonError

  -- one more is found
  found_put : (es : List Entry) (ms : Members) (k : Bor (List ℕ)) (r : Result X JsonError) (d : Data) → Returns plain r (reads d) → AreFound plain reads es ms
      → AreFound plain reads (insert_entry by_name es k r) (put k.now d ms)
  found_put [] no_members k r d read h = (refl, read, tt)
  found_put [] (member l x ms) k r d read h = absurd h
  found_put (e ∷ es) no_members k r d read h = absurd h
  found_put (e ∷ es) (member l x ms) k r d read h =
      subst (λ o. AreFound plain reads (match_ordering o ((k, r) ∷ e ∷ es) ((e.0, r) ∷ es) (e ∷ insert_entry by_name es k r)) (put k.now d (member l x ms)))
      (ap (slice_cmp nat_cmp k.now) (sym h.0)) (both (slice_cmp nat_cmp k.now l) (found_put es ms k r d read h.2))
    where
      both : (o : Ordering) → AreFound plain reads (insert_entry by_name es k r) (put k.now d ms)
          → AreFound plain reads (match_ordering o ((k, r) ∷ e ∷ es) ((e.0, r) ∷ es) (e ∷ insert_entry by_name es k r))
          (match_ordering o (member k.now d (member l x ms)) (member l d ms) (member l x (put k.now d ms)))
      both Less again = (refl, read, h)
      both Equal again = (h.0, read, h.2)
      both Greater again = (h.0, h.1, again)

  above_found : (k : Bor (List ℕ)) (l : List ℕ) → k.now ≡ l → (es : List Entry) (ms : Members) → AllByRecursion (λ y. by_name k y ≡ Less) (keys_of es) → AreFound plain reads es ms
      → AllByRecursion (λ name. slice_cmp nat_cmp l name ≡ Less) (names_of ms)
  above_found k l own [] no_members s h = tt
  above_found k l own [] (member m x ms) s h = absurd h
  above_found k l own (e ∷ es) no_members s h = absurd h
  above_found k l own (e ∷ es) (member m x ms) s h = (sym (ap₂ (slice_cmp nat_cmp) own h.0) ∙ s.0, above_found k l own es ms s.1 h.2)

  -- the names of what was found ascend
  pub ascending_found : (es : List Entry) (ms : Members) → IsStrictlySortedBy by_name (keys_of es) → AreFound plain reads es ms → AreAscending (names_of ms)
  unfolding IsStrictlySortedBy
  ascending_found [] no_members s h = tt
  ascending_found [] (member m x ms) s h = absurd h
  ascending_found (e ∷ es) no_members s h = absurd h
  ascending_found (e ∷ es) (member m x ms) s h = (above_found e.0 m h.0 es ms s.0 h.2, ascending_found es ms s.1 h.2)

  module _ (p : Parse Json) (start : List Token) where
    -- what was read so far, by its names
    pub record AreFoundSoFar (now : List Token) (es : List Entry) : Type 0 where
      pub turns : ℕ
      pub enough : length now ≤ turns
      pub shorter : length now ≤ length start
      pub ms : Members
      pub text : converted (λ js. of_members js no_members) (members p (length start) start) ≡ converted (λ js. of_members js ms) (members p turns now)
      pub found : AreFound plain reads es ms

    pub find_begin : (es : List Entry) → es ≡ [] → AreFoundSoFar start es
    find_begin es none = record {
      turns = length start;
      enough = omega arith;
      shorter = omega arith;
      ms = no_members;
      text = refl;
      found = subst (λ fs. AreFound plain reads fs no_members) (sym none) tt;
    }

    pub find_one : (now s r : List Token) (es new : List Entry) (k : Bor (List ℕ)) (x : Result X JsonError) (d : Data) → read_key now ≡ Some (Some k.now, s) → length s < length now
        → converted of_json (p s) ≡ Some (d, r) → length r < length s → Returns plain x (reads d) → new ≡ insert_entry by_name es k x → AreFoundSoFar now es → AreFoundSoFar r new
    find_one now s r es new k x d key less read lesser is_read put_so is = record {
      turns = is.turns - 1;
      enough = omega (arith, is.enough, less, lesser);
      shorter = omega (arith, is.shorter, less, lesser);
      ms = put k.now d is.ms;
      text = is.text ∙ member_read p is.ms is.turns k.now now s r d (omega (arith, is.enough, less)) key read;
      found = subst (λ fs. AreFound plain reads fs (put k.now d is.ms)) (sym put_so) (found_put es is.ms k x d is_read is.found);
    }

    -- all members were read
    pub find_end : (now r : List Token) (es : List Entry) → read_key now ≡ Some (None, r) → AreFoundSoFar now es
        → (ms : Members) × (length r < length start) × (converted (λ js. of_members js no_members) (members p (length start) start) ≡ Some (ms, r)) × AreFound plain reads es ms
    find_end now r es over is = (
      is.ms,
      omega (arith, is.shorter, read_key-shorter now None r over),
      is.text ∙ members_over p is.ms is.turns now r is.enough over,
      is.found,
    )

    -- one has no name, or no value
    pub find_unnamed : (now : List Token) (es : List Entry) → read_key now ≡ None → AreFoundSoFar now es → converted (λ js. of_members js no_members) (members p (length start) start) ≡ None
    find_unnamed now es none is = is.text ∙ key_refused p is.ms is.turns now none

    pub find_unread : (now s : List Token) (es : List Entry) (k : List ℕ) → read_key now ≡ Some (Some k, s) → converted of_json (p s) ≡ None → AreFoundSoFar now es
        → converted (λ js. of_members js no_members) (members p (length start) start) ≡ None
    find_unread now s es k key none is = is.text ∙ member_refused p is.ms is.turns k now s key none

module _ {K V X A B : Type 0} (plain : K → A) (value : V → B) (open_box : X → V) (name_of : A → List ℕ) (named : List ℕ → Result A JsonError) (reads : Data → Result B JsonError) where
  abbrev Found : List (Bor (List ℕ) × Result X JsonError) → Members → Type 0
  Found es ms = AreFound (λ b. value (open_box b)) reads es ms

  abbrev Reading : List (K × V) → Members → Members → Type 0
  Reading es rest ms = IsReading plain value name_of named reads es rest ms

  -- what is left of what was found, whatever members they are
  pub record IsLeft (left : List (Bor (List ℕ) × Result X JsonError)) (es : List (K × V)) (ms : Members) : Type 0 where
    pub rest : Members
    pub found : Found left rest
    pub reading : Reading es rest ms

  before_none : (r : Result (List (A × B)) JsonError) → before [] r ≡ r
  before_none (Ok more) = refl
  before_none (Err e) = refl

  pub left_begin : (es : List (K × V)) (left : List (Bor (List ℕ) × Result X JsonError)) (ms : Members) → es ≡ [] → Found left ms → IsLeft left es ms
  left_begin es left ms none found = record {
    rest = ms;
    found = found;
    reading = subst (λ fs. Reading fs ms ms) (sym none) (record { read = before_none (pairs_of named reads ms); names = refl });
  }

  nothing_left : (rest : Members) → Found [] rest → (es : List (K × V)) (ms : Members) → Reading es rest ms → pairs_of named reads ms ≡ Ok (plain_pairs plain value es)
  nothing_left no_members h es ms is = sym is.read ∙ ap json_result (append-nil (plain_pairs plain value es))
  nothing_left (member l d more) h es ms is = absurd h

  -- all was gone through
  pub left_end : (es : List (K × V)) (ms : Members) → IsLeft [] es ms → pairs_of named reads ms ≡ Ok (plain_pairs plain value es)
  left_end es ms is = nothing_left is.rest is.found es ms is.reading

  bad_key : (k : Bor (List ℕ)) (r : Result X JsonError) (left : List (Bor (List ℕ) × Result X JsonError)) (rest : Members) → Found ((k, r) ∷ left) rest → (es : List (K × V)) (ms : Members)
      → Reading es rest ms → (e : JsonError) → named k.now ≡ Err e → pairs_of named reads ms ≡ Err e
  bad_key k r left no_members h es ms is e bad = absurd h
  bad_key k r left (member l d more) h es ms is e bad =
      let wrong : pairs_of named reads (member l d more) ≡ Err e = ap (λ t. t >>= λ key. reads d >>= λ x. pairs_of named reads more >>= λ rest. json_result ((key, x) ∷ rest)) (ap named (sym h.0) ∙ bad) in
      sym is.read ∙ ap (before (plain_pairs plain value es)) wrong

  -- a name is no key
  pub left_bad_key : (k : Bor (List ℕ)) (r : Result X JsonError) (left : List (Bor (List ℕ) × Result X JsonError)) (es : List (K × V)) (ms : Members) (e : JsonError) → named k.now ≡ Err e
      → IsLeft ((k, r) ∷ left) es ms → pairs_of named reads ms ≡ Err e
  left_bad_key k r left es ms e bad is = bad_key k r left is.rest is.found es ms is.reading e bad

  bad_value : (k : Bor (List ℕ)) (key : A) (left : List (Bor (List ℕ) × Result X JsonError)) (rest : Members) (e : JsonError) → Found ((k, Err e) ∷ left) rest → (es : List (K × V)) (ms : Members)
      → Reading es rest ms → named k.now ≡ Ok key → pairs_of named reads ms ≡ Err e
  bad_value k key left no_members e h es ms is good = absurd h
  bad_value k key left (member l d more) e h es ms is good =
      let wrong : pairs_of named reads (member l d more) ≡ Err e = rw (ap named (sym h.0) ∙ good, h.1) refl in
      sym is.read ∙ ap (before (plain_pairs plain value es)) wrong

  -- a value has a fault
  pub left_bad_value : (k : Bor (List ℕ)) (key : A) (left : List (Bor (List ℕ) × Result X JsonError)) (es : List (K × V)) (ms : Members) (e : JsonError) → named k.now ≡ Ok key
      → IsLeft ((k, Err e) ∷ left) es ms → pairs_of named reads ms ≡ Err e
  left_bad_value k key left es ms e good is = bad_value k key left is.rest e is.found es ms is.reading good

  module _ (eq : K → K → Bool) (one_key : (a b : K) → eq a b ≡ true → plain a ≡ plain b) (back : (name : List ℕ) (k : A) → named name ≡ Ok k → name_of k ≡ name) where
    next_left : (k : Bor (List ℕ)) (key : K) (x : X) (left : List (Bor (List ℕ) × Result X JsonError)) (rest : Members) → Found ((k, Ok x) ∷ left) rest → (es new : List (K × V)) (ms : Members)
        → AreAscending (names_of ms) → named k.now ≡ Ok (plain key) → new ≡ put_entry eq es key (open_box x) → Reading es rest ms → IsLeft left new ms
    next_left k key x left no_members h es new ms ascend good put_so is = absurd h
    next_left k key x left (member l d more) h es new ms ascend good put_so is = record {
      rest = more;
      found = h.2;
      reading = one_more plain value name_of named reads eq one_key back es new key (open_box x) l d more ms ascend (ap named (sym h.0) ∙ good) h.1 put_so is;
    }

    -- an entry is put
    pub left_next : (k : Bor (List ℕ)) (key : K) (x : X) (left : List (Bor (List ℕ) × Result X JsonError)) (es new : List (K × V)) (ms : Members) → AreAscending (names_of ms)
        → named k.now ≡ Ok (plain key) → new ≡ put_entry eq es key (open_box x) → IsLeft ((k, Ok x) ∷ left) es ms → IsLeft left new ms
    left_next k key x left es new ms ascend good put_so is = next_left k key x left is.rest is.found es new ms ascend good put_so is.reading

-- the same of what was put into a place
module _ {K V A B : Type 0} (plain : K → A) (value : V → B) (name_of : A → List ℕ) (named : List ℕ → Result A JsonError) (reads : Data → Result B JsonError) where
  abbrev Held : Type 0
  Held = Result (Box V Global) JsonError

  abbrev Left : List (Bor (List ℕ) × Held) → List (K × V) → Members → Type 0
  Left left es ms = IsLeft plain value (λ b. b.value) name_of named reads left es ms

  same_value : (x y : V) → ◌≡◌ {A = Result V JsonError} (Ok x) (Ok y) → x ≡ y
  same_value x y e = cc

  same_fault : (e f : JsonError) → ◌≡◌ {A = Result V JsonError} (Err e) (Err f) → e ≡ f
  same_fault e f h = cc

  -- an entry is put
  pub left_put : (eq : K → K → Bool) (one_key : (a b : K) → eq a b ≡ true → plain a ≡ plain b) (back : (name : List ℕ) (k : A) → named name ≡ Ok k → name_of k ≡ name)
      → (k : Bor (List ℕ)) (found : Result K JsonError) (r : Held) (key : K) (v : V) (left : List (Bor (List ℕ) × Held)) (es new : List (K × V)) (ms : Members) → AreAscending (names_of ms)
      → Returns plain found (named k.now) → found ≡ Ok key → unboxed r ≡ Ok v → new ≡ put_entry eq es key v → Left ((k, r) ∷ left) es ms → Left left new ms
  left_put eq one_key back k found (Ok b) key v left es new ms ascend good is_key is_value put_so is =
      left_next plain value (λ b. b.value) name_of named reads eq one_key back k key b left es new ms ascend
      (subst (λ f. Returns plain f (named k.now)) is_key good) (put_so ∙ ap (put_entry eq es key) (sym (same_value b.value v is_value))) is
  left_put eq one_key back k found (Err e) key v left es new ms ascend good is_key is_value put_so is = absurd cc

  -- the name or the value has a fault
  pub left_fault : (k : Bor (List ℕ)) (found : Result K JsonError) (r : Held) (e : JsonError) (left : List (Bor (List ℕ) × Held)) (es : List (K × V)) (ms : Members)
      → Returns plain found (named k.now) → (found ≡ Err e) ⊎ ((key : K) × (found ≡ Ok key) × (unboxed r ≡ Err e)) → Left ((k, r) ∷ left) es ms → pairs_of named reads ms ≡ Err e
  left_fault k found r e left es ms read (inl bad) is =
      left_bad_key plain value (λ b. b.value) name_of named reads k r left es ms e (subst (λ f. Returns plain f (named k.now)) bad read) is
  left_fault k found (Ok b) e left es ms read (inr h) is = absurd (not_both b.value e h.2)
    where
      not_both : (x : V) (e : JsonError) → ◌≡◌ {A = Result V JsonError} (Ok x) (Err e) → ⊥
      not_both x e h = cc
  left_fault k found (Err f) e left es ms read (inr h) is =
      left_bad_value plain value (λ b. b.value) name_of named reads k (plain h.0) left es ms e (subst (λ g. Returns plain g (named k.now)) h.1 read)
      (subst (λ g. Left ((k, Err g) ∷ left) es ms) (same_fault f e h.2) is)

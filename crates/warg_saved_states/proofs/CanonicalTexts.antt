-- The text of canonical JSON reads back.
use Rattle.std.proofs.Common.{◌≡◌, ℕ, zero, suc, ◌≤◌, List, [], ◌++◌, Some, refl, sym, ap, ◌∙◌, subst, arith, append-nil}
use Rattle.std.specs.Prelude.{option_map, option_and_then, IfOk, OnOk, Result, Ok, Err}
use Rattle.std.specs.declared.cmp.Ordering.TheVariants.{Less, Greater}
use Rattle.std.specs.Cmp.Lexicographic.{slice_cmp}
use Rattle.std.specs.List.{AllByRecursion}
use Rattle.std.specs.List.Sorted.{IsStrictlySortedBy}
use Rattle.std.specs.Ordering.{nat_cmp, match_ordering, ordering_reverse}
use Rattle.std.proofs.lemmas.Cmp.{nat_list_cmp_total}
use Rattle.json.specs.Json as json
use Rattle.json.specs.Lex.{tokens}
use Rattle.json.specs.Tree as tree
use Rattle.json.proofs.Printed.Decimals.{IsNumber-decimal}
use Rattle.json.proofs.Printed.Tokens.{tokens-print}
use Rattle.json.proofs.Printed.Trees.{ArePrintable-json_tokens, value-json_tokens}
use Rattle.serde_json.specs.Data.{unsigned, negative, float, Data, null, boolean, number, string, array, object, Items, no_items, item, Members, no_members, member, put}
use Rattle.serde_json.specs.Read.{max_depth, of_items, of_json, of_members, read}
use Rattle.serde_json.specs.Written.{compact_text, items_outline, members_outline, outline}
use Rattle.serde_json.proofs.Numbers.{number_of-decimal}
use Rattle.serde_json.proofs.Texts.{print-outline}
use Rattle.warg_crypto.specs.Json.Json.{ReturnsOrNoMemory, ReadsBack}
use Rattle.warg_crypto.specs.Json.Pairs.{AreAscending, names_of}
use Rattle.warg_crypto.specs.Json.JsonLaws.{ok_same}
use Rattle.warg_crypto.specs.declared.json.error.JsonError.{JsonError}
use Rattle.warg_saved_states.specs.Canonical.{AreCanonical, AreCanonicalIn, IsCanonical, WritesCanonical}
use Rattle.warg_saved_states.specs.JsonText.{TextReadsBack}
use Rattle.warg_saved_states.specs.JsonTextLaws.{of_json_text}
use Rattle.warg_saved_states.specs.Texts.{IsReadAs, text_of}

-- ---- its numbers are printed as numbers

mutual
  numbers : (n : ℕ) (d : Data) → IsCanonical n d → tree.HasNumbers (outline d)
  numbers n null h = tt
  numbers n (boolean b) h = tt
  numbers n (number (unsigned x)) h = IsNumber-decimal x h
  numbers n (number (negative z)) h = absurd h
  numbers n (number (float x)) h = absurd h
  numbers n (string s) h = tt
  numbers zero (array ds) h = absurd h
  numbers (suc n) (array ds) h = items_numbers n ds h
  numbers zero (object ms) h = absurd h
  numbers (suc n) (object ms) h = members_numbers n ms h.0

  items_numbers : (n : ℕ) (ds : Items) → AreCanonical n ds → tree.ItemsHaveNumbers (items_outline ds)
  items_numbers n no_items h = tt
  items_numbers n (item d ds) h = (numbers n d h.0, items_numbers n ds h.1)

  members_numbers : (n : ℕ) (ms : Members) → AreCanonicalIn n ms → tree.MembersHaveNumbers (members_outline ms)
  members_numbers n no_members h = tt
  members_numbers n (member name d ms) h = (numbers n d h.0, members_numbers n ms h.1)

-- ---- it is no deeper

mutual
  shallow : (n : ℕ) (d : Data) → IsCanonical n d → tree.depth (outline d) ≤ n
  shallow n null h = omega arith
  shallow n (boolean b) h = omega arith
  shallow n (number x) h = omega arith
  shallow n (string s) h = omega arith
  shallow zero (array ds) h = absurd h
  shallow (suc n) (array ds) h = omega (arith, items_shallow n ds h)
  shallow zero (object ms) h = absurd h
  shallow (suc n) (object ms) h = omega (arith, members_shallow n ms h.0)

  items_shallow : (n : ℕ) (ds : Items) → AreCanonical n ds → tree.items_depth (items_outline ds) ≤ n
  items_shallow n no_items h = omega arith
  items_shallow n (item d ds) h = omega (arith, shallow n d h.0, items_shallow n ds h.1)

  members_shallow : (n : ℕ) (ms : Members) → AreCanonicalIn n ms → tree.members_depth (members_outline ms) ≤ n
  members_shallow n no_members h = omega arith
  members_shallow n (member name d ms) h = omega (arith, shallow n d h.0, members_shallow n ms h.1)

-- ---- its outline reads as it

-- the members, and then those
abbrev followed : Members → Members → Members
followed no_members more = more
followed (member name d ms) more = member name d (followed ms more)

followed_nil : (ms : Members) → followed ms no_members ≡ ms
followed_nil no_members = refl
followed_nil (member name d ms) = ap (member name d) (followed_nil ms)

followed_all : (a b c : Members) → followed (followed a b) c ≡ followed a (followed b c)
followed_all no_members b c = refl
followed_all (member name d ms) b c = ap (member name d) (followed_all ms b c)

-- a name after all of them
each_below : (l k : List ℕ) (found : Members) (d : Data) (more : Members)
    → AllByRecursion (λ y. slice_cmp nat_cmp l y ≡ Less) (names_of (followed found (member k d more))) → slice_cmp nat_cmp l k ≡ Less
each_below l k no_members d more h = h.0
each_below l k (member name e found) d more h = each_below l k found d more h.1

put_last : (found : Members) (k : List ℕ) (d : Data) (more : Members) → AreAscending (names_of (followed found (member k d more)))
    → put k d found ≡ followed found (member k d no_members)
unfolding IsStrictlySortedBy
put_last no_members k d more h = refl
put_last (member l e found) k d more h =
    let behind : slice_cmp nat_cmp k l ≡ Greater = nat_list_cmp_total.antisymm k l ∙ ap ordering_reverse (each_below l k found d more h.0) in
    ap (λ o. match_ordering o (member k d (member l e found)) (member l d found) (member l e (put k d found))) behind
    ∙ ap (member l e) (put_last found k d more h.1)

mutual
  reads : (n : ℕ) (d : Data) → IsCanonical n d → of_json (outline d) ≡ Some d
  reads n null h = refl
  reads n (boolean b) h = refl
  reads n (number (unsigned x)) h = ap (option_map number) (number_of-decimal x h)
  reads n (number (negative z)) h = absurd h
  reads n (number (float x)) h = absurd h
  reads n (string s) h = refl
  reads zero (array ds) h = absurd h
  reads (suc n) (array ds) h = ap (option_map array) (items_read n ds h)
  reads zero (object ms) h = absurd h
  reads (suc n) (object ms) h = ap (option_map object) (members_read n no_members ms h.1 h.0)

  items_read : (n : ℕ) (ds : Items) → AreCanonical n ds → of_items (items_outline ds) ≡ Some ds
  items_read n no_items h = refl
  items_read n (item d ds) h = rw (reads n d h.0, items_read n ds h.1) refl

  members_read : (n : ℕ) (found ms : Members) → AreAscending (names_of (followed found ms)) → AreCanonicalIn n ms
      → of_members (members_outline ms) found ≡ Some (followed found ms)
  members_read n found no_members rising h = ap Some (sym (followed_nil found))
  members_read n found (member k d ms) rising h =
      let one = followed_all found (member k d no_members) ms in
      let next = followed found (member k d no_members) in
      ap (option_and_then (λ e. of_members (members_outline ms) (put k e found))) (reads n d h.0)
      ∙ ap (of_members (members_outline ms)) (put_last found k d ms rising)
      ∙ members_read n next ms (subst (λ (a : Members). AreAscending (names_of a)) (sym one) rising) h.1
      ∙ ap Some one

-- the text of canonical JSON is read as it
text_reads : (d : Data) → IsCanonical max_depth d → read (compact_text d) ≡ Some d
text_reads d h =
    let all = tree.json_tokens (outline d) in
    let printed : tokens (compact_text d) ≡ all ++ [] = ap tokens (sym (print-outline d))
    ∙ tokens-print all (ArePrintable-json_tokens (outline d) (numbers max_depth d h)) ∙ sym (append-nil all) in
    let whole = ap (json.value max_depth) printed ∙ value-json_tokens (outline d) max_depth [] (shallow max_depth d h) in
    ap (λ r. option_and_then of_json (option_and_then (λ p. json.if_last p.0 p.1) r)) whole ∙ reads max_depth d h

written_reads : (r : Result Data JsonError) (text : List ℕ) → WritesCanonical max_depth r → text_of r ≡ Ok text → IsReadAs r text
written_reads (Ok d) text own is = ap read (sym (ok_same (compact_text d) text is)) ∙ text_reads d own
written_reads (Err e) text own is = tt

-- the text of what is written, if it is canonical, is read as it
pub gives_reads : {X : Type 0} (view : X → List ℕ) (r : Result X JsonError) (want : Result Data JsonError)
    → WritesCanonical max_depth want → ReturnsOrNoMemory view r (text_of want) → IfOk r (λ x. IsReadAs want (view x))
gives_reads view (Ok x) want own is = written_reads want (view x) own is
gives_reads view (Err e) want own is = tt

-- and where the JSON reads back, so does its text
pub gives_back : {A X : Type 0} (reads : Data → Result A JsonError) (equivalent : A → A → Type 0) (x : A) (view : X → List ℕ)
    (r : Result X JsonError) (want : Result Data JsonError) → ReturnsOrNoMemory view r (text_of want) → IfOk r (λ t. IsReadAs want (view t))
    → OnOk r ((d : Data) → want ≡ Ok d → ReadsBack reads equivalent x d) → IfOk r (λ t. TextReadsBack reads equivalent x (view t))
gives_back reads equivalent x view (Ok t) (Ok d) given read_so back =
    let again = back d refl in record { again = again.again; is = of_json_text reads (view t) d again.again read_so again.is; equal = again.equal }
gives_back reads equivalent x view (Ok t) (Err e) given read_so back = cc given
gives_back reads equivalent x view (Err e) want given read_so back = tt

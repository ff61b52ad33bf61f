-- One member of a text's object is read, and the others are passed over.
use Rattle.std.specs.Prelude.{ℕ, ◌≡◌, ◌-◌, ◌<◌, ◌≤◌, List, [], ◌∷◌, length, true, false, Option, Some, None, Result, Ok, Err, MatchResult, refl}
use Rattle.std.specs.Str.{bytes_eq}
use Rattle.std.proofs.Common.{sym, ap, ◌∙◌, subst, arith}
use Rattle.std.proofs.lemmas.Slice.Eq.{bytes_eq-Decides}
use Rattle.json.specs.Token.{Token}
use Rattle.json.specs.Json.{Json, Parse, members, parse_map, read_key, value}
use Rattle.json.proofs.Grammar.{read_key-shorter, value-begin_array, value-begin_object}
use Rattle.json.specs.Json as json
use Rattle.json.specs.Json.{items}
use Rattle.serde_json.specs.Data.{Data, Items, Members, array, no_members, object, put}
use Rattle.serde_json.specs.Find.{get_member}
use Rattle.serde_json.specs.Read.{converted, of_items, of_json, of_members, read}
use Rattle.json.specs.Lex.{tokens}
use Rattle.serde_json.proofs.Views.{get_member-put, get_member-put_other}
use Rattle.warg_crypto.specs.declared.json.error.JsonError.{JsonError}
use Rattle.warg_crypto.specs.Json.Json.{Returns}
use Rattle.warg_saved_states.specs.Next.{IsNext, ReadsNext}
use Rattle.warg_saved_states.specs.declared.error.ReadFault.{ReadFault}
use Rattle.warg_saved_states.specs.declared.error.ReadFault.TheVariants.{NotJson}
use Rattle.warg_saved_states.proofs.AskedMembers.{other_name}
use Rattle.warg_saved_states.proofs.TextReading.{converted-array, converted-object, key_refused, member_read, member_refused, members_over, whole_read, whole_refused}

module _ {X Y : Type 0} (view : X → Y) (reads : Option Data → Result Y JsonError) (name : List ℕ) (p : Parse Json) (start : List Token) where
  -- what was read so far, and what the member of that name is read as
  pub record IsMemberSoFar (now : List Token) (r : Result X JsonError) : Type 0 where
    pub turns : ℕ
    pub enough : length now ≤ turns
    pub shorter : length now ≤ length start
    pub ms : Members
    pub text : converted (λ js. of_members js no_members) (members p (length start) start) ≡ converted (λ js. of_members js ms) (members p turns now)
    pub found : Returns view r (reads (get_member name ms))

  pub member_begin : (r : Result X JsonError) → Returns view r (reads None) → IsMemberSoFar start r
  member_begin r none = record { turns = length start; enough = omega arith; shorter = omega arith; ms = no_members; text = refl; found = none }

  put_member : (now s r : List Token) (old new : Result X JsonError) (k : List ℕ) (d : Data) → read_key now ≡ Some (Some k, s) → length s < length now → converted of_json (p s) ≡ Some (d, r) → length r < length s
      → (is : IsMemberSoFar now old) → Returns view new (reads (get_member name (put k d is.ms))) → IsMemberSoFar r new
  put_member now s r old new k d key less read lesser is found = record {
    turns = is.turns - 1;
    enough = omega (arith, is.enough, less, lesser);
    shorter = omega (arith, is.shorter, less, lesser);
    ms = put k d is.ms;
    text = is.text ∙ member_read p is.ms is.turns k now s r d (omega (arith, is.enough, less)) key read;
    found = found;
  }

  -- the member itself is read
  pub member_own : (now s r : List Token) (old new : Result X JsonError) (k : List ℕ) (d : Data) → bytes_eq k name ≡ true → read_key now ≡ Some (Some k, s) → length s < length now
      → converted of_json (p s) ≡ Some (d, r) → length r < length s → Returns view new (reads (Some d)) → IsMemberSoFar now old → IsMemberSoFar r new
  member_own now s r old new k d own key less read lesser found is =
      let here : k ≡ name = (bytes_eq-Decides k name).0 own in
      put_member now s r old new k d key less read lesser is
      (subst (λ o. Returns view new (reads o)) (sym (ap (λ n. get_member n (put k d is.ms)) (sym here) ∙ get_member-put k d is.ms)) found)

  -- another is passed over
  pub member_other : (now s r : List Token) (old : Result X JsonError) (k : List ℕ) (d : Data) → bytes_eq k name ≡ false → read_key now ≡ Some (Some k, s) → length s < length now
      → converted of_json (p s) ≡ Some (d, r) → length r < length s → IsMemberSoFar now old → IsMemberSoFar r old
  member_other now s r old k d other key less read lesser is =
      put_member now s r old old k d key less read lesser is
      (subst (λ o. Returns view old (reads o)) (sym (get_member-put_other name k d is.ms (λ e. other_name k name other (sym e)))) is.found)

  -- all members were read
  pub member_end : (now r : List Token) (old : Result X JsonError) → read_key now ≡ Some (None, r) → IsMemberSoFar now old
      → (ms : Members) × (length r < length start) × (converted (λ js. of_members js no_members) (members p (length start) start) ≡ Some (ms, r)) × Returns view old (reads (get_member name ms))
  member_end now r old over is = (
    is.ms,
    omega (arith, is.shorter, read_key-shorter now None r over),
    is.text ∙ members_over p is.ms is.turns now r is.enough over,
    is.found,
  )

  -- one has no name
  pub member_unnamed : (now : List Token) (old : Result X JsonError) → read_key now ≡ None → IsMemberSoFar now old → converted (λ js. of_members js no_members) (members p (length start) start) ≡ None
  member_unnamed now old none is = is.text ∙ key_refused p is.ms is.turns now none

  -- one has no value
  pub member_unread : (now s : List Token) (old : Result X JsonError) (k : List ℕ) → read_key now ≡ Some (Some k, s) → converted of_json (p s) ≡ None → IsMemberSoFar now old
      → converted (λ js. of_members js no_members) (members p (length start) start) ≡ None
  member_unread now s old k key none is = is.text ∙ member_refused p is.ms is.turns k now s key none

-- an object's members are read
pub object_next : {X Y : Type 0} (view : X → Y) (reads : Data → Result Y JsonError) (depth : ℕ) (old ts new : List Token) (r : Result X JsonError) (ms : Members) → 0 < depth
    → old ≡ Token.begin_object ∷ ts → converted (λ js. of_members js no_members) (members (value (depth - 1)) (length ts) ts) ≡ Some (ms, new) → length new < length ts
    → Returns view r (reads (object ms)) → IsNext view reads depth old new r
object_next view reads depth old ts new r ms some is text shorter found = record {
  json = object ms;
  text = ap (λ us. converted of_json (value depth us)) is
      ∙ ap (converted of_json) (value-begin_object depth ts some) ∙ converted-object (members (value (depth - 1)) (length ts) ts) ∙ ap (parse_map object) text;
  read = found;
  shorter = rw is (omega (arith, shorter));
}

-- no object is read where no members are
pub object_refused : (depth : ℕ) (old ts : List Token) → 0 < depth → old ≡ Token.begin_object ∷ ts
    → converted (λ js. of_members js no_members) (members (value (depth - 1)) (length ts) ts) ≡ None → converted of_json (value depth old) ≡ None
object_refused depth old ts some is none =
    ap (λ us. converted of_json (value depth us)) is
    ∙ ap (converted of_json) (value-begin_object depth ts some) ∙ converted-object (members (value (depth - 1)) (length ts) ts) ∙ ap (parse_map object) none

-- an array's items are read
pub array_next : {X Y : Type 0} (view : X → Y) (reads : Data → Result Y JsonError) (depth : ℕ) (old ts new : List Token) (r : Result X JsonError) (ds : Items) → 0 < depth
    → old ≡ Token.begin_array ∷ ts → converted of_items (items (value (depth - 1)) (length ts) ts) ≡ Some (ds, new) → length new < length ts
    → Returns view r (reads (array ds)) → IsNext view reads depth old new r
array_next view reads depth old ts new r ds some is text shorter found = record {
  json = array ds;
  text = ap (λ us. converted of_json (value depth us)) is
      ∙ ap (converted of_json) (value-begin_array depth ts some) ∙ converted-array (items (value (depth - 1)) (length ts) ts) ∙ ap (parse_map array) text;
  read = found;
  shorter = rw is (omega (arith, shorter));
}

-- no array is read where no items are
pub array_refused : (depth : ℕ) (old ts : List Token) → 0 < depth → old ≡ Token.begin_array ∷ ts
    → converted of_items (items (value (depth - 1)) (length ts) ts) ≡ None → converted of_json (value depth old) ≡ None
array_refused depth old ts some is none =
    ap (λ us. converted of_json (value depth us)) is
    ∙ ap (converted of_json) (value-begin_array depth ts some) ∙ converted-array (items (value (depth - 1)) (length ts) ts) ∙ ap (parse_map array) none

-- the object, or why there is none
pub object_whole : {X Y : Type 0} (view : X → Y) (reads : Data → Result Y JsonError) (depth : ℕ) (old ts new : List Token) (result : Result (Result X JsonError) ReadFault) → 0 < depth
    → old ≡ Token.begin_object ∷ ts
    → MatchResult result (λ r. (ms : Members) × (length new < length ts) × (converted (λ js. of_members js no_members) (members (value (depth - 1)) (length ts) ts) ≡ Some (ms, new)) × Returns view r (reads (object ms)))
    (λ e. e ≡ NotJson → converted (λ js. of_members js no_members) (members (value (depth - 1)) (length ts) ts) ≡ None)
    → ReadsNext view reads depth result old new
object_whole view reads depth old ts new (Ok r) some is h = object_next view reads depth old ts new r h.0 some is h.2 h.1 h.3
object_whole view reads depth old ts new (Err e) some is h = λ none. object_refused depth old ts some is (h none)

-- the array, or why there is none
pub array_whole : {X Y : Type 0} (view : X → Y) (reads : Data → Result Y JsonError) (depth : ℕ) (old ts new : List Token) (result : Result (Result X JsonError) ReadFault) → 0 < depth
    → old ≡ Token.begin_array ∷ ts
    → MatchResult result (λ r. (ds : Items) × (length new < length ts) × (converted of_items (items (value (depth - 1)) (length ts) ts) ≡ Some (ds, new)) × Returns view r (reads (array ds)))
    (λ e. e ≡ NotJson → converted of_items (items (value (depth - 1)) (length ts) ts) ≡ None)
    → ReadsNext view reads depth result old new
array_whole view reads depth old ts new (Ok r) some is h = array_next view reads depth old ts new r h.0 some is h.2 h.1 h.3
array_whole view reads depth old ts new (Err e) some is h = λ none. array_refused depth old ts some is (h none)

-- a text of one value is read as it
pub text_next : {X Y : Type 0} (view : X → Y) (reads : Data → Result Y JsonError) (text : List ℕ) (r : Result X JsonError) → IsNext view reads 127 (tokens text) [] r
    → (d : Data) × (read text ≡ Some d) × Returns view r (reads d)
text_next view reads text r is = (is.json, whole_read (value 127 (tokens text)) is.json is.text, is.read)

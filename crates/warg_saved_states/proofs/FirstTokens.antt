-- The token that a value begins with says what kind of value it is.
use Rattle.std.specs.Prelude.{ℕ, zero, suc, ◌≡◌, ◌<◌, List, [], ◌∷◌, length, Option, Some, None, option_map, Result, Err, refl}
use Rattle.std.specs.Borrow.{Bor}
use Rattle.std.proofs.Common.{sym, ap, ap₂, ◌∙◌, arith}
use Rattle.json.specs.Token.{Token}
use Rattle.json.specs.Json as json
use Rattle.json.specs.Json.{items, members, parse_map, value}
use Rattle.json.specs.Reads.{token_of}
use Rattle.json.specs.declared.token.Token.{Token as Taken}
use Rattle.json.specs.declared.token.Token.TheVariants as taken
use Rattle.json.proofs.Grammar.{value_is}
use Rattle.serde_json.specs.Data.{Data, Items, Members, Num, null, boolean, number, string, array, object, no_members}
use Rattle.serde_json.specs.Find.{as_array, as_object, as_str}
use Rattle.serde_json.specs.Read.{converted, number_of, of_items, of_json, of_members}
use Rattle.warg_crypto.specs.declared.json.error.JsonError.{JsonError}
use Rattle.warg_crypto.specs.declared.json.error.JsonError.TheVariants as fault
use Rattle.warg_crypto.specs.Json.Json.{Returns}
use Rattle.warg_saved_states.specs.Next.{IsNext}
use Rattle.warg_saved_states.specs.Passed.{passed}
use Rattle.warg_saved_states.proofs.Passing.{behind_none, behind_some}
use Rattle.warg_saved_states.proofs.TextReading.{converted-array, converted-object}

-- which kind a value is
abbrev pub kind_of : Data → ℕ
kind_of null = 0
kind_of (boolean b) = 1
kind_of (number x) = 2
kind_of (string s) = 3
kind_of (array ds) = 4
kind_of (object ms) = 5

-- which kind the token begins, if it begins one
abbrev pub begun_by : Token → ℕ
begun_by Token.null = 0
begun_by (Token.boolean b) = 1
begun_by (Token.number s) = 2
begun_by (Token.string s) = 3
begun_by Token.begin_array = 4
begun_by Token.begin_object = 5
begun_by Token.end_object = 6
begun_by Token.end_array = 6
begun_by (Token.key s) = 6
begun_by Token.bad = 6

abbrev kind_or : ℕ → Option (Data × List Token) → ℕ
kind_or n None = n
kind_or n (Some p) = kind_of p.0

by_number : (o : Option Num) (ts r : List Token) (d : Data) → option_map {U = Data × List Token} (λ b. (b, ts)) (option_map number o) ≡ Some (d, r) → kind_of d ≡ 2
by_number None ts r d e = absurd cc
by_number (Some x) ts r d e = sym (ap (kind_or 2) e)

by_items : (o : Option (Items × List Token)) (r : List Token) (d : Data) → parse_map array o ≡ Some (d, r) → kind_of d ≡ 4
by_items None r d e = absurd cc
by_items (Some p) r d e = sym (ap (kind_or 4) e)

by_members : (o : Option (Members × List Token)) (r : List Token) (d : Data) → parse_map object o ≡ Some (d, r) → kind_of d ≡ 5
by_members None r d e = absurd cc
by_members (Some p) r d e = sym (ap (kind_or 5) e)

none_read : (r : List Token) (d : Data) (o : Option (Data × List Token)) → o ≡ None → o ≡ Some (d, r) → ⊥
none_read r d o none e = cc

one_read : (n : ℕ) (x d : Data) (ts r : List Token) → kind_of x ≡ n → ◌≡◌ {A = Option (Data × List Token)} (Some (x, ts)) (Some (d, r)) → kind_of d ≡ n
one_read n x d ts r is e = sym (ap (kind_or n) e) ∙ is

kind_array : (depth : ℕ) (ts r : List Token) (d : Data) → converted of_json (value depth (Token.begin_array ∷ ts)) ≡ Some (d, r) → kind_of d ≡ 4
unfolding value
kind_array zero ts r d e = absurd cc
kind_array (suc n) ts r d e = by_items (converted of_items (items (value n) (length ts) ts)) r d (sym (converted-array (items (value n) (length ts) ts)) ∙ e)

kind_object : (depth : ℕ) (ts r : List Token) (d : Data) → converted of_json (value depth (Token.begin_object ∷ ts)) ≡ Some (d, r) → kind_of d ≡ 5
unfolding value
kind_object zero ts r d e = absurd cc
kind_object (suc n) ts r d e =
    by_members (converted (λ js. of_members js no_members) (members (value n) (length ts) ts)) r d (sym (converted-object (members (value n) (length ts) ts)) ∙ e)

-- a value is of the kind that its first token begins
pub kind_read : (depth : ℕ) (t : Token) (ts r : List Token) (d : Data) → converted of_json (value depth (t ∷ ts)) ≡ Some (d, r) → kind_of d ≡ begun_by t
kind_read depth Token.null ts r d e = one_read 0 null d ts r refl (sym (ap (converted of_json) (value_is depth (Token.null ∷ ts))) ∙ e)
kind_read depth (Token.boolean b) ts r d e = one_read 1 (boolean b) d ts r refl (sym (ap (converted of_json) (value_is depth (Token.boolean b ∷ ts))) ∙ e)
kind_read depth (Token.number s) ts r d e = by_number (number_of s) ts r d (sym (ap (converted of_json) (value_is depth (Token.number s ∷ ts))) ∙ e)
kind_read depth (Token.string s) ts r d e = one_read 3 (string s) d ts r refl (sym (ap (converted of_json) (value_is depth (Token.string s ∷ ts))) ∙ e)
kind_read depth Token.begin_array ts r d e = kind_array depth ts r d e
kind_read depth Token.begin_object ts r d e = kind_object depth ts r d e
kind_read depth Token.end_object ts r d e = absurd (none_read r d _ (ap (converted of_json) (value_is depth (Token.end_object ∷ ts))) e)
kind_read depth Token.end_array ts r d e = absurd (none_read r d _ (ap (converted of_json) (value_is depth (Token.end_array ∷ ts))) e)
kind_read depth (Token.key s) ts r d e = absurd (none_read r d _ (ap (converted of_json) (value_is depth (Token.key s ∷ ts))) e)
kind_read depth Token.bad ts r d e = absurd (none_read r d _ (ap (converted of_json) (value_is depth (Token.bad ∷ ts))) e)

-- what no token begins that is another's
pub no_text : (d : Data) → (kind_of d ≡ 3 → ⊥) → as_str d ≡ None
no_text null other = refl
no_text (boolean b) other = refl
no_text (number x) other = refl
no_text (string s) other = absurd (other refl)
no_text (array ds) other = refl
no_text (object ms) other = refl

pub no_array : (d : Data) → (kind_of d ≡ 4 → ⊥) → as_array d ≡ None
no_array null other = refl
no_array (boolean b) other = refl
no_array (number x) other = refl
no_array (string s) other = refl
no_array (array ds) other = absurd (other refl)
no_array (object ms) other = refl

pub no_object : (d : Data) → (kind_of d ≡ 5 → ⊥) → as_object d ≡ None
no_object null other = refl
no_object (boolean b) other = refl
no_object (number x) other = refl
no_object (string s) other = refl
no_object (array ds) other = refl
no_object (object ms) other = absurd (other refl)

-- another token begins another kind
pub begins_no_text : (t : Taken) → ((s : Bor (List ℕ)) → t ≡ taken.String s → ⊥) → begun_by (token_of t) ≡ 3 → ⊥
begins_no_text taken.BeginObject never e = omega arith
begins_no_text taken.EndObject never e = omega arith
begins_no_text taken.BeginArray never e = omega arith
begins_no_text taken.EndArray never e = omega arith
begins_no_text (taken.Key s) never e = omega arith
begins_no_text (taken.String s) never e = never s refl
begins_no_text (taken.Number s) never e = omega arith
begins_no_text (taken.Bool b) never e = omega arith
begins_no_text taken.Null never e = omega arith
begins_no_text taken.Bad never e = omega arith

pub begins_no_array : (t : Taken) → (t ≡ taken.BeginArray → ⊥) → begun_by (token_of t) ≡ 4 → ⊥
begins_no_array taken.BeginObject never e = omega arith
begins_no_array taken.EndObject never e = omega arith
begins_no_array taken.BeginArray never e = never refl
begins_no_array taken.EndArray never e = omega arith
begins_no_array (taken.Key s) never e = omega arith
begins_no_array (taken.String s) never e = omega arith
begins_no_array (taken.Number s) never e = omega arith
begins_no_array (taken.Bool b) never e = omega arith
begins_no_array taken.Null never e = omega arith
begins_no_array taken.Bad never e = omega arith

pub begins_no_object : (t : Taken) → (t ≡ taken.BeginObject → ⊥) → begun_by (token_of t) ≡ 5 → ⊥
begins_no_object taken.BeginObject never e = never refl
begins_no_object taken.EndObject never e = omega arith
begins_no_object taken.BeginArray never e = omega arith
begins_no_object taken.EndArray never e = omega arith
begins_no_object (taken.Key s) never e = omega arith
begins_no_object (taken.String s) never e = omega arith
begins_no_object (taken.Number s) never e = omega arith
begins_no_object (taken.Bool b) never e = omega arith
begins_no_object taken.Null never e = omega arith
begins_no_object taken.Bad never e = omega arith

-- a value that is passed over, since it is of another kind than is read
pub wrong_next : {X Y : Type 0} (view : X → Y) (reads : Data → Result Y JsonError) (depth kind : ℕ) (old ts new : List Token) (t : Token)
    → ((d : Data) → (kind_of d ≡ kind → ⊥) → reads d ≡ Err fault.WrongType) → (begun_by t ≡ kind → ⊥)
    → old ≡ t ∷ ts → passed depth (t ∷ ts) ≡ Some new → length new < length (t ∷ ts) → IsNext view reads depth old new (Err fault.WrongType)
wrong_next view reads depth kind old ts new t wrong other is over shorter =
    let read = behind_some (converted of_json (value depth (t ∷ ts))) new over in
    record {
      json = read.0;
      text = ap (λ us. converted of_json (value depth us)) is ∙ read.1;
      read = wrong read.0 (λ same. other (sym (kind_read depth t ts new read.0 read.1) ∙ same));
      shorter = rw is shorter;
    }

-- no value is read of no tokens, nor where none is passed over
pub empty_refused : (depth : ℕ) (old : List Token) → old ≡ [] → converted of_json (value depth old) ≡ None
empty_refused depth old none = ap (λ ts. converted of_json (value depth ts)) none ∙ ap (converted of_json) (value_is depth [])

pub passed_refused : (depth : ℕ) (old ts : List Token) (t : Token) → old ≡ t ∷ ts → passed depth (t ∷ ts) ≡ None → converted of_json (value depth old) ≡ None
passed_refused depth old ts t is none = ap (λ us. converted of_json (value depth us)) is ∙ behind_none (converted of_json (value depth (t ∷ ts))) none

-- no array and no object is read where none may nest
pub array_too_deep : (depth : ℕ) (old ts : List Token) → depth ≡ 0 → old ≡ Token.begin_array ∷ ts → converted of_json (value depth old) ≡ None
unfolding value
array_too_deep depth old ts none is = ap (converted of_json) (ap₂ value none is)

pub object_too_deep : (depth : ℕ) (old ts : List Token) → depth ≡ 0 → old ≡ Token.begin_object ∷ ts → converted of_json (value depth old) ≡ None
unfolding value
object_too_deep depth old ts none is = ap (converted of_json) (ap₂ value none is)

-- a text is read
pub string_next : {X Y : Type 0} (view : X → Y) (reads : Data → Result Y JsonError) (depth : ℕ) (old ts : List Token) (s : List ℕ) (r : Result X JsonError)
    → old ≡ Token.string s ∷ ts → Returns view r (reads (string s)) → IsNext view reads depth old ts r
string_next view reads depth old ts s r is found = record {
  json = string s;
  text = ap (λ us. converted of_json (value depth us)) is ∙ ap (converted of_json) (value_is depth (Token.string s ∷ ts));
  read = found;
  shorter = rw is (omega arith);
}

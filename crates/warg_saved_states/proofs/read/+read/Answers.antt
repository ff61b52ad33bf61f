use Rattle.std.proofs.Common.{◌≡◌, refl, ◌-◌, ◌<◌, suc, [], ◌∷◌, length, Some, None, true, false, sym, ap, ap₂, ◌∙◌, arith, rules}
use Rattle.json.specs.Token.{Token}
use Rattle.json.specs.Json.{parse_map, read_key, items, members, value}
use Rattle.json.specs.Reads.{token_of}
use Rattle.json.proofs.Grammar.{value_is, value-begin_array, value-begin_object, read_key-shorter}
use Rattle.serde_json.specs.Data.{null, boolean, number, string, array, object, no_members}
use Rattle.serde_json.specs.Read.{of_items, of_json, of_members, converted}
use Rattle.serde_json.specs.View.{items_view, view, number_view, members_view}
use Rattle.serde_json.specs.declared.value.Value.{String, Number, Bool, Null, Array, Object, the_lemmas}
use Rattle.serde_json.proofs.Views.{view-Array, view-Object}
use Rattle.warg_saved_states.specs.Asked.{AreAskedOf, IsTaken, is_asked, texts}
use Rattle.warg_saved_states.proofs.AskedMembers.{ask_begin, ask_end, ask_one, like_array, like_object, like_plain, taken_over}
use Rattle.warg_saved_states.proofs.Passing.{behind_none, behind_some}
use Rattle.warg_saved_states.proofs.TextReading.{converted-array, converted-object, key_refused, member_refused}
use Rattle.warg_saved_states.proofs.read.+read.Goals as goal

pub read_value-returns-in_err-token-clause-err : goal.read_value-returns-in_err-token-clause-err
read_value-returns-in_err-token-clause-err t c refused =
    let empty : c.args.reader.now ≡ [] = grind arith in
    ap (converted of_json) (ap (value c.args.depth) empty ∙ value_is c.args.depth [])

pub read_value-returns-then-depth-eq0-clause-err : goal.read_value-returns-then-depth-eq0-clause-err
unfolding value
read_value-returns-then-depth-eq0-clause-err t c never =
    let first : c.args.reader.now ≡ token_of c.in_ok-token.token ∷ c.next.new.self = grind arith in
    let none : c.args.depth ≡ 0 = omega arith in
    ap (converted of_json) (ap₂ value none (first ∙ ap (λ k. token_of k ∷ c.next.new.self) c.in-BeginArray.is))

pub read_value-returns-then-depth-eq0-2-clause-err : goal.read_value-returns-then-depth-eq0-2-clause-err
unfolding value
read_value-returns-then-depth-eq0-2-clause-err t c never =
    let first : c.args.reader.now ≡ token_of c.in_ok-token.token ∷ c.next.new.self = grind arith in
    let none : c.args.depth ≡ 0 = omega arith in
    ap (converted of_json) (ap₂ value none (first ∙ ap (λ k. token_of k ∷ c.next.new.self) c.in-BeginObject.is))

pub read_value-returns-in_err-pass_items-in-BeginArray-clause-err : goal.read_value-returns-in_err-pass_items-in-BeginArray-clause-err
read_value-returns-in_err-pass_items-in-BeginArray-clause-err t c refused =
    let first : c.args.reader.now ≡ token_of c.in_ok-token.token ∷ c.next.new.self = grind arith in
    let opened = ap (converted of_json) (ap (value c.args.depth) (first ∙ ap (λ k. token_of k ∷ c.next.new.self) c.in-BeginArray.is) ∙ value-begin_array c.args.depth c.next.new.self (omega arith)) ∙ converted-array (items (value (c.args.depth - 1)) (length c.next.new.self) c.next.new.self) in
    opened ∙ ap (parse_map array) (behind_none _ c.in_err-pass_items-in-BeginArray.ensures.value)

pub read_value-returns-in_err-found-in-BeginObject-clause-err : goal.read_value-returns-in_err-found-in-BeginObject-clause-err
read_value-returns-in_err-found-in-BeginObject-clause-err t c refused =
    let first : c.args.reader.now ≡ token_of c.in_ok-token.token ∷ c.next.new.self = grind arith in
    let opened = ap (converted of_json) (ap (value c.args.depth) (first ∙ ap (λ k. token_of k ∷ c.next.new.self) c.in-BeginObject.is) ∙ value-begin_object c.args.depth c.next.new.self (omega arith)) ∙ converted-object (members (value (c.args.depth - 1)) (length c.next.new.self) c.next.new.self) in
    opened ∙ ap (parse_map object) (c.read_members.ensures.err (grind arith))

pub read_value-returns-in_ok-from_str-in-String-clause-ok : goal.read_value-returns-in_ok-from_str-in-String-clause-ok
read_value-returns-in_ok-from_str-in-String-clause-ok t c =
    let first : c.args.reader.now ≡ token_of c.in_ok-token.token ∷ c.next.new.self = grind arith in
    let is : c.args.reader.now ≡ Token.string c.in-String.text.now ∷ c.next.new.self = grind (arith, first) in
    let seen : view (String c.in_ok-from_str-in-String.field-0) ≡ string c.in-String.text.now = search (rules, the_lemmas) in (
      string c.in-String.text.now,
      ap (converted of_json) (ap (value c.args.depth) is ∙ value_is c.args.depth _),
      like_plain (AreAskedOf (texts c.args.asked.now) c.args.levels) (string c.in-String.text.now) (view (String c.in_ok-from_str-in-String.field-0)) refl seen,
    )

pub read_value-returns-in-Bool-clause-ok : goal.read_value-returns-in-Bool-clause-ok
read_value-returns-in-Bool-clause-ok t c =
    let first : c.args.reader.now ≡ token_of c.in_ok-token.token ∷ c.next.new.self = grind arith in
    let is : c.args.reader.now ≡ Token.boolean c.in-Bool.truth ∷ c.next.new.self = grind (arith, first) in
    let seen : view (Bool c.in-Bool.truth) ≡ boolean c.in-Bool.truth = search (rules, the_lemmas) in (
      boolean c.in-Bool.truth,
      ap (converted of_json) (ap (value c.args.depth) is ∙ value_is c.args.depth _),
      like_plain (AreAskedOf (texts c.args.asked.now) c.args.levels) (boolean c.in-Bool.truth) (view (Bool c.in-Bool.truth)) refl seen,
    )

pub read_value-returns-in-Null-clause-ok : goal.read_value-returns-in-Null-clause-ok
read_value-returns-in-Null-clause-ok t c =
    let first : c.args.reader.now ≡ token_of c.in_ok-token.token ∷ c.next.new.self = grind arith in
    let is : c.args.reader.now ≡ Token.null ∷ c.next.new.self = grind (arith, first) in
    let seen : view (Null) ≡ null = search (rules, the_lemmas) in
    (null, ap (converted of_json) (ap (value c.args.depth) is ∙ value_is c.args.depth _), like_plain (AreAskedOf (texts c.args.asked.now) c.args.levels) null (view (Null)) refl seen)

pub read_value-returns-in-Some-clause-ok : goal.read_value-returns-in-Some-clause-ok
read_value-returns-in-Some-clause-ok t c =
    let first : c.args.reader.now ≡ token_of c.in_ok-token.token ∷ c.next.new.self = grind arith in
    let is : c.args.reader.now ≡ Token.number c.in-Number.text.now ∷ c.next.new.self = grind (arith, first) in
    let seen : view (Number c.in-Some.number) ≡ number (number_view c.in-Some.number) = search (rules, the_lemmas) in (
      number (number_view c.in-Some.number),
      ap (converted of_json) (ap (value c.args.depth) is ∙ value_is c.args.depth _) ∙ rw (← c.in-Some.ensures),
      like_plain (AreAskedOf (texts c.args.asked.now) c.args.levels) (number (number_view c.in-Some.number)) (view (Number c.in-Some.number)) refl seen,
    )

pub read_value-returns-in-None-clause-err : goal.read_value-returns-in-None-clause-err
read_value-returns-in-None-clause-err t c refused =
    let first : c.args.reader.now ≡ token_of c.in_ok-token.token ∷ c.next.new.self = grind arith in
    let is : c.args.reader.now ≡ Token.number c.in-Number.text.now ∷ c.next.new.self = grind (arith, first) in
    ap (converted of_json) (ap (value c.args.depth) is ∙ value_is c.args.depth _) ∙ rw (← c.in-None.ensures)

pub read_value-returns-in-EndObject-clause-err : goal.read_value-returns-in-EndObject-clause-err
read_value-returns-in-EndObject-clause-err t c refused =
    let first : c.args.reader.now ≡ token_of c.in_ok-token.token ∷ c.next.new.self = grind arith in
    let none : value c.args.depth c.args.reader.now ≡ None = rw (value_is c.args.depth c.args.reader.now, first) (grind arith) in
    ap (converted of_json) none

pub read_value-returns-in_ok-pass_items-in-BeginArray-clause-ok : goal.read_value-returns-in_ok-pass_items-in-BeginArray-clause-ok
read_value-returns-in_ok-pass_items-in-BeginArray-clause-ok t c =
    let first : c.args.reader.now ≡ token_of c.in_ok-token.token ∷ c.next.new.self = grind arith in
    let opened = ap (converted of_json) (ap (value c.args.depth) (first ∙ ap (λ k. token_of k ∷ c.next.new.self) c.in-BeginArray.is) ∙ value-begin_array c.args.depth c.next.new.self (omega arith)) ∙ converted-array (items (value (c.args.depth - 1)) (length c.next.new.self) c.next.new.self) in
    let ds = behind_some (converted of_items (items (value (c.args.depth - 1)) (length c.next.new.self) c.next.new.self)) c.pass_items.new.reader c.in_ok-pass_items-in-BeginArray.ensures.value in (
      array ds.0,
      opened ∙ ap (parse_map array) ds.1,
      like_array (AreAskedOf (texts c.args.asked.now) c.args.levels) ds.0 (items_view c.new-none.result.items) (view (Array c.new-none.result)) (view-Array c.new-none.result),
    )

pub read_value-returns-in_ok-found-in-BeginObject-clause-ok : goal.read_value-returns-in_ok-found-in-BeginObject-clause-ok
read_value-returns-in_ok-found-in-BeginObject-clause-ok t c =
    let first : c.args.reader.now ≡ token_of c.in_ok-token.token ∷ c.next.new.self = grind arith in
    let opened = ap (converted of_json) (ap (value c.args.depth) (first ∙ ap (λ k. token_of k ∷ c.next.new.self) c.in-BeginObject.is) ∙ value-begin_object c.args.depth c.next.new.self (omega arith)) ∙ converted-object (members (value (c.args.depth - 1)) (length c.next.new.self) c.next.new.self) in
    let found = c.in_ok-found-in-BeginObject in (
      object found.ensures.ok.0,
      opened ∙ ap (parse_map object) found.ensures.ok.1,
      like_object (AreAskedOf (texts c.args.asked.now) c.args.levels) found.ensures.ok.0 (members_view found.found.entries) (view (Object found.found)) (view-Object found.found) found.ensures.ok.2,
    )

pub read_members-members-init : goal.read_members-members-init
read_members-members-init t c =
    ask_begin (texts c.args.asked.now) (c.args.levels - 1) (value c.args.depth) c.args.reader.now (members_view c.new-found.result.entries) (ap members_view c.new-found.ensures.empty)

pub read_members-returns-in_err-name-clause-err : goal.read_members-returns-in_err-name-clause-err
read_members-returns-in_err-name-clause-err t c refused =
    let l = c.members in
    l.invariant.text ∙ key_refused (value c.args.depth) l.invariant.ms l.invariant.turns l.reader c.in_err-name.ensures.value

pub read_members-returns-in_err-take_next-clause-err : goal.read_members-returns-in_err-take_next-clause-err
read_members-returns-in_err-take_next-clause-err t c refused =
    let l = c.members in
    let k = c.in-Some.name.now in
    let s = c.next_key.new.self in
    let named : read_key l.reader ≡ Some (Some k, s) = grind arith in
    l.invariant.text ∙ member_refused (value c.args.depth) l.invariant.ms l.invariant.turns k l.reader s named (c.take_next.ensures.err (grind arith))

pub read_members-members-preserved : goal.read_members-members-preserved
read_members-members-preserved t c =
    let l = c.members in
    let k = c.in-Some.name.now in
    let s = c.next_key.new.self in
    let named : read_key l.reader ≡ Some (Some k, s) = grind arith in
    let done = c.in_ok-take_next.ensures in
    ask_one (texts c.args.asked.now) (c.args.levels - 1) (value c.args.depth) c.args.reader.now l.reader s c.take_next.new.reader
    (members_view l.found.entries) (members_view c.take_next.new.found.entries) k done.ok.0
    named (read_key-shorter l.reader (Some k) s named) done.ok.1 done.shorter done.ok.2 l.invariant

pub read_members-returns-clause-ok : goal.read_members-returns-clause-ok
read_members-returns-clause-ok t c =
    let l = c.members in
    ask_end (texts c.args.asked.now) (c.args.levels - 1) (value c.args.depth) c.args.reader.now l.reader c.next_key.new.self (members_view l.found.entries)
    c.args.levels (omega arith) (grind arith) l.invariant

pub read_members-returns-clause-shorter : goal.read_members-returns-clause-shorter
read_members-returns-clause-shorter t c =
    let l = c.members in
    let over : read_key l.reader ≡ Some (None, c.next_key.new.self) = grind arith in
    omega (arith, l.invariant.shorter, read_key-shorter l.reader None c.next_key.new.self over)

pub take_next-returns-clause-ok : goal.take_next-returns-clause-ok
take_next-returns-clause-ok t c =
    let read = c.in_ok-value.ensures.ok in
    let own : is_asked (texts c.args.asked.now) c.args.name.now ≡ true = grind arith in
    (read.0, read.1, IsTaken.asked (view c.in_ok-value.value) own read.2 c.in_ok-put_copy.ensures.ok)

use Rattle.std.proofs.Common.{◌≡◌, ◌-◌, ◌<◌, [], ◌∷◌, length, Some, None, refl, ap, ap₂, ◌∙◌, arith}
use Rattle.json.specs.Token.{Token}
use Rattle.json.specs.Json.{after_end_array, items, members, read_key, value}
use Rattle.json.specs.Reads.{token_of}
use Rattle.json.proofs.Grammar.{value_is, value-begin_array, value-begin_object, read_key-shorter}
use Rattle.serde_json.specs.Data.{no_members}
use Rattle.serde_json.specs.Read.{converted, of_json}
use Rattle.warg_saved_states.specs.Passed.{behind, passed, passed_items, passed_members}
use Rattle.warg_saved_states.proofs.TextReading.{converted-array, converted-object, item_refused, items_over, key_refused, member_refused, members_over}
use Rattle.warg_saved_states.proofs.Passing.{behind-parse_map, behind_none, item_passed, member_passed}
use Rattle.warg_saved_states.proofs.pass.+pass.Goals as goal

pub pass_items-items-init : goal.pass_items-items-init
pass_items-items-init t c = (length c.args.reader.now, omega arith, refl, omega arith)

pub pass_items-items-preserved : goal.pass_items-items-preserved
pass_items-items-preserved t c =
    let p = value c.args.depth in
    let l = c.items in
    let n = l.invariant.0 in
    let going : (after_end_array l.reader ≡ None) × (c.take_end_array.new.self ≡ l.reader) = grind arith in
    let less : length c.pass_value.new.reader < length l.reader = rw (← going.1) c.in_ok-pass_value.ensures.shorter in (
      n - 1,
      omega (arith, l.invariant.1),
      l.invariant.2 ∙ item_passed p n l.reader _ (omega (arith, l.invariant.1)) going.0 (rw (← going.1) c.in_ok-pass_value.ensures.value),
      omega (arith, l.invariant.3),
    )

pub pass_items-returns-in_err-pass_value-clause-value : goal.pass_items-returns-in_err-pass_value-clause-value
pass_items-returns-in_err-pass_value-clause-value t c =
    let p = value c.args.depth in
    let l = c.items in
    let n = l.invariant.0 in
    let going : (after_end_array l.reader ≡ None) × (c.take_end_array.new.self ≡ l.reader) = grind arith in
    let none : passed_items c.args.depth c.args.reader.now ≡ None =
    l.invariant.2 ∙ ap behind (item_refused p n l.reader going.0 (behind_none _ (rw (← going.1) c.in_err-pass_value.ensures.value))) in
    grind (arith, none)

pub pass_items-returns-clause-value : goal.pass_items-returns-clause-value
pass_items-returns-clause-value t c =
    let l = c.items in
    l.invariant.2 ∙ ap behind (items_over (value c.args.depth) l.invariant.0 l.reader c.take_end_array.new.self l.invariant.1 (grind arith))

pub pass_members-members-init : goal.pass_members-members-init
pass_members-members-init t c = (length c.args.reader.now, omega arith, (no_members, refl), omega arith)

pub pass_members-returns-in_err-next_key-clause-value : goal.pass_members-returns-in_err-next_key-clause-value
pass_members-returns-in_err-next_key-clause-value t c =
    let l = c.members in
    let none : passed_members c.args.depth c.args.reader.now ≡ None =
    l.invariant.2.1 ∙ ap behind (key_refused (value c.args.depth) l.invariant.2.0 l.invariant.0 l.reader c.in_err-next_key.ensures.value) in
    grind (arith, none)

pub pass_members-members-preserved : goal.pass_members-members-preserved
pass_members-members-preserved t c =
    let p = value c.args.depth in
    let l = c.members in
    let n = l.invariant.0 in
    let k = c.in-Some.field-0.now in
    let s = c.next_key.new.self in
    let key : read_key l.reader ≡ Some (Some k, s) = grind arith in
    let less = read_key-shorter l.reader (Some k) s key in
    let lesser = c.in_ok-pass_value.ensures.shorter in
    let next = member_passed p n l.invariant.2.0 k l.reader s _ (omega (arith, l.invariant.1)) key c.in_ok-pass_value.ensures.value in
    (n - 1, omega (arith, l.invariant.1), (next.0, l.invariant.2.1 ∙ next.1), omega (arith, l.invariant.3))

pub pass_members-returns-in_err-pass_value-clause-value : goal.pass_members-returns-in_err-pass_value-clause-value
pass_members-returns-in_err-pass_value-clause-value t c =
    let l = c.members in
    let k = c.in-Some.field-0.now in
    let s = c.next_key.new.self in
    let key : read_key l.reader ≡ Some (Some k, s) = grind arith in
    let none : passed_members c.args.depth c.args.reader.now ≡ None =
    l.invariant.2.1 ∙ ap behind (member_refused (value c.args.depth) l.invariant.2.0 l.invariant.0 k l.reader s key (behind_none _ c.in_err-pass_value.ensures.value)) in
    grind (arith, none)

pub pass_members-returns-clause-value : goal.pass_members-returns-clause-value
pass_members-returns-clause-value t c =
    let l = c.members in
    l.invariant.2.1 ∙ ap behind (members_over (value c.args.depth) l.invariant.2.0 l.invariant.0 l.reader c.next_key.new.self l.invariant.1 (grind arith))

pub pass_from-returns-in-String-clause-value : goal.pass_from-returns-in-String-clause-value
pass_from-returns-in-String-clause-value t c = rw (value_is c.args.depth (token_of c.args.token ∷ c.args.reader.now)) (grind arith)

pub pass_from-returns-in-EndObject-clause-value : goal.pass_from-returns-in-EndObject-clause-value
pass_from-returns-in-EndObject-clause-value t c = rw (value_is c.args.depth (token_of c.args.token ∷ c.args.reader.now)) (grind arith)

pub pass_from-returns-in-Some-clause-value : goal.pass_from-returns-in-Some-clause-value
pass_from-returns-in-Some-clause-value t c =
    let ts = c.args.reader.now in
    ap (λ k. passed c.args.depth (token_of k ∷ ts)) c.in-Number.is ∙ ap (λ o. behind (converted of_json o)) (value_is c.args.depth (Token.number c.in-Number.text.now ∷ ts)) ∙ rw (← c.in-Some.ensures)

pub pass_from-returns-in-None-clause-value : goal.pass_from-returns-in-None-clause-value
pass_from-returns-in-None-clause-value t c =
    let ts = c.args.reader.now in
    ap (λ k. passed c.args.depth (token_of k ∷ ts)) c.in-Number.is ∙ ap (λ o. behind (converted of_json o)) (value_is c.args.depth (Token.number c.in-Number.text.now ∷ ts)) ∙ rw (← c.in-None.ensures)

pub pass_from-returns-then-depth-eq0-clause-value : goal.pass_from-returns-then-depth-eq0-clause-value
unfolding value
pass_from-returns-then-depth-eq0-clause-value t c =
    let none : c.args.depth ≡ 0 = omega arith in
    ap₂ passed none (ap (λ k. token_of k ∷ c.args.reader.now) c.in-BeginArray.is)

pub pass_from-returns-else-depth-eq0-clause-value : goal.pass_from-returns-else-depth-eq0-clause-value
pass_from-returns-else-depth-eq0-clause-value t c =
    let ts = c.args.reader.now in
    let same : passed c.args.depth (token_of c.args.token ∷ ts) ≡ passed_items (c.args.depth - 1) ts =
    ap (λ k. passed c.args.depth (token_of k ∷ ts)) c.in-BeginArray.is ∙ ap (λ o. behind (converted of_json o)) (value-begin_array c.args.depth ts (omega arith))
    ∙ ap behind (converted-array (items (value (c.args.depth - 1)) (length ts) ts)) ∙ behind-parse_map _ _ in
    rw same c.pass_items.ensures.value

pub pass_from-returns-then-depth-eq0-2-clause-value : goal.pass_from-returns-then-depth-eq0-2-clause-value
unfolding value
pass_from-returns-then-depth-eq0-2-clause-value t c =
    let none : c.args.depth ≡ 0 = omega arith in
    ap₂ passed none (ap (λ k. token_of k ∷ c.args.reader.now) c.in-BeginObject.is)

pub pass_from-returns-else-depth-eq0-2-clause-value : goal.pass_from-returns-else-depth-eq0-2-clause-value
pass_from-returns-else-depth-eq0-2-clause-value t c =
    let ts = c.args.reader.now in
    let same : passed c.args.depth (token_of c.args.token ∷ ts) ≡ passed_members (c.args.depth - 1) ts =
    ap (λ k. passed c.args.depth (token_of k ∷ ts)) c.in-BeginObject.is ∙ ap (λ o. behind (converted of_json o)) (value-begin_object c.args.depth ts (omega arith))
    ∙ ap behind (converted-object (members (value (c.args.depth - 1)) (length ts) ts)) ∙ behind-parse_map _ _ in
    rw same c.pass_members.ensures.value

pub pass_value-returns-in_err-token-clause-value : goal.pass_value-returns-in_err-token-clause-value
pass_value-returns-in_err-token-clause-value t c =
    let empty : c.args.reader.now ≡ [] = grind arith in
    let none : passed c.args.depth c.args.reader.now ≡ None = ap (passed c.args.depth) empty ∙ ap (λ o. behind (converted of_json o)) (value_is c.args.depth []) in
    grind (arith, none)

use Rattle.std.proofs.Common.{◌≡◌, [], Some, None, Ok, true, false, ap, sym, arith, rules}
use Rattle.std.proofs.lemmas.Result.{err_from_is_err_and}
use Rattle.std.specs.Str.{bytes_eq}
use Rattle.json.specs.Json.{read_key, value}
use Rattle.json.proofs.Grammar.{read_key-shorter}
use Rattle.serde_json.specs.Read.{converted, of_json}
use Rattle.warg_crypto.specs.Json.Pairs.{pairs_or_none, plain_pairs}
use Rattle.warg_saved_states.specs.Passed.{passed}
use Rattle.warg_saved_states.proofs.Passing.{behind_none, behind_some}
use Rattle.warg_saved_states.proofs.OneMember.{member_begin, member_end, member_other, member_own, member_unnamed, member_unread}
use Rattle.warg_saved_states.proofs.read_map.next_member.Goals as goal

pub members-init : goal.members-init
members-init g c =
    let none : c.new.result.entries ≡ [] = search rules in
    member_begin (λ m. plain_pairs g.K.SavedName.plain g.V.SavedValue.plain m.entries) (pairs_or_none g.K.SavedName.key_named g.V.SavedValue.reads) c.args.name.now (value c.args.depth) c.args.reader.now
    (Ok c.new.result) (ap (λ es. Ok (plain_pairs g.K.SavedName.plain g.V.SavedValue.plain es)) (sym none))

pub members-smaller-then-eq : goal.members-smaller-then-eq
members-smaller-then-eq g c =
    let l = c.members in
    let k = c.in-Some.other.now in
    let s = c.next_key.new.self in
    let named : read_key l.reader ≡ Some (Some k, s) = grind arith in
    omega (arith, read_key-shorter l.reader (Some k) s named, c.in_ok-found.ensures.shorter)

pub members-preserved-then-eq : goal.members-preserved-then-eq
members-preserved-then-eq g c =
    let l = c.members in
    let k = c.in-Some.other.now in
    let s = c.next_key.new.self in
    let named : read_key l.reader ≡ Some (Some k, s) = grind arith in
    let own : bytes_eq k c.args.name.now ≡ true = grind arith in
    let next = c.in_ok-found.ensures in
    member_own (λ m. plain_pairs g.K.SavedName.plain g.V.SavedValue.plain m.entries) (pairs_or_none g.K.SavedName.key_named g.V.SavedValue.reads) c.args.name.now (value c.args.depth) c.args.reader.now
    l.reader s c.next_map.new.reader l.found c.in_ok-found.found k next.json own named (read_key-shorter l.reader (Some k) s named) next.text next.shorter next.read l.invariant

pub members-preserved : goal.members-preserved
members-preserved g c =
    let l = c.members in
    let k = c.in-Some.other.now in
    let s = c.next_key.new.self in
    let named : read_key l.reader ≡ Some (Some k, s) = grind arith in
    let other : bytes_eq k c.args.name.now ≡ false = grind arith in
    let d = behind_some (converted of_json (value c.args.depth s)) c.pass_value.new.reader c.in_ok-pass_value.ensures.value in
    member_other (λ m. plain_pairs g.K.SavedName.plain g.V.SavedValue.plain m.entries) (pairs_or_none g.K.SavedName.key_named g.V.SavedValue.reads) c.args.name.now (value c.args.depth) c.args.reader.now
    l.reader s c.pass_value.new.reader l.found k d.0 other named (read_key-shorter l.reader (Some k) s named) d.1 c.in_ok-pass_value.ensures.shorter l.invariant

pub returns-in_err-other : goal.returns-in_err-other
returns-in_err-other g c =
    let l = c.members in
    let p = err_from_is_err_and c.from_residual.result c.from_residual.ensures.1 in
    rw (p.1, p.2) (λ same. member_unnamed (λ m. plain_pairs g.K.SavedName.plain g.V.SavedValue.plain m.entries) (pairs_or_none g.K.SavedName.key_named g.V.SavedValue.reads) c.args.name.now (value c.args.depth) c.args.reader.now
    l.reader l.found c.in_err-other.ensures.value l.invariant)

pub returns-in_err-found : goal.returns-in_err-found
returns-in_err-found g c =
    let l = c.members in
    let k = c.in-Some.other.now in
    let s = c.next_key.new.self in
    let named : read_key l.reader ≡ Some (Some k, s) = grind arith in
    let p = err_from_is_err_and c.from_residual-in_err-found.result c.from_residual-in_err-found.ensures.1 in
    rw (p.1, p.2) (λ same. member_unread (λ m. plain_pairs g.K.SavedName.plain g.V.SavedValue.plain m.entries) (pairs_or_none g.K.SavedName.key_named g.V.SavedValue.reads) c.args.name.now (value c.args.depth) c.args.reader.now
    l.reader s l.found k named (c.in_err-found.ensures same) l.invariant)

pub returns-in_err-pass_value : goal.returns-in_err-pass_value
returns-in_err-pass_value g c =
    let l = c.members in
    let k = c.in-Some.other.now in
    let s = c.next_key.new.self in
    let named : read_key l.reader ≡ Some (Some k, s) = grind arith in
    let p = err_from_is_err_and c.from_residual-in_err-pass_value.result c.from_residual-in_err-pass_value.ensures.1 in
    rw (p.1, p.2) (λ same. member_unread (λ m. plain_pairs g.K.SavedName.plain g.V.SavedValue.plain m.entries) (pairs_or_none g.K.SavedName.key_named g.V.SavedValue.reads) c.args.name.now (value c.args.depth) c.args.reader.now
    l.reader s l.found k named (behind_none _ c.in_err-pass_value.ensures.value) l.invariant)

pub returns : goal.returns
returns g c =
    let l = c.members in
    member_end (λ m. plain_pairs g.K.SavedName.plain g.V.SavedValue.plain m.entries) (pairs_or_none g.K.SavedName.key_named g.V.SavedValue.reads) c.args.name.now (value c.args.depth) c.args.reader.now
    l.reader c.next_key.new.self l.found (grind arith) l.invariant

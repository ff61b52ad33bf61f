use Rattle.std.proofs.Common.{◌≡◌, [], length, None, Some, arith, rules}
use Rattle.std.proofs.lemmas.Result.{err_from_is_err_and}
use Rattle.json.specs.Json.{read_key, value}
use Rattle.json.proofs.Grammar.{read_key-shorter}
use Rattle.warg_saved_states.proofs.FoundMembers.{boxed_read, find_begin, find_end, find_one, find_unnamed, find_unread}
use Rattle.warg_saved_states.proofs.found.next_found.Goals as goal

pub members-init : goal.members-init
members-init g c =
    let none : c.new-found.result.entries ≡ [] = search rules in
    find_begin (λ b. g.V.SavedValue.plain b.value) g.V.SavedValue.reads (value c.args.depth) c.args.reader.now c.new-found.result.entries none

pub members-preserved : goal.members-preserved
members-preserved g c =
    let l = c.members in
    let k = c.in-Some.name in
    let s = c.next_key.new.self in
    let named : read_key l.reader ≡ Some (Some k.now, s) = grind arith in
    let next = c.in_ok-read.ensures in
    find_one (λ b. g.V.SavedValue.plain b.value) g.V.SavedValue.reads (value c.args.depth) c.args.reader.now l.reader s c.read_next.new.reader
    l.found.entries c.insert.new.self.entries k c.in_ok-held.held next.json named (read_key-shorter l.reader (Some k.now) s named) next.text next.shorter
    (boxed_read g.V.SavedValue.plain c.in_ok-held.held c.in_ok-read.read (g.V.SavedValue.reads next.json) c.in_ok-held.ensures.ok next.read)
    c.in_ok-insert.ensures.entries l.invariant

pub returns-in_err-name : goal.returns-in_err-name
returns-in_err-name g c =
    let l = c.members in
    let p = err_from_is_err_and c.from_residual.result c.from_residual.ensures.1 in
    rw (p.1, p.2) (λ same. find_unnamed (λ b. g.V.SavedValue.plain b.value) g.V.SavedValue.reads (value c.args.depth) c.args.reader.now l.reader l.found.entries c.in_err-name.ensures.value l.invariant)

pub returns-in_err-read : goal.returns-in_err-read
returns-in_err-read g c =
    let l = c.members in
    let k = c.in-Some.name.now in
    let s = c.next_key.new.self in
    let named : read_key l.reader ≡ Some (Some k, s) = grind arith in
    let p = err_from_is_err_and c.from_residual-in_err-read.result c.from_residual-in_err-read.ensures.1 in
    rw (p.1, p.2) (λ same. find_unread (λ b. g.V.SavedValue.plain b.value) g.V.SavedValue.reads (value c.args.depth) c.args.reader.now l.reader s l.found.entries k named (c.in_err-read.ensures same) l.invariant)

pub returns : goal.returns
returns g c =
    let l = c.members in
    find_end (λ b. g.V.SavedValue.plain b.value) g.V.SavedValue.reads (value c.args.depth) c.args.reader.now l.reader c.next_key.new.self l.found.entries (grind arith) l.invariant

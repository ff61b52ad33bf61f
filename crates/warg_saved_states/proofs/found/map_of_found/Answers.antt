use Rattle.std.proofs.Common.{◌≡◌, [], sym, subst, arith, rules}
use Rattle.warg_saved_states.specs.Found.{AreFound}
use Rattle.warg_saved_states.proofs.FoundMembers.{ascending_found, left_begin, left_end, left_fault, left_put}
use Rattle.warg_saved_states.proofs.NextValues.{told}
use Rattle.warg_saved_states.proofs.found.map_of_found.Goals as goal

pub entries-init : goal.entries-init
entries-init g c = λ ms found.
    let none : c.new-map.result.entries ≡ [] = search rules in
    let is : c.args.found.entries ≡ c.into_iter-name-iterator.result = grind arith in
    left_begin g.K.SavedName.plain g.V.SavedValue.plain (λ b. b.value) g.K.SavedName.name_of g.K.SavedName.key_named g.V.SavedValue.reads c.new-map.result.entries
    c.into_iter-name-iterator.result ms none (subst (λ es. AreFound (λ b. g.V.SavedValue.plain b.value) g.V.SavedValue.reads es ms) is found)

pub entries-preserved : goal.entries-preserved
entries-preserved g c = λ ms found.
    let key = told g.K.SavedName.plain c.from_name.result c.in_ok-key.key (g.K.SavedName.key_named c.in-Some.name.now) (sym c.in_ok-key.ensures) c.from_name.ensures in
    let ascend = ascending_found (λ b. g.V.SavedValue.plain b.value) g.V.SavedValue.reads c.args.found.entries ms c.len-len.ensures.ordered found in
    left_put g.K.SavedName.plain g.V.SavedValue.plain g.K.SavedName.name_of g.K.SavedName.key_named g.V.SavedValue.reads g.K.PartialEq.eq g.met.K.SavedName.one_key g.met.K.SavedName.back
    c.in-Some.name c.in_ok-key.key c.in-Some.read c.in-Ok.key c.in-Ok.value c.next.new.self c.entries.map.entries c.insert.new.self.entries ms ascend
    key c.in-Ok.ensures.0 c.in-Ok.ensures.1 c.in_ok-insert-in-Ok.ensures.entries (rw c.in-Some.ensures.steps at (c.entries.invariant ms found))

pub returns-in-Err-clause-ok : goal.returns-in-Err-clause-ok
returns-in-Err-clause-ok g c = λ ms found.
    let key = told g.K.SavedName.plain c.from_name.result c.in_ok-key.key (g.K.SavedName.key_named c.in-Some.name.now) (sym c.in_ok-key.ensures) c.from_name.ensures in
    left_fault g.K.SavedName.plain g.V.SavedValue.plain g.K.SavedName.name_of g.K.SavedName.key_named g.V.SavedValue.reads
    c.in-Some.name c.in_ok-key.key c.in-Some.read c.in-Err.fault c.next.new.self c.entries.map.entries ms key c.in-Err.ensures (rw c.in-Some.ensures.steps at (c.entries.invariant ms found))

pub returns-clause-ok : goal.returns-clause-ok
returns-clause-ok g c = λ ms found.
    left_end g.K.SavedName.plain g.V.SavedValue.plain (λ b. b.value) g.K.SavedName.name_of g.K.SavedName.key_named g.V.SavedValue.reads c.entries.map.entries ms
    (rw c.in-None.ensures.steps.0 at (c.entries.invariant ms found))

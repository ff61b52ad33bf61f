use Rattle.std.proofs.Common.{◌+◌, length, is_some, if◌then◌else◌, Ok, Err, OnErr}
use Rattle.std.specs.declared.result.Result.{Result}
use mathlib.Core.Path.{sym, ap, subst, ◌∙◌}
use Rattle.std.specs.List.{IsDistinct}
use Rattle.std.specs.Map.{keys_of}
use Rattle.indexmap.proofs.MapLemmas.{Missing-position}
use Rattle.warg_maps.proofs.EntryLemmas.{distinct-inserted, length-inserted, updates-inserted}
use Rattle.warg_maps.proofs.map.NameMap.insert_full.Goals as goal

on-refusal : {X E : Type 0} (r : Result X E) (P : Type 0) → P → OnErr r P
on-refusal (Ok x) P holds = tt
on-refusal (Err e) P holds = holds

pub returns-in_err-place-in-None-clause-absent : goal.returns-in_err-place-in-None-clause-absent
returns-in_err-place-in-None-clause-absent g c = on-refusal c.from_residual.result _ (Missing-position (g.K.PartialEq.eq c.args.key) c.args.self.now.entries (sym c.search-placed.ensures.index ∙ c.in-None.is)).value

pub returns-in-Some-clause-updates : goal.returns-in-Some-clause-updates
returns-in-Some-clause-updates g c = updates-inserted g.met.K.Eq.laws c.args.key c.args.value c.args.self.now.entries _ c.put_over-old.ensures.puts.entries

pub returns-in-Some-clause-len : goal.returns-in-Some-clause-len
returns-in-Some-clause-len g c =
    let es = c.args.self.now.entries in
    ap length c.put_over-old.ensures.puts.entries ∙ length-inserted g.met.K.Eq.laws c.args.key c.args.value es ∙ ap (λ o. length es + (if is_some o then 0 else 1)) (sym c.put_over-old.ensures.puts.before)

pub returns-in-Some-clause-unique : goal.returns-in-Some-clause-unique
returns-in-Some-clause-unique g c =
    subst (λ l. IsDistinct g.K.PartialEq.eq (keys_of l)) (sym c.put_over-old.ensures.puts.entries) (distinct-inserted g.met.K.Eq.laws c.args.key c.args.value c.args.self.now.entries c.search-placed.ensures.unique)

pub returns-in_ok-place-in-None-clause-updates : goal.returns-in_ok-place-in-None-clause-updates
returns-in_ok-place-in-None-clause-updates g c = updates-inserted g.met.K.Eq.laws c.args.key c.args.value c.args.self.now.entries _ c.in_ok-place-in-None.ensures.puts.entries

pub returns-in_ok-place-in-None-clause-len : goal.returns-in_ok-place-in-None-clause-len
returns-in_ok-place-in-None-clause-len g c =
    let es = c.args.self.now.entries in
    ap length c.in_ok-place-in-None.ensures.puts.entries ∙ length-inserted g.met.K.Eq.laws c.args.key c.args.value es ∙ ap (λ o. length es + (if is_some o then 0 else 1)) (sym c.in_ok-place-in-None.ensures.puts.before)

pub returns-in_ok-place-in-None-clause-unique : goal.returns-in_ok-place-in-None-clause-unique
returns-in_ok-place-in-None-clause-unique g c =
    subst (λ l. IsDistinct g.K.PartialEq.eq (keys_of l)) (sym c.in_ok-place-in-None.ensures.puts.entries) (distinct-inserted g.met.K.Eq.laws c.args.key c.args.value c.args.self.now.entries c.search-placed.ensures.unique)

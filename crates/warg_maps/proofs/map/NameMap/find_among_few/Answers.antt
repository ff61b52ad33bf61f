use Rattle.std.proofs.Common.{◌≡◌, ℕ, IfSome, IfNone}
use mathlib.Core.Path.{sym, ap, subst, ◌∙◌}
use Rattle.std.specs.List.{IsDistinct}
use Rattle.std.specs.Map.{keys_of}
use Rattle.warg_maps.specs.Index.{IsAt}
use Rattle.warg_maps.proofs.MapLemmas.{keys-seen, position-at, position-none}
use Rattle.warg_maps.proofs.map.NameMap.find_among_few.Goals as goal

pub returns-in-Some-clause-index : goal.returns-in-Some-clause-index
returns-in-Some-clause-index g c =
    let t = g.Q.Query.equivalent c.args.key in
    let seen = keys-seen c.self.inside.keys.items c.self.inside.values.items _ c.self.invariant.0 (ap (λ v. v.entries) c.self.view_is) in
    let distinct = subst (IsDistinct g.K.PartialEq.eq) seen c.self.invariant.1.distinct in
    let found : IsAt t c.as_slice.result.now c.in-Some.place = subst (λ o. IfSome o (IsAt t c.as_slice.result.now)) c.in-Some.is c.find_among_all.ensures.found in
    let at = subst (λ ks. IsAt t ks c.in-Some.place) (c.as_slice.ensures.value ∙ seen) found in
    sym (position-at t _ g.met.K.Eq.laws (g.met.Q.Query.respects_eq c.args.key) distinct c.in-Some.place at)

pub returns-in-Some-clause-unique : goal.returns-in-Some-clause-unique
returns-in-Some-clause-unique g c =
    subst (IsDistinct g.K.PartialEq.eq) (keys-seen c.self.inside.keys.items c.self.inside.values.items _ c.self.invariant.0 (ap (λ v. v.entries) c.self.view_is)) c.self.invariant.1.distinct

pub returns-in-None-clause-index : goal.returns-in-None-clause-index
returns-in-None-clause-index g c =
    let t = g.Q.Query.equivalent c.args.key in
    let es = c.args.self.now.entries in
    let seen = keys-seen c.self.inside.keys.items c.self.inside.values.items _ c.self.invariant.0 (ap (λ v. v.entries) c.self.view_is) in
    let Missed = (i : ℕ) → IsAt t c.as_slice.result.now i → ⊥ in
    let missed : Missed = subst (λ o. IfNone o Missed) c.in-None.is c.find_among_all.ensures.missed in
    let none : (i : ℕ) → IsAt t (keys_of es) i → ⊥
    = λ i given. missed i (subst (λ l. IsAt t l i) (sym (c.as_slice.ensures.value ∙ seen)) given) in
    sym (position-none t es none)

pub returns-in-None-clause-unique : goal.returns-in-None-clause-unique
returns-in-None-clause-unique g c =
    subst (IsDistinct g.K.PartialEq.eq) (keys-seen c.self.inside.keys.items c.self.inside.values.items _ c.self.invariant.0 (ap (λ v. v.entries) c.self.view_is)) c.self.invariant.1.distinct

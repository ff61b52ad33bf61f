use Rattle.std.specs.Prelude.{◌≡◌}
use mathlib.Core.Path.{sym, subst, ◌∙◌}
use Rattle.std.specs.Option.{option_eq}
use Rattle.indexmap.specs.IndexMap.{get}
use Rattle.std_collections.proofs.HashMapEq.{key_at, own_value}
use Rattle.warg_maps.proofs.map.NameMap.agrees_at.Goals as goal

pub returns-in-Some : goal.returns-in-Some
returns-in-Some g c =
    let eq = g.K.PartialEq.eq in
    let es = c.args.self.now.entries in
    let k = c.entry_at.result.0.now in
    let mine = own_value eq g.met.K.Eq.laws es c.args.place k _ c.entry_at.ensures c.requires.unique c.requires.within in
    let here : c.eq.result ≡ option_eq g.V.PartialEq.eq (get eq c.args.self.now k) (get eq c.args.other.now k)
    = c.eq.ensures ∙ sym (λ j. option_eq g.V.PartialEq.eq (mine j) (sym c.in-Some.ensures.value j)) in
    λ d. subst (λ x. c.eq.result ≡ option_eq g.V.PartialEq.eq (get eq c.args.self.now x) (get eq c.args.other.now x)) (sym (key_at eq g.met.K.Eq.laws es c.args.place k _ c.entry_at.ensures d)) here

pub returns-in-None : goal.returns-in-None
returns-in-None g c =
    let eq = g.K.PartialEq.eq in
    let es = c.args.self.now.entries in
    let k = c.entry_at.result.0.now in
    let mine = own_value eq g.met.K.Eq.laws es c.args.place k _ c.entry_at.ensures c.requires.unique c.requires.within in
    let here = sym (λ j. option_eq g.V.PartialEq.eq (mine j) (sym c.in-None.ensures.value j)) in
    λ d. subst (λ x. Rattle.std.specs.Prelude.false ≡ option_eq g.V.PartialEq.eq (get eq c.args.self.now x) (get eq c.args.other.now x)) (sym (key_at eq g.met.K.Eq.laws es c.args.place k _ c.entry_at.ensures d)) here

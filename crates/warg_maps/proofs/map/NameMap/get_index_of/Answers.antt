use Rattle.std.proofs.Common.{◌≡◌, ap, sym, ◌∙◌, subst, is_some, slice_get, IfSome}
use Rattle.indexmap.specs.IndexMap.{values, get_by}
use Rattle.indexmap.proofs.MapLemmas.{some_index, value_index}
use Rattle.warg_maps.proofs.map.NameMap.get_index_of.Goals as goal

pub returns-clause-found : goal.returns-clause-found
returns-clause-found g c = ap is_some c.find.ensures.index ∙ some_index (g.Q.Query.equivalent c.args.key) c.args.self.now.entries

pub returns-clause-value : goal.returns-clause-value
returns-clause-value g c =
    let t = g.Q.Query.equivalent c.args.key in
    subst (λ r. IfSome r (λ i. slice_get (values c.args.self.now) i ≡ get_by t c.args.self.now)) (sym c.find.ensures.index) (value_index t c.args.self.now.entries)

use Rattle.std.proofs.Common.{refl, sym, ◌∙◌}
use Rattle.std_collections.proofs.Entries.{among_at}
use Rattle.indexmap.proofs.MapLemmas.{Found-position, Missing-position}
use Rattle.warg_maps.proofs.WriteLemmas.{writes-at, writes-nothing}
use Rattle.warg_maps.proofs.map.NameMap.get_mut.Goals as goal

pub returns-in-Some : goal.returns-in-Some
returns-in-Some g c =
    let map = c.args.self.now in
    let test = g.met.Q.Query.respects_eq c.args.key in
    let place = sym c.in-Some.ensures.index in
    let there = c.lend_value.ensures.value in
    let found = (Found-position (g.Q.Query.equivalent c.args.key) map.entries _ place).value ∙ there in (
      (refl, λ w. writes-at g.met.K.Eq.laws _ test map c.get_index_of.ensures.unique w _ place, refl),
      record { writes_back = tt; value = sym found; member = among_at _ _ _ there; unique = c.get_index_of.ensures.unique },
    )

pub returns : goal.returns
returns g c =
    let map = c.args.self.now in
    let test = g.met.Q.Query.respects_eq c.args.key in
    let none = sym c.in_default.ensures.index in (
      (refl, λ w. writes-nothing g.met.K.Eq.laws _ test map c.get_index_of.ensures.unique w none, refl),
      record { writes_back = tt; value = sym (Missing-position (g.Q.Query.equivalent c.args.key) map.entries none).value; member = tt; unique = c.get_index_of.ensures.unique },
    )

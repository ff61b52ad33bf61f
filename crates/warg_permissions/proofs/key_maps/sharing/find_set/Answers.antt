use Rattle.std.proofs.Common.{sym, ap, ◌∙◌}
use Rattle.std.proofs.lemmas.Slice.Eq.{slice_eq-Decides}
use Rattle.warg_permissions.proofs.key_maps.sharing.find_set.Goals as goal

pub returns-then-eq : goal.returns-then-eq
returns-then-eq g c =
    let same = g.P.PartialEq.eq in
    let decides = slice_eq-Decides {E = same} (λ a b. (g.met.P.LogPermission.same_is a b, λ is. ap (same a) (sym is) ∙ g.met.P.Eq.laws.refl a)) c.as_slice.result.now c.args.permissions.now c.eq.result c.eq.ensures in
    sym c.as_set.ensures ∙ sym c.as_slice.ensures.keys ∙ decides.0 c.if-eq.true

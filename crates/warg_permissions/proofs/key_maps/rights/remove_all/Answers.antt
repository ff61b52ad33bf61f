use Rattle.std.proofs.Common.{◌∙◌, sym}
use Rattle.indexmap.specs.IndexSet.{contains}
use Rattle.warg_permissions.proofs.KeyMapsLemmas.RightsLemmas.{taken-more, missing-more}
use Rattle.warg_permissions.proofs.key_maps.rights.remove_all.Goals as goal

pub loop-permission-preserved : goal.loop-permission-preserved
loop-permission-preserved g c =
    let l = c.loop-permission in
    let same = g.P.PartialEq.eq in
    let d = c.permission-item.result in
    let old = contains same c.args.set.now in
    record {
      taken = taken-more same old (contains same l.set) (contains same c.swap_remove.new.self) c.args.permissions.now l.permission-index d c.loop-permission-test.true c.permission-item.is l.invariant.taken c.swap_remove.ensures.updates.0;
      missing = l.invariant.missing
          ∙ missing-more same old (contains same l.set) (contains same c.swap_remove.new.self) c.args.permissions.now l.permission-index d c.loop-permission-test.true c.permission-item.is l.invariant.taken (sym c.swap_remove.ensures.found ∙ c.if-not-swap_remove.false);
    }

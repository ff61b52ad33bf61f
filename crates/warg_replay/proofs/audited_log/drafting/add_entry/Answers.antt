use Rattle.std.proofs.Common.{◌++◌}
use Rattle.warg_replay.specs.AuditedLog.GrantIndexes.{number_over}
use Rattle.warg_replay.proofs.AuditedLogLemmas.GrantIndexLemmas.{AreApplied-next}
use Rattle.warg_replay.proofs.audited_log.drafting.add_entry.Goals as goal

pub events-preserved : goal.events-preserved
events-preserved g c =
    let same = g.P.PartialEq.eq in
    let base = c.args.grant_index.now in
    let was = c.args.draft.now in
    let mid = c.events.draft in
    let new = c.add_event.new.draft in
    record {
      applied = AreApplied-next same c.requires c.args.place c.args.signer.now c.args.events.now (base.gifts.items ++ was.gifts.items) (number_over same base.holdings was.holdings) (base.gifts.items ++ mid.gifts.items) (base.gifts.items ++ new.gifts.items) (number_over same base.holdings mid.holdings) (number_over same base.holdings new.holdings) c.events.i c.index-events-i.result c.in_ok-numbers.numbers.items c.index.result.now c.events-test.true c.index-events-i.is c.in_ok-numbers.ensures c.index.ensures c.events.invariant.applied c.in_ok-add_event.ensures.added;
      unique = λ u. c.in_ok-add_event.ensures.unique (c.events.invariant.unique u);
    }

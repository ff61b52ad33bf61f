use Rattle.std.proofs.Common.{◌++◌, take}
use Rattle.std.specs.Str.{bytes_eq}
use Rattle.indexmap.specs.IndexMap.{IsUnique}
use Rattle.warg_replay.specs.AuditedLog.GrantIndexes.{number_over, AreApplied}
use Rattle.warg_replay.proofs.audited_log.drafting.add_entry.Given as goal

-- the events so far are applied
abbrev pub invariant-events : goal.invariant-events
invariant-events g l = record {
  applied : AreApplied g.P.PartialEq.eq l.fn.place l.signer (take l.i l.events) (l.grant_index.gifts.items ++ l.fn.draft.gifts.items) (number_over g.P.PartialEq.eq l.grant_index.holdings l.fn.draft.holdings) (l.grant_index.gifts.items ++ l.draft.gifts.items) (number_over g.P.PartialEq.eq l.grant_index.holdings l.draft.holdings);
  unique : IsUnique bytes_eq l.fn.draft.holdings → IsUnique bytes_eq l.draft.holdings;
}

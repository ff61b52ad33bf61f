use Rattle.std.proofs.Common.{◌≡◌, take, true, List, ◌++◌}
use Rattle.warg_replay.specs.AuditedLog.GrantIndexes.{number_in}
use Rattle.warg_replay.specs.declared.audited_log.grant_index.Holding.{Holding}
use Rattle.warg_replay.proofs.audited_log.grant_index.set_number.Given as goal

-- none so far is of the permission, and nothing is changed
abbrev pub invariant-loop-i : goal.invariant-loop-i
invariant-loop-i g l = record {
  same : l.holdings.items ≡ l.fn.holdings.items;
  none : (p : g.row.P.Denot) → g.P.PartialEq.eq l.permission p ≡ true → (hs : List (Holding g.row.P.Denot)) → number_in g.P.PartialEq.eq (take l.i l.fn.holdings.items ++ hs) p ≡ number_in g.P.PartialEq.eq hs p;
}

use Rattle.std.proofs.Common.{◌≡◌, drop}
use Rattle.warg_replay.specs.AuditedLog.GrantIndexes.{number_in}
use Rattle.warg_replay.proofs.audited_log.grant_index.find_number.Given as goal

-- none so far is of the permission
abbrev pub invariant-loop-holding : goal.invariant-loop-holding
invariant-loop-holding g l = number_in g.P.PartialEq.eq l.holdings l.permission ≡ number_in g.P.PartialEq.eq (drop l.holding-index l.holdings) l.permission

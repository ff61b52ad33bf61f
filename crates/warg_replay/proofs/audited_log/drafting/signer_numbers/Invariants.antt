use Rattle.std.proofs.Common.{◌≡◌, map, take}
use Rattle.warg_replay.specs.AuditedLog.GrantIndexes.{number_over}
use Rattle.warg_replay.proofs.audited_log.drafting.signer_numbers.Given as goal

abbrev pub invariant-loop-event : goal.invariant-loop-event
invariant-loop-event g l = l.numbers.items ≡ map (λ x. number_over g.P.PartialEq.eq l.holdings l.changes l.signer x.1) (take l.event-index l.events)

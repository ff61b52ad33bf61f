use Rattle.std.proofs.Common.{◌≡◌, ◌++◌, ◌<◌, List, length}
use Rattle.warg_replay.specs.declared.audited_log.link.Link.{Link}
use Rattle.warg_replay.specs.AuditedLog.GrantIndexes.{IsTrail}
use Rattle.warg_replay.proofs.audited_log.drafting.trail_of.Given as goal

-- a trail goes on from here, and each trail from the start is what was passed and one from here
abbrev pub invariant-back : goal.invariant-back
invariant-back l = record {
  within : l.at < length l.gifts;
  goes_on : (ls : List Link) × IsTrail l.gifts l.at ls;
  passed : (ls : List Link) → IsTrail l.gifts l.fn.number ls → (rest : List Link) × IsTrail l.gifts l.at rest × (ls ≡ l.links.items ++ rest);
}

abbrev pub decreases-back : goal.decreases-back
decreases-back l = l.at

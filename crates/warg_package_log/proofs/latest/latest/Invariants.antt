use Rattle.std.proofs.Common.{take}
use Rattle.std.specs.Option.{option_copied}
use Rattle.warg_package_log.specs.Latest.{IsGreatest, is_candidate, release_cmp}
use Rattle.warg_package_log.proofs.latest.latest.Given as goal

abbrev pub invariant-loop-release : goal.invariant-loop-release
invariant-loop-release l = IsGreatest (is_candidate l.req.comparators.items) release_cmp (take l.release-index l.releases) (option_copied l.best)

use Rattle.std.proofs.Common.{sym}
use Rattle.warg_package_log.proofs.SavedReleases.{restored-release_map, values-views}
use Rattle.warg_package_log.proofs.release_map.ReleaseMap.restore.Goals as goal

pub invariant_of-result : goal.invariant_of-result
invariant_of-result c = restored-release_map c.args.releases.entries c.iter-entries.ensures.unique c.requires

pub returns : goal.returns
returns c = sym (values-views c.args.releases.entries)

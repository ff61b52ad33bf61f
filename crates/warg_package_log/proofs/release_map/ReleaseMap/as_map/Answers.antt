use Rattle.std.proofs.Common.{ap, ◌∙◌}
use Rattle.warg_package_log.specs.SavedState.{named_releases}
use Rattle.warg_package_log.proofs.SavedReleases.{named-pairs}
use Rattle.warg_package_log.proofs.release_map.ReleaseMap.as_map.Goals as goal

pub returns : goal.returns
returns c = named-pairs c.self.inside.map.entries c.self.invariant.under ∙ ap named_releases c.self.view_is

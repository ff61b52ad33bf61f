use Rattle.std.proofs.Common.{◌≡◌}
use Rattle.std.specs.List.{list_any}
use Rattle.semver.specs.Identifiers.{parts_of}
use Rattle.warg_crypto.specs.Json.Pairs.{plain_pairs}
use Rattle.warg_package_log.specs.ReleaseMap.{release_view}
use Rattle.warg_package_log.specs.SavedState.{is_misfiled}
use Rattle.warg_package_log.proofs.state.saved.has_misfiled.Given as goal

abbrev pub invariant-releases : goal.invariant-releases
invariant-releases l = list_any is_misfiled (plain_pairs parts_of release_view l.version-iterator) ≡ list_any is_misfiled (plain_pairs parts_of release_view l.fn.releases.entries)

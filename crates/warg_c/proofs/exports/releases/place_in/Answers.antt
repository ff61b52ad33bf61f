use Rattle.std.proofs.Common.{◌∙◌, ap, sym}
use Rattle.std.specs.List.{slice_get}
use Rattle.warg_package_log.specs.ReleaseMap.{release_view}
use Rattle.warg_c.proofs.Places.{nth-is}
use Rattle.warg_c.proofs.exports.releases.place_in.Goals as goal

pub returns : goal.returns
returns c = ap (λ l. slice_get l c.args.place) (sym c.releases.ensures.list) ∙ nth-is release_view c.releases.result c.args.place c.nth.result c.nth.new.self c.nth.ensures.ran

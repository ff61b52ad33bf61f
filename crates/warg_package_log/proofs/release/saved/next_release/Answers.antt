use Rattle.serde_json.specs.View.{view}
use Rattle.warg_saved_states.proofs.NextValues.{asked_next}
use Rattle.warg_package_log.specs.ReleaseJson.{release_in}
use Rattle.warg_package_log.specs.ReleaseMap.{release_view}
use Rattle.warg_package_log.proofs.AskedRelease.{release_asked, release_names}
use Rattle.warg_package_log.proofs.release.saved.next_release.Goals as goal

pub returns-in-Ok : goal.returns-in-Ok
returns-in-Ok c =
    asked_next release_view release_in release_names 2 release_asked c.args.depth c.args.reader.now c.read_value.new.reader (view c.in-Ok.json)
    c.from_value.result c.unless_no_memory.result c.in-Ok.ensures.ok c.in-Ok.ensures.shorter c.unless_no_memory.ensures c.from_value.ensures

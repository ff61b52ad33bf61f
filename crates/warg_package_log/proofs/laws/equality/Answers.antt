use Rattle.warg_package_log.specs.ReleaseMap.{release_view}
use Rattle.warg_package_log.specs.SameReleaseLaws.{state_decides, release_decides}
use Rattle.warg_package_log.specs.StateLaws.{states_equal}
use Rattle.warg_package_log.proofs.laws.equality.Goals as goal

pub returns-clause-release_states : goal.returns-clause-release_states
returns-clause-release_states c = λ a b. state_decides a b

pub returns-clause-releases : goal.returns-clause-releases
returns-clause-releases c = λ a b. release_decides (release_view a) (release_view b)

pub returns-clause-states : goal.returns-clause-states
returns-clause-states c = λ s t. states_equal s t

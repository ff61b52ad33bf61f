use Rattle.warg_permissions.proofs.KeyMapsLemmas.AuthorityDataLemmas.{pairs-cloned}
use Rattle.warg_permissions.proofs.key_maps.key_table.KeyTable.try_clone.Goals as goal

pub returns-clause-permissions : goal.returns-clause-permissions
returns-clause-permissions g c = pairs-cloned _ _ c.in_ok-clone.ensures.cases

pub returns-clause-keys : goal.returns-clause-keys
returns-clause-keys g c = pairs-cloned _ _ c.in_ok-clone-2.ensures.cases

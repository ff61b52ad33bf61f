use Rattle.warg_permissions.specs.KeyMaps.AuthorityData.{authority_data}
use Rattle.warg_permissions.proofs.KeyMapsLemmas.KeyLemmas.{listed}
use Rattle.warg_permissions.proofs.key_maps.key_table.KeyTable.listed_keys.Goals as goal

pub returns-clause-keys : goal.returns-clause-keys
returns-clause-keys g c = λ algorithm.
    rw (c.iter.ensures.rest) (listed g.P.PartialEq.eq (authority_data algorithm c.args.self.now.permissions c.args.self.now.keys) c.iter.ensures.unique)

use Rattle.warg_permissions.specs.KeyMaps.AuthorityData.{access_view}
use Rattle.warg_permissions.specs.KeyMaps.Keys.{AreKeysOf}
use Rattle.std.proofs.Common.{subst}
use Rattle.warg_log.proofs.authority.Authority.listed_keys.Goals as goal

pub returns-clause-keys : goal.returns-clause-keys
returns-clause-keys g c =
    let same = g.P.PartialEq.eq in
    subst (λ held. AreKeysOf same (access_view same held) c.listed_keys.result) c.self.view_is (c.listed_keys.ensures.keys c.self.inside.algorithm)

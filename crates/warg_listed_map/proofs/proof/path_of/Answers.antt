use Rattle.std.proofs.Common.{ap, ◌∙◌}
use Rattle.std.proofs.lemmas.Result.{IfOk-weaker}
use Rattle.sha2.specs.Sha256.{sha256}
use Rattle.warg_merkle.specs.SparseMap.Maps.{map_path}
use Rattle.warg_merkle.proofs.SparseTreeLemmas.Ways.{whole_way}
use Rattle.warg_listed_map.proofs.ListedMapLemmas.{by_ways}
use Rattle.warg_listed_map.proofs.proof.path_of.Goals as goal

pub returns-clause-long : goal.returns-clause-long
returns-clause-long c = c.path_at.ensures.long

pub returns-clause-path : goal.returns-clause-path
returns-clause-path c = λ m of.
    IfOk-weaker c.path_at.result _ _ (λ path is. is ∙ ap (map_path sha256 m) (whole_way c.args.key.now)) (c.path_at.ensures.path m (by_ways c.args.entries.now m of))

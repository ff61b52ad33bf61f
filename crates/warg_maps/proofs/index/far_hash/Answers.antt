use Rattle.std.specs.List.{fold}
use Rattle.std.specs.Hash.DefaultHasher as sip
use mathlib.Core.Path.{ap, ◌∙◌}
use Rattle.warg_maps.specs.FarHash.{far_hash}
use Rattle.warg_maps.proofs.index.far_hash.Goals as goal

pub returns : goal.returns
unfolding far_hash
returns g c = c.finish.ensures ∙ ap sip.finish (c.hash.ensures ∙ ap (λ s. fold sip.write s (g.Q.Hash.hash_input c.args.key.now)) c.new-hasher.ensures)

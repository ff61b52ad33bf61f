use Rattle.std.specs.Prelude.{◌/◌, ◌%◌, ◌^◌}
use mathlib.Core.Path.{ap, ◌∙◌}
use lib.Bits.{bit_xor}
use Rattle.std_collections.specs.Layout.Hashing.{table_hash}
use Rattle.warg_maps.proofs.map.near_hash.Goals as goal

pub returns : goal.returns
unfolding table_hash
returns g c = c.low_half.ensures ∙ ap (λ n. bit_xor n (n / 2 ^ 32) % 2 ^ 32) c.hash_one-whole.ensures

use Rattle.std.specs.Prelude.{◌<◌, ℕ, slice_index_or}
use Rattle.warg_maps.specs.FarHash.{far_hash}
use Rattle.warg_maps.specs.Index.{HasEntry}
use Rattle.warg_maps.proofs.index.Index.refill.Given as goal

abbrev pub invariant-loop-place : goal.invariant-loop-place
invariant-loop-place g l =
    (i : ℕ) (d : g.row.K.Denot) → i < l.place → let k = slice_index_or l.keys i d in HasEntry g.K.Ord.cmp l.self (slice_index_or l.hashes i 0) (far_hash (g.K.Hash.hash_input k)) k i

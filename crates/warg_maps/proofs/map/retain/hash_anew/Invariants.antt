use Rattle.std.specs.Prelude.{◌≡◌, ◌≤◌, length, map, take}
use Rattle.std.specs.Vec.{vec_len, vec_capacity}
use Rattle.indexmap.specs.Layout.{table_hash}
use Rattle.warg_maps.proofs.map.retain.hash_anew.Given as goal

abbrev pub invariant-loop-place : goal.invariant-loop-place
invariant-loop-place g l =
    (l.hashes.items ≡ map (λ k. table_hash g.S.BuildHasher g.S.Hasher.Hasher l.hash_builder (g.K.Hash.hash_input k)) (take l.place l.keys))
    × (vec_len l.hashes ≡ l.place) × (length l.keys ≤ vec_capacity l.hashes) × (vec_capacity l.hashes ≡ vec_capacity l.fn.hashes)

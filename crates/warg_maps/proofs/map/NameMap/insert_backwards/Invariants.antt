use Rattle.std.proofs.Common.{◌≡◌, ◌+◌, ◌≤◌, length, reverse, zip}
use Rattle.indexmap.specs.IndexMap.{hasher_of, insert_all, spare}
use Rattle.warg_maps.proofs.map.NameMap.insert_backwards.Given as goal

-- the pairs that are left, the last first, are still to go in
abbrev pub invariant-loop-keys : goal.invariant-loop-keys
invariant-loop-keys g l =
    (insert_all g.K.PartialEq.eq l.self.entries (reverse (zip l.keys.items l.values.items)) ≡ insert_all g.K.PartialEq.eq l.fn.self.entries (reverse (zip l.fn.keys.items l.fn.values.items)))
    × (length l.values.items ≡ length l.keys.items) × (length l.keys.items ≤ spare l.self)
    × (spare l.fn.self + length l.keys.items ≤ spare l.self + length l.fn.keys.items) × (hasher_of l.self ≡ hasher_of l.fn.self)
    × (l.keys.cap ≡ l.fn.keys.cap) × (l.values.cap ≡ l.fn.values.cap)

abbrev pub decreases-loop-keys : goal.decreases-loop-keys
decreases-loop-keys g l = length l.keys.items

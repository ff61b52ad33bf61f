use Rattle.std.proofs.Common.{length, ◌-◌, ◌≡◌, ◌≤◌, true, false}
use Rattle.std.specs.List.{AllWithin}
use Rattle.std.specs.List.Sorted.{IsPermutation}
use Rattle.warg_merkle.specs.SparseMap.Maps.{is_right}
use Rattle.warg_listed_map.proofs.parting.part.Given as goal

abbrev pub invariant-loop-i : goal.invariant-loop-i
invariant-loop-i l =
    (l.count ≤ l.i) × (l.i ≤ length l.entries) × (length l.entries ≡ length l.initial.entries)
    × IsPermutation l.initial.entries l.entries
    × AllWithin (λ e. is_right e.key l.depth ≡ false) l.entries 0 l.count
    × AllWithin (λ e. is_right e.key l.depth ≡ true) l.entries l.count l.i

abbrev pub decreases-loop-i : goal.decreases-loop-i
decreases-loop-i l = length l.entries - l.i

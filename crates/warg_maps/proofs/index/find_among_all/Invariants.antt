use Rattle.std.specs.Prelude.{◌<◌, ℕ}
use Rattle.warg_maps.specs.Index.{IsAt}
use Rattle.warg_maps.proofs.index.find_among_all.Given as goal

abbrev pub invariant-loop-at : goal.invariant-loop-at
invariant-loop-at g l = (k : ℕ) → k < l.at → IsAt (g.Q.Query.equivalent l.key) l.keys k → ⊥

-- Points in Jacobian coordinates.
use Rattle.std.specs.Prelude.{◌≡◌, ◌≢◌, ℕ, ◌<◌}
use Rattle.warg_curve.specs.Field.{prime, times}
use Rattle.warg_curve.specs.Curve.{Point, infinity, at}

-- three numbers of the field that stand for a point: x / z ^ 2 and y / z ^ 3, or z 0 for infinity
abbrev pub StandsFor : ℕ → ℕ → ℕ → Point → Type 0
StandsFor x y z infinity = z ≡ 0
StandsFor x y z (at u v) =
    (z ≢ 0) × (u < prime) × (v < prime) ×
    (x ≡ times u (times z z)) × (y ≡ times v (times z (times z z)))

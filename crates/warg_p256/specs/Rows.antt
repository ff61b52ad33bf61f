-- What the points of the code stand for, and tables of them.
use Rattle.std.specs.Prelude.{ℕ, suc, ⊤, List, [], ◌∷◌}
use Rattle.warg_curve.specs.Curve.{Point, at}
use Rattle.warg_curve.specs.Group.{multiple}
use Rattle.warg_p256.specs.Elements.{number}
use Rattle.warg_p256.specs.Coordinates.{StandsFor}
use Rattle.warg_p256.specs.declared.point.Affine.{Affine}
use Rattle.warg_p256.specs.declared.point.Jacobian.{Jacobian}

-- the point with these coordinates
abbrev pub point_of : Affine → Point
point_of q = at (number q.x.words) (number q.y.words)

-- the coordinates stand for the point
abbrev pub Stands : Jacobian → Point → Type 0
Stands j p = StandsFor (number j.x.words) (number j.y.words) (number j.z.words) p

-- each stands for one multiple more of the point, from n times on
abbrev pub AreMultiples : Point → ℕ → List Jacobian → Type 0
AreMultiples p n [] = ⊤
AreMultiples p n (j ∷ js) = Stands j (multiple n p) × AreMultiples p (suc n) js

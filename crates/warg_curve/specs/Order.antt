-- The order of the group of the curve P-256 (SEC 2, 2.4.2).
use Rattle.std.specs.Prelude.{ℕ}

-- how many points the multiples of the base point are
unfoldable pub order : ℕ
order = 0xffffffff00000000ffffffffffffffffbce6faada7179e84f3b9cac2fc632551

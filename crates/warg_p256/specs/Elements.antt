-- Numbers of the field in Montgomery's form.
use Rattle.std.specs.Prelude.{ℕ, ◌*◌, ◌%◌}
use Rattle.warg_modular.specs.declared.words.Words.{Words}
use Rattle.warg_modular.specs.Value.{value}
use Rattle.warg_curve.specs.Field.{prime}

-- 1 / 2 ^ 256 modulo the prime
unfoldable pub shrink : ℕ
shrink = 0xfffffffe00000003fffffffd0000000200000001fffffffe0000000300000000

-- the number of the field that Montgomery's form holds
unfoldable pub number : Words → ℕ
number w = (value w * shrink) % prime

-- Numbers modulo the order in Montgomery's form.
use Rattle.std.specs.Prelude.{ℕ, ◌*◌, ◌%◌}
use Rattle.warg_modular.specs.declared.words.Words.{Words}
use Rattle.warg_modular.specs.Value.{value}
use Rattle.warg_curve.specs.Order.{order}

-- 1 / 2 ^ 256 modulo the order
unfoldable pub order_shrink : ℕ
order_shrink = 0x60d066334905c1e907f8b6041e607725badef3e243566fafce1bc8f79c197c79

-- the number modulo the order that Montgomery's form holds
unfoldable pub scalar : Words → ℕ
scalar w = (value w * order_shrink) % order

-- Numbers in words of 64 bits, the lowest first, and the step of a Montgomery product.
use Rattle.std.specs.Prelude.{◌≡◌, ℕ, ◌+◌, ◌*◌, ◌^◌, ◌<◌}
use Rattle.warg_modular.specs.declared.words.Words.{Words}
use Rattle.warg_modular.specs.declared.montgomery.Wide.{Wide}

-- the number that four words hold
unfoldable pub value : Words → ℕ
value w = w.l0 + w.l1 * 2 ^ 64 + w.l2 * 2 ^ 128 + w.l3 * 2 ^ 192

-- the number that eight words hold
unfoldable pub wide : Wide → ℕ
wide w = value w.low + value w.high * 2 ^ 256

-- the squares of the four words, each where it stands in the square of the number
unfoldable pub squares : Words → ℕ
squares w = w.l0 * w.l0 + w.l1 * w.l1 * 2 ^ 128 + w.l2 * w.l2 * 2 ^ 256 + w.l3 * w.l3 * 2 ^ 384

-- r is (t + m * p) / 2 ^ 64 for some m of a word
pub record IsRound (t p r : ℕ) : Type 0 where
  pub factor : ℕ
  pub fits : factor < 2 ^ 64
  pub total : r * 2 ^ 64 ≡ t + factor * p

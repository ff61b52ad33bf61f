use Rattle.std.proofs.Common.{◌≡◌, ℕ, List, length, subst}
use Rattle.hex.specs.Hex.{IsBytes}
use Rattle.warg_log_records.proofs.laws.whole.hash_is_whole.Goals as goal

pub returns : goal.returns
returns c = record {
  size = subst (λ (xs : List ℕ). length xs ≡ 32) c.bytes.ensures.value c.bytes.ensures.len;
  bytes = subst (λ (xs : List ℕ). IsBytes xs) c.bytes.ensures.value c.byte_range.ensures;
}

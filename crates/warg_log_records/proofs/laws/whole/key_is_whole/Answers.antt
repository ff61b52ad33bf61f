use Rattle.std.proofs.Common.{ℕ, List, subst}
use Rattle.hex.specs.Hex.{IsBytes}
use Rattle.warg_log_records.proofs.laws.whole.key_is_whole.Goals as goal

pub returns : goal.returns
returns c = record {
  name = c.algorithm-name.ensures.named;
  bytes = subst (λ (xs : List ℕ). IsBytes xs) c.bytes.ensures.value c.byte_range.ensures;
}

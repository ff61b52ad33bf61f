use Rattle.std.proofs.Common.{◌∙◌, subst}
use Rattle.std.proofs.lemmas.Result.{IfOk-weaker}
use Rattle.hex.specs.Hex.{IsBytes}
use Rattle.tool_checkpoints.proofs.leaf.leaf_line.Goals as goal

pub returns : goal.returns
returns c =
    let same = c.as_slice.ensures.value ∙ c.in_ok-entry.ensures in
    let bytes = subst (λ xs. IsBytes xs) same c.hex_line.ensures.are_bytes in
    IfOk-weaker c.hex_line.result _ _ (λ answer is. record { is = rw same at is; are_bytes = bytes }) c.hex_line.ensures.is

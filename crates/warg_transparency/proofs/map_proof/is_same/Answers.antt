use Rattle.std.proofs.Common.{◌≡◌, ◌∙◌}
use Rattle.warg_transparency.proofs.SameProofs.{same_forms}
use Rattle.warg_transparency.proofs.map_proof.is_same.Goals as goal

pub returns : goal.returns
returns c = c.eq.ensures ∙
    same_forms c.as_bytes.result.now c.as_bytes-2.result.now c.args.short.now c.args.other.now
    c.as_bytes.ensures.value c.as_bytes-2.ensures.value c.as_bytes.ensures.reads_back c.as_bytes-2.ensures.reads_back

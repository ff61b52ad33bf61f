use Rattle.std.proofs.Common.{◌∙◌}
use Rattle.warg_saved_states.proofs.MapsBack.{on_ok_then}
use Rattle.warg_saved_states.proofs.Optional.{same_option}
use Rattle.warg_log.proofs.head.member.put_head_text.Goals as goal

pub returns-clause-back : goal.returns-clause-back
returns-clause-back c = on_ok_then c.put_optional.result (λ back h at. back h (same_option c.args.head.now ∙ at) tt) c.put_optional.ensures.back

use Rattle.std.proofs.Common.{sym, ◌∙◌}
use Rattle.warg_c.specs.LogNames.{IsNoLeaf}
use Rattle.warg_c.specs.ProofAnswers.{AreTwoHashes}
use Rattle.warg_c.proofs.ProofOutcomes.{is_bad}
use Rattle.warg_c.proofs.exports.registries.warg_registry_push.Goals as goal

pub returns-in-Err-clause-bad_argument : goal.returns-in-Err-clause-bad_argument
returns-in-Err-clause-bad_argument c = λ same.
    is_bad (AreTwoHashes c.args.log_id.now c.args.record_id.now) (IsNoLeaf c.args.log_id.now c.args.record_id.now) c.in-Err.call_error
    c.in-Err.ensures.err (sym c.status-in-Err.ensures.code ∙ same)

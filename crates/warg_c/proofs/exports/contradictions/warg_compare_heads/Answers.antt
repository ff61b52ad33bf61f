use Rattle.std.proofs.Common.{sym, ◌∙◌}
use Rattle.warg_c.proofs.ProofOutcomes.{bad_outcome}
use Rattle.warg_c.proofs.exports.contradictions.warg_compare_heads.Goals as goal

pub returns-clause-bad_argument : goal.returns-clause-bad_argument
returns-clause-bad_argument c = λ same. bad_outcome _ _ c.heads_compared.result c.heads_compared.ensures.err (sym c.finish_value.ensures.code ∙ same)

use Rattle.warg_replay.proofs.AuditedLogLemmas.ComparisonLemmas.{some_comparison, one_comparison}
use Rattle.warg_replay.proofs.audited_log.laws.one_comparison.Goals as goal

pub returns-clause-some : goal.returns-clause-some
returns-clause-some g c = λ b d es fs left right. some_comparison g.L.Validator.kind g.met.L.Validator.laws b d es fs left right

pub returns-clause-only : goal.returns-clause-only
returns-clause-only g c = λ left right ls rs x y a b. one_comparison left right ls rs x y a b

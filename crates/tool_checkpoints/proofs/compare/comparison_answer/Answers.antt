use Rattle.std.proofs.Common.{inl}
use Rattle.warg_audit.proofs.FilesLemmas.AnswerLemmas.{Answers-to}
use Rattle.tool_checkpoints.specs.Comparisons.{AreCompared, IsComparison}
use Rattle.tool_checkpoints.specs.Proofs.{IsLogProof}
use Rattle.tool_checkpoints.specs.Words.{IsByFile}
use Rattle.tool_checkpoints.proofs.compare.comparison_answer.Goals as goal

pub returns-then-old-new-clause-answered : goal.returns-then-old-new-clause-answered
returns-then-old-new-clause-answered g c =
    let files = g.S.Store.files c.args.store.now in
    let old = c.args.old.now in
    let new = c.args.new.now in
    Answers-to (IsByFile files c.args.proof.now IsLogProof (AreCompared old new)) (IsComparison files c.args.proof.now old new)
    (λ printed is. inl (c.if-old-new.true, is)) c.proved_answer.result c.proved_answer.ensures.answered

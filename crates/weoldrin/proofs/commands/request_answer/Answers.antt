use Rattle.std.proofs.Common.{refl}
use Rattle.weoldrin.proofs.commands.request_answer.Goals as goal

pub returns-in-Id-clause-answered : goal.returns-in-Id-clause-answered
returns-in-Id-clause-answered g c = rw c.in-Id.is c.id_of_file.ensures.answered

pub returns-in-Id-clause-files : goal.returns-in-Id-clause-files
returns-in-Id-clause-files g c = rw c.in-Id.is c.id_of_file.ensures.kept

pub returns-in-Audit-clause-answered : goal.returns-in-Audit-clause-answered
returns-in-Audit-clause-answered g c = rw c.in-Audit.is c.of_file.ensures.answered

pub returns-in-Audit-clause-files : goal.returns-in-Audit-clause-files
returns-in-Audit-clause-files g c = rw c.in-Audit.is c.of_file.ensures.kept

pub returns-in-Audits-clause-answered : goal.returns-in-Audits-clause-answered
returns-in-Audits-clause-answered g c = rw c.in-Audits.is (rw c.as_slice.ensures.value at c.audits_answer.ensures.answered)

pub returns-in-Audits-clause-files : goal.returns-in-Audits-clause-files
returns-in-Audits-clause-files g c = rw c.in-Audits.is c.audits_answer.ensures.kept

pub returns-in-Show-clause-answered : goal.returns-in-Show-clause-answered
returns-in-Show-clause-answered g c = rw c.in-Show.is c.shown_answer.ensures.answered

pub returns-in-Show-clause-files : goal.returns-in-Show-clause-files
returns-in-Show-clause-files g c = rw c.in-Show.is c.shown_answer.ensures.kept

pub returns-in-Latest-clause-answered : goal.returns-in-Latest-clause-answered
returns-in-Latest-clause-answered g c = rw c.in-Latest.is c.latest_of_file.ensures.answered

pub returns-in-Latest-clause-files : goal.returns-in-Latest-clause-files
returns-in-Latest-clause-files g c = rw c.in-Latest.is c.latest_of_file.ensures.kept

pub returns-in-LogId-clause-answered : goal.returns-in-LogId-clause-answered
returns-in-LogId-clause-answered g c = rw c.in-LogId.is c.log_id_answer.ensures

pub returns-in-LogId-clause-files : goal.returns-in-LogId-clause-files
returns-in-LogId-clause-files g c = rw c.in-LogId.is refl

pub returns-in-Leaf-clause-answered : goal.returns-in-Leaf-clause-answered
returns-in-Leaf-clause-answered g c = rw c.in-Leaf.is c.leaf_answer.ensures

pub returns-in-Leaf-clause-files : goal.returns-in-Leaf-clause-files
returns-in-Leaf-clause-files g c = rw c.in-Leaf.is refl

pub returns-in-Prove-clause-answered : goal.returns-in-Prove-clause-answered
returns-in-Prove-clause-answered g c = rw c.in-Prove.is c.prove_answer.ensures.answered

pub returns-in-Prove-clause-files : goal.returns-in-Prove-clause-files
returns-in-Prove-clause-files g c = rw c.in-Prove.is c.prove_answer.ensures.kept

pub returns-in-Verify-clause-answered : goal.returns-in-Verify-clause-answered
returns-in-Verify-clause-answered g c = rw c.in-Verify.is c.verify_answer.ensures.answered

pub returns-in-Verify-clause-files : goal.returns-in-Verify-clause-files
returns-in-Verify-clause-files g c = rw c.in-Verify.is c.verify_answer.ensures.kept

pub returns-in-Compare-clause-answered : goal.returns-in-Compare-clause-answered
returns-in-Compare-clause-answered g c = rw c.in-Compare.is c.compare_answer.ensures.answered

pub returns-in-Compare-clause-files : goal.returns-in-Compare-clause-files
returns-in-Compare-clause-files g c = rw c.in-Compare.is c.compare_answer.ensures.kept

pub returns-in-Checkpoint-clause-answered : goal.returns-in-Checkpoint-clause-answered
returns-in-Checkpoint-clause-answered g c = rw c.in-Checkpoint.is c.checkpoint_answer.ensures.answered

pub returns-in-Checkpoint-clause-files : goal.returns-in-Checkpoint-clause-files
returns-in-Checkpoint-clause-files g c = rw c.in-Checkpoint.is c.checkpoint_answer.ensures.kept

pub returns-in-Ask-clause-answered : goal.returns-in-Ask-clause-answered
returns-in-Ask-clause-answered g c = rw c.in-Ask.is c.asked_answer.ensures.answered

pub returns-in-Ask-clause-files : goal.returns-in-Ask-clause-files
returns-in-Ask-clause-files g c = rw c.in-Ask.is c.asked_answer.ensures.kept

pub returns-in-Do-clause-answered : goal.returns-in-Do-clause-answered
returns-in-Do-clause-answered g c = rw c.in-Do.is c.done_answer.ensures.answered

pub returns-in-Do-clause-files : goal.returns-in-Do-clause-files
returns-in-Do-clause-files g c = rw c.in-Do.is c.done_answer.ensures.files

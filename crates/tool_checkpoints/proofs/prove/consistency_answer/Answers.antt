use Rattle.std.proofs.Common.{sym}
use Rattle.warg_audit.specs.Files.Answers.{output_data}
use Rattle.tool_checkpoints.specs.RegistryLeaves.{entries_of}
use Rattle.tool_checkpoints.proofs.ProofTextLemmas.{both_ok, consistency_text}
use Rattle.tool_checkpoints.proofs.prove.consistency_answer.Goals as goal

pub returns : goal.returns
returns c = λ leaves trees.
    both_ok _ _ _ c.log_proof_answer.result c.log_proof_answer.ensures.is c.log_proof_answer.ensures.reads_back
    (λ answer is reads.
    consistency_text leaves _ _ trees.registry c.in_ok-proof.proof (output_data answer) is reads c.args.first c.in_ok-proof.ensures.some
    (c.in_ok-proof.ensures.path (entries_of leaves) (sym trees.registry.log)) (c.in_ok-proof.ensures.verifies (entries_of leaves) (sym trees.registry.log)))

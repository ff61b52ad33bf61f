use Rattle.std.proofs.Common.{◌≡◌, Ok}
use Rattle.warg_transparency.specs.Texts.{log_proof_of}
use Rattle.warg_transparency.specs.declared.error.ProofTextError.TheVariants.{OutOfMemory}
use Rattle.tool_checkpoints.proofs.WordLemmas.{no_value, unsaid_unless}
use Rattle.tool_checkpoints.proofs.read_words.log_proof_of.Goals as goal

pub returns-in-Err-clause-err : goal.returns-in-Err-clause-err
returns-in-Err-clause-err c =
    let want = log_proof_of c.args.text.now in
    unsaid_unless (λ proof. want ≡ Ok proof) (c.in-Err.fault ≡ OutOfMemory) c.proof_error.result c.proof_error.ensures.unusable
    c.proof_error.ensures.memory (no_value want (c.in-Err.fault ≡ OutOfMemory) c.in-Err.fault c.in-Err.ensures.value)

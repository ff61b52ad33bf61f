use Rattle.std.proofs.Common.{◌≡◌, Ok}
use Rattle.std.proofs.lemmas.Result.{IfOk-weaker}
use Rattle.std.specs.Str.{trim_end}
use Rattle.warg_transparency.specs.Texts.{map_proof_of}
use Rattle.tool_checkpoints.specs.Proofs.{IsMapProof}
use Rattle.tool_checkpoints.proofs.WordLemmas.{unsaid_for, unsaid_if}
use Rattle.tool_checkpoints.proofs.read_words.map_proof_of_file.Goals as goal

pub returns-in-Ok-clause-ok : goal.returns-in-Ok-clause-ok
returns-in-Ok-clause-ok c =
    let it = c.in-Ok.ensures.ok in
    IfOk-weaker c.map_proof_of.result _ _ (λ proof said. record { utf8 = it.0; said = said }) (rw it.1 at c.map_proof_of.ensures.ok)

pub returns-in-Ok-clause-err : goal.returns-in-Ok-clause-err
returns-in-Ok-clause-err c =
    let bytes = c.args.input.now.bytes.items in
    unsaid_if (λ proof. map_proof_of (trim_end bytes) ≡ Ok proof) (IsMapProof bytes) c.map_proof_of.result (rw c.in-Ok.ensures.ok.1 at c.map_proof_of.ensures.err)
    (λ proof it. (proof, it.said))

pub returns-in-Err-clause-err : goal.returns-in-Err-clause-err
returns-in-Err-clause-err c =
    unsaid_for (IsMapProof c.args.input.now.bytes.items) _ c.in-Err.error c.in-Err.ensures.err (λ never proof it. never it.utf8)

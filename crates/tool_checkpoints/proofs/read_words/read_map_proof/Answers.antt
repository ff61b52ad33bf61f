use Rattle.tool_checkpoints.proofs.WordLemmas.{in_bytes, unread_bytes, unsaid_bytes}
use Rattle.tool_checkpoints.specs.Proofs.{IsMapProof}
use Rattle.tool_checkpoints.proofs.read_words.read_map_proof.Goals as goal

pub returns-in-Ok-clause-ok : goal.returns-in-Ok-clause-ok
returns-in-Ok-clause-ok g c =
    in_bytes _ _ IsMapProof c.in-Ok.input.bytes.items c.map_proof_of_file.result c.in-Ok.ensures.bytes c.map_proof_of_file.ensures.ok

pub returns-in-Ok-clause-err : goal.returns-in-Ok-clause-err
returns-in-Ok-clause-err g c =
    unsaid_bytes _ _ IsMapProof c.in-Ok.input.bytes.items c.map_proof_of_file.result c.in-Ok.ensures.bytes c.map_proof_of_file.ensures.err

pub returns-in-Err-clause-err : goal.returns-in-Err-clause-err
returns-in-Err-clause-err g c = unread_bytes _ _ IsMapProof c.in-Err.error c.in-Err.ensures.err

use Rattle.tool_checkpoints.proofs.WordLemmas.{in_bytes, unread_bytes, unsaid_bytes}
use Rattle.weoldrin.specs.Requests.{SaysClaims}
use Rattle.weoldrin.proofs.verified.read_verified.Goals as goal

pub returns-in-Ok-clause-ok : goal.returns-in-Ok-clause-ok
returns-in-Ok-clause-ok g c =
    in_bytes _ _ SaysClaims c.in-Ok.input.bytes.items c.verified_of_file.result c.in-Ok.ensures.bytes c.verified_of_file.ensures.ok

pub returns-in-Ok-clause-err : goal.returns-in-Ok-clause-err
returns-in-Ok-clause-err g c =
    unsaid_bytes _ _ SaysClaims c.in-Ok.input.bytes.items c.verified_of_file.result c.in-Ok.ensures.bytes c.verified_of_file.ensures.err

pub returns-in-Err-clause-err : goal.returns-in-Err-clause-err
returns-in-Err-clause-err g c = unread_bytes _ _ SaysClaims c.in-Err.error c.in-Err.ensures.err

use Rattle.std.specs.Bool.{one_answer}
use Rattle.warg_p256.proofs.Tests.{is_verified_decides}
use Rattle.warg_p256.proofs.verifier.are_verified.Goals as goal

pub returns : goal.returns
returns c = one_answer _ _ c.verify.ensures (is_verified_decides _ _ _)

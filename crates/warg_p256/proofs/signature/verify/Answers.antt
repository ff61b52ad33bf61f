use Rattle.warg_p256.proofs.signature.verify.Goals as goal

pub returns-in-Some : goal.returns-in-Some
returns-in-Some c = c.verify_by.ensures _ c.in-Some.ensures.some

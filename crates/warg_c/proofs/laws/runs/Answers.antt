use Rattle.std.proofs.Common.{refl, Some}
use Rattle.warg_p256.specs.Scheme.{p256_belongs}
use Rattle.warg_c.specs.Runs.{envelopes_taken}
use Rattle.warg_c.proofs.RunLemmas.{run-appends, run-of-new, verified-holds}
use Rattle.warg_c.proofs.laws.runs.Goals as goal

pub returns-clause-begun : goal.returns-clause-begun
returns-clause-begun c = λ b calls old new holds run fresh. run-of-new b (envelopes_taken calls) old new fresh (run-appends b calls old (Some old) new refl holds run)

pub returns-clause-continued : goal.returns-clause-continued
returns-clause-continued c = λ b calls old new holds run. run-appends b calls old (Some old) new refl holds run

pub returns-clause-verified : goal.returns-clause-verified
returns-clause-verified c = λ calls old new verified run fresh.
    run-of-new p256_belongs (envelopes_taken calls) old new fresh (run-appends p256_belongs calls old (Some old) new refl (verified-holds calls verified) run)

use Rattle.std.proofs.Common.{rules, arith, ◌∙◌}
use Rattle.std.proofs.lemmas.Int.{ints}
use Rattle.warg_package_log.proofs.SavableReleases.{text_of_time, time_back}
use Rattle.warg_package_log.proofs.release.saved.check_time.Goals as goal

pub returns-clause-ok : goal.returns-clause-ok
returns-clause-ok c = text_of_time c.args.time.now (search rules)

pub returns-clause-back : goal.returns-clause-back
returns-clause-back c =
    time_back c.args.time.now c.nanos-nanos.ensures.below
    (λ n e. omega (arith, ints, c.seconds-seconds.type_inv, c.seconds-seconds.ensures ∙ e))

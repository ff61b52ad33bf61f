use Rattle.std.proofs.Common.{◌∙◌}
use Rattle.warg_log.proofs.authority.Authority.try_clone.Goals as goal

pub returns : goal.returns
returns g c =
    let a = c.self.inside in
    (λ i. record {
      algorithm = a.algorithm;
      rights = c.in_ok-try_clone.ensures.permissions i;
      keys = c.in_ok-try_clone.ensures.keys i;
    })
    ∙ c.self.view_is

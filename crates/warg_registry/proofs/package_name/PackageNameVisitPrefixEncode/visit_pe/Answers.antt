use Rattle.std.proofs.Common.{rules, ◌≡◌}
use Rattle.warg_crypto.proofs.Visits.{on_err, on_err-map, stops_first, stops_second}
use Rattle.warg_registry.proofs.package_name.PackageNameVisitPrefixEncode.visit_pe.Goals as goal

pub returns-in_err-visit_str_raw-clause-err : goal.returns-in_err-visit_str_raw-clause-err
returns-in_err-visit_str_raw-clause-err g c = on_err c.from_residual.result (stops_first _ _ _ _ _ _ c.in_err-visit_str_raw.ensures.err)

pub returns-clause-err : goal.returns-clause-err
returns-clause-err g c =
    let same : c.as_str.result.now ≡ c.args.self.now = search rules in
    rw (← same) (on_err-map c.visit_str.result (λ x. (stops_second _ _ _ _ _ _ _ c.in_ok-visit_str_raw.ensures.ok x)) c.visit_str.ensures.err)

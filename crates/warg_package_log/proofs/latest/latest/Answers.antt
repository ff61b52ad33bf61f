use Rattle.std.proofs.Common.{◌∷◌, [], ◌++◌, take, sym, ap, ◌∙◌, subst}
use Rattle.std.proofs.lemmas.List.{take_more}
use Rattle.std.specs.Option.{option_copied}
use Rattle.warg_package_log.specs.Latest.{IsGreatest, is_candidate, release_cmp}
use Rattle.warg_package_log.proofs.Greatest.{greatest-more, release_total}
use Rattle.warg_package_log.proofs.latest.latest.Goals as goal

pub loop-release-preserved : goal.loop-release-preserved
loop-release-preserved c =
    let rs = c.args.releases.now in
    let i = c.loop-release.release-index in
    let r = c.release-item.result in
    let test = is_candidate c.args.req.now.comparators.items in
    subst (λ xs. IsGreatest test release_cmp xs (option_copied c.greater-best.result)) (sym (take_more rs i r c.loop-release-test.true ∙ ap (λ x. take i rs ++ x ∷ []) (sym c.release-item.is)))
    (subst (IsGreatest test release_cmp (take i rs ++ r ∷ [])) (sym c.greater-best.ensures)
    (greatest-more test release_cmp release_total (take i rs) r (option_copied c.loop-release.best) c.loop-release.invariant))

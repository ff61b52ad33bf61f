use mathlib.Core.Path.{sym, subst}
use Rattle.warg_maps.specs.Index.{HasFurther}
use Rattle.warg_maps.proofs.IndexLemmas.{no-place, on-none, when-none}
use Rattle.warg_maps.proofs.index.Index.search.Goals as goal

pub returns-then-has_no_buckets-clause-missed : goal.returns-then-has_no_buckets-clause-missed
returns-then-has_no_buckets-clause-missed g c = on-none c.find_among_all.result c.find_among_all.ensures.missed (λ missed i k stands e at. missed i at)

pub returns-then-not-near_is_full-clause-missed : goal.returns-then-not-near_is_full-clause-missed
returns-then-not-near_is_full-clause-missed g c i k stands e at =
    let missed = when-none c.in_default.is c.find_in_bucket-found.ensures.missed in
    let ends = when-none c.in_default.is c.find_in_bucket-found.ensures.ends in
    no-place _ _ i _ (λ p. missed i p at) (λ full _. ends c.if-not-near_is_full.true full) e.entry

pub returns-in-None-clause-missed : goal.returns-in-None-clause-missed
returns-in-None-clause-missed g c i k stands e at =
    let missed = when-none c.in_default.is c.find_in_bucket-found.ensures.missed in
    no-place _ _ i _ (λ p. missed i p at)
    (λ _ far. c.in-None.ensures.missed i k stands (subst (λ f. HasFurther g.K.Ord.cmp c.args.self.now f k i) (sym c.far_hash-far.ensures) far) at) e.entry

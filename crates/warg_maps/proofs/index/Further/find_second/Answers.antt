use mathlib.Core.Path.{sym, subst}
use Rattle.warg_maps.specs.Buckets.{HasPlace, IsFull}
use Rattle.warg_maps.proofs.IndexLemmas.{no-place, when-none}
use Rattle.warg_maps.proofs.index.Further.find_second.Goals as goal

pub returns-then-not-second_is_full-clause-missed : goal.returns-then-not-second_is_full-clause-missed
returns-then-not-second_is_full-clause-missed g c i k stands e at =
    let slots = c.args.self.now.second.items in
    let low = sym c.low_half-low.ensures in
    let missed = when-none c.in_default.is c.find_in_bucket-found.ensures.missed in
    let ends = when-none c.in_default.is c.find_in_bucket-found.ensures.ends in
    no-place _ _ i _ (λ p. missed i (subst (λ n. HasPlace slots n i) low p) at) (λ full _. ends c.if-not-second_is_full.true (subst (IsFull slots) low full)) e.entry

pub returns-in-None-clause-missed : goal.returns-in-None-clause-missed
returns-in-None-clause-missed g c i k stands e at =
    let slots = c.args.self.now.second.items in
    let low = sym c.low_half-low.ensures in
    let missed = when-none c.in_default.is c.find_in_bucket-found.ensures.missed in
    no-place _ _ i _ (λ p. missed i (subst (λ n. HasPlace slots n i) low p) at) (λ _ far. c.in-None.ensures.missed i k stands far at) e.entry

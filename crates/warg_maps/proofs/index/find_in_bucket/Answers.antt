use mathlib.Core.Path.{sym, subst}
use mathlib.Core.Bool.{true≢false}
use Rattle.warg_maps.specs.Buckets.{HasPlace}
use Rattle.warg_maps.proofs.IndexLemmas.{when-none}
use Rattle.warg_maps.proofs.index.find_in_bucket.Goals as goal

pub returns-in-None-clause-missed : goal.returns-in-None-clause-missed
returns-in-None-clause-missed g c i p at =
    let q = subst (λ xs. HasPlace xs c.args.hash i) (sym c.as_slice.ensures.value) p in
    let missed = when-none c.in-None.is c.find-found.ensures.missed in
    let m = missed i q in
    true≢false (sym (m.1 at))

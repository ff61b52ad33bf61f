use Rattle.warg_maps.proofs.IndexLemmas.{on-none, in-opened}
use Rattle.warg_maps.proofs.index.Index.find_opened.Goals as goal

pub returns-in-Some-clause-missed : goal.returns-in-Some-clause-missed
returns-in-Some-clause-missed g c =
    on-none c.find_second.result c.find_second.ensures.missed
    (λ missed i k stands there at. missed i k stands (in-opened g.K.Ord.cmp c.args.self.now c.in-Some.further c.in-Some.is _ c.deref.ensures c.args.far k i there) at)

use mathlib.Core.Path.{sym, ◌∙◌}
use Rattle.std.specs.Map.Iter.{deref_pair}
use Rattle.std_collections.proofs.IterRuns.{last_progress}
use Rattle.std_collections.proofs.Zip.{zip_push}
use Rattle.warg_maps.proofs.iter.IterDoubleEndedIterator.next_back.Goals as goal

pub invariant_of-self : goal.invariant_of-self
invariant_of-self g c = (zip_push _ _ _ _ _ _ c.self.invariant c.last_and_rest.ensures c.last_and_rest-2.ensures).0

pub returns-clause-steps : goal.returns-clause-steps
returns-clause-steps g c = sym c.self.view_is ∙ (zip_push _ _ _ _ _ _ c.self.invariant c.last_and_rest.ensures c.last_and_rest-2.ensures).1

pub returns-clause-goes : goal.returns-clause-goes
returns-clause-goes g c = last_progress deref_pair _ _ _ (sym c.self.view_is ∙ (zip_push _ _ _ _ _ _ c.self.invariant c.last_and_rest.ensures c.last_and_rest-2.ensures).1)

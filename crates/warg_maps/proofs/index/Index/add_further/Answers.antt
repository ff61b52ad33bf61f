use Rattle.std.proofs.Common.{inl}
use mathlib.Core.Path.{refl}
use Rattle.warg_maps.proofs.index.Index.add_further.Goals as goal

pub returns-then-add_opened-clause-added : goal.returns-then-add_opened-clause-added
returns-then-add_opened-clause-added g c = c.add_opened.ensures.added c.if-add_opened.true

pub returns-then-add_opened-clause-kept : goal.returns-then-add_opened-clause-kept
returns-then-add_opened-clause-kept g c f k i apart e = c.add_opened.ensures.kept f k i apart (c.open_further.ensures.kept f k i e)

pub returns-clause-added : goal.returns-clause-added
returns-clause-added g c = record { entry = inl refl }

pub returns-clause-kept : goal.returns-clause-kept
returns-clause-kept g c f k i apart e = record { entry = inl refl }

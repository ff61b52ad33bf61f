use Rattle.std.proofs.Common.{inl, inr}
use Rattle.warg_maps.proofs.IndexLemmas.{in-opened}
use Rattle.warg_maps.proofs.index.Index.add_opened.Goals as goal

pub returns-in-Some-clause-added : goal.returns-in-Some-clause-added
returns-in-Some-clause-added g c added = record { entry = inr (c.add_second.ensures.added added) }

pub returns-in-Some-clause-kept : goal.returns-in-Some-clause-kept
returns-in-Some-clause-kept g c f k i apart e =
    record {
      entry = elim e.entry [
        | inl none ↦ inl none
        | inr there ↦ inr (c.add_second.ensures.kept f k i apart (in-opened g.K.Ord.cmp c.args.self.now c.in-Some.further c.in-Some.is _ c.deref_mut.ensures.value f k i there))
      ];
    }

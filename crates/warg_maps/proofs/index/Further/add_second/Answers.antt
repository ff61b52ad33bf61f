use Rattle.std.proofs.Common.{inl, inr}
use Rattle.std.specs.Prelude.{◌%◌, ◌^◌}
use mathlib.Core.Path.{refl, sym, subst}
use Rattle.warg_maps.specs.Buckets.{HasPlace, IsFull}
use Rattle.warg_maps.proofs.IndexLemmas.{place-kept, far-as}
use Rattle.warg_maps.proofs.index.Further.add_second.Goals as goal

pub returns-then-put-clause-added : goal.returns-then-put-clause-added
returns-then-put-clause-added g c _ = record { entry = inl (subst (λ n. HasPlace c.put.new.slots.items n c.args.place) c.low_half.ensures (c.put.ensures.put c.if-put.true)) }

pub returns-then-put-clause-kept : goal.returns-then-put-clause-kept
returns-then-put-clause-kept g c f k i apart e = record { entry = place-kept _ _ _ i _ _ (c.put.ensures.kept _ i) (c.put.ensures.full _) (far-as _ _ _ f k i refl refl) e.entry }

pub returns-then-add_far-clause-added : goal.returns-then-add_far-clause-added
returns-then-add_far-clause-added g c _ =
    let full = subst (IsFull c.put.new.slots.items) c.low_half.ensures (c.put.ensures.refused c.if-put.false) in
    record { entry = inr (subst (λ v. IsFull v.items (c.args.far % 2 ^ 32)) (sym c.add_far.ensures.second) full, c.add_far.ensures.added c.if-add_far.true) }

pub returns-then-add_far-clause-kept : goal.returns-then-add_far-clause-kept
returns-then-add_far-clause-kept g c f k i apart e =
    record {
      entry = place-kept _ _ _ i _ _ (λ p. subst (λ v. HasPlace v.items (f % 2 ^ 32) i) (sym c.add_far.ensures.second) (c.put.ensures.kept _ i p))
          (λ full. subst (λ v. IsFull v.items (f % 2 ^ 32)) (sym c.add_far.ensures.second) (c.put.ensures.full _ full)) (λ x. c.add_far.ensures.kept f k i apart (far-as _ _ _ f k i refl refl x)) e.entry;
    }

pub returns-clause-kept : goal.returns-clause-kept
returns-clause-kept g c f k i apart e =
    record {
      entry = place-kept _ _ _ i _ _ (λ p. subst (λ v. HasPlace v.items (f % 2 ^ 32) i) (sym c.add_far.ensures.second) (c.put.ensures.kept _ i p))
          (λ full. subst (λ v. IsFull v.items (f % 2 ^ 32)) (sym c.add_far.ensures.second) (c.put.ensures.full _ full)) (λ x. c.add_far.ensures.kept f k i apart (far-as _ _ _ f k i refl refl x)) e.entry;
    }

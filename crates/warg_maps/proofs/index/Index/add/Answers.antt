use Rattle.std.proofs.Common.{inl, inr}
use mathlib.Core.Path.{refl, sym, subst}
use Rattle.warg_maps.specs.Buckets.{HasPlace, IsFull}
use Rattle.warg_maps.specs.Index.{HasFurther}
use Rattle.warg_maps.proofs.IndexLemmas.{place-kept, further-as}
use Rattle.warg_maps.proofs.index.Index.add.Goals as goal

pub returns-then-put-clause-added : goal.returns-then-put-clause-added
returns-then-put-clause-added g c = record { entry = inl (c.put.ensures.put c.if-put.true) }

pub returns-then-put-clause-kept : goal.returns-then-put-clause-kept
returns-then-put-clause-kept g c h f k i apart e = record { entry = place-kept _ _ _ i _ _ (c.put.ensures.kept _ i) (c.put.ensures.full _) (further-as _ _ _ f k i refl refl) e.entry }

pub returns-clause-added : goal.returns-clause-added
returns-clause-added g c =
    let full = subst (λ v. IsFull v.items c.args.hash) (sym c.add_further.ensures.near) (c.put.ensures.refused c.if-put.false) in
    let further = subst (λ f. HasFurther g.K.Ord.cmp c.add_further.new.self f c.args.key.now c.args.place) c.given_or_far_hash-far.ensures c.add_further.ensures.added in
    record { entry = inr (full, further) }

pub returns-clause-kept : goal.returns-clause-kept
returns-clause-kept g c h f k i apart e =
    record {
      entry = place-kept _ _ _ i _ _ (λ p. subst (λ v. HasPlace v.items h i) (sym c.add_further.ensures.near) (c.put.ensures.kept h i p))
          (λ full. subst (λ v. IsFull v.items h) (sym c.add_further.ensures.near) (c.put.ensures.full h full)) (λ x. c.add_further.ensures.kept f k i apart (further-as _ _ _ f k i refl refl x)) e.entry;
    }

pub returns-then-has_no_buckets-clause-kept : goal.returns-then-has_no_buckets-clause-kept
returns-then-has_no_buckets-clause-kept g c h f k i apart e =
    record { entry = place-kept _ _ _ i _ _ (c.put.ensures.kept h i) (c.put.ensures.full h) (λ further. record { entry = inl refl }) e.entry }

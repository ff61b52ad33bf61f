use Rattle.std.specs.Prelude.{◌≡◌, ◌≢◌, ℕ, ◌+◌, ◌≤◌, length, set}
use mathlib.Core.Path.{sym, ap, subst, ◌∙◌}
use native.Mathlib.Omega.{arith}
use lib.ListN.{length-set}
use lib.Seq.{get_or-set_same}
use Rattle.warg_maps.specs.declared.buckets.Slot.{Slot}
use Rattle.warg_maps.specs.Buckets.{start_of, free, free_slot, IsFreeAt, slot_at}
use Rattle.warg_maps.proofs.BucketLemmas.{AreTaken-kept, HasPlace-kept, IsFull-kept}
use Rattle.warg_maps.proofs.buckets.put.Goals as goal

pub returns-in-Some-clause-put : goal.returns-in-Some-clause-put
returns-in-Some-clause-put c _ =
    let ss = c.args.slots.now.items in
    let at : ℕ = c.in-Some.at in
    let w = subst (λ xs. IsFreeAt xs c.args.hash c.in-Some.at) c.as_slice.ensures.value c.in-Some.ensures.free in
    let x : Slot = record { hash = c.args.hash; place = c.args.place } in
    let placed : c.args.place ≢ free = λ e. absurd (omega (arith, c.requires.place, e)) in
    let same = get_or-set_same ss at x free_slot w.within in
    let here : start_of (length (set ss at x)) c.args.hash + w.lane ≡ at = ap (λ n. start_of n c.args.hash + w.lane) (length-set ss at x) ∙ sym w.index in
    record {
      table = subst (λ n. 8 ≤ n) (sym (length-set ss at x)) w.table;
      lane = w.lane;
      in_bucket = w.in_bucket;
      before = AreTaken-kept ss at x w.within placed c.args.hash w.lane w.before;
      is_place = c.requires.place;
      at = ap (slot_at (set ss at x)) here ∙ same;
    }

pub returns-in-Some-clause-kept : goal.returns-in-Some-clause-kept
returns-in-Some-clause-kept c h i p =
    let w = subst (λ xs. IsFreeAt xs c.args.hash c.in-Some.at) c.as_slice.ensures.value c.in-Some.ensures.free in
    let x : Slot = record { hash = c.args.hash; place = c.args.place } in
    let placed : c.args.place ≢ free = λ e. absurd (omega (arith, c.requires.place, e)) in
    HasPlace-kept c.args.slots.now.items c.in-Some.at x w.within placed w.is_free h i p

pub returns-in-Some-clause-full : goal.returns-in-Some-clause-full
returns-in-Some-clause-full c h full =
    let w = subst (λ xs. IsFreeAt xs c.args.hash c.in-Some.at) c.as_slice.ensures.value c.in-Some.ensures.free in
    let x : Slot = record { hash = c.args.hash; place = c.args.place } in
    let placed : c.args.place ≢ free = λ e. absurd (omega (arith, c.requires.place, e)) in
    IsFull-kept c.args.slots.now.items c.in-Some.at x w.within placed h full

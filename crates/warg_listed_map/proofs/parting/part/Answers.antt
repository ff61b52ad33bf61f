use Rattle.std.proofs.Common.{◌≡◌, true, false, arith, sym, ◌∙◌, ap, [], get_or}
use Rattle.std.proofs.lemmas.List.{get_or_default}
use Rattle.std.proofs.lemmas.List.Elements.{AllWithin-more}
use Rattle.std.proofs.lemmas.List.Sorted.{IsPermutation-trans}
use Rattle.warg_merkle.specs.SparseMap.Maps.{is_right}
use Rattle.warg_listed_map.specs.declared.entry.Entry.{Entry}
use Rattle.warg_listed_map.proofs.PartingLemmas.{front_more, back_more}
use Rattle.warg_listed_map.proofs.parting.part.Goals.{then-not-is_right, else-not-is_right}
use Rattle.warg_listed_map.proofs.parting.part.Goals as goal

pub loop-i-preserved : goal.loop-i-preserved
loop-i-preserved c =
    let (low, high, long, same, front, back) = c.loop-i.invariant in
    let i = c.loop-i.i in
    let d = c.args.depth in
    let es = c.loop-i.entries in
    let P : Entry → Type 0 = λ e. is_right e.key d ≡ false in
    let Q : Entry → Type 0 = λ e. is_right e.key d ≡ true in
    let none : Entry = record { key = []; leaf = []; place = 0 } in
    elim c.if-not-is_right.branch [
      | then-not-is_right w ↦
          let now = w.swap.new.self in
          let s = w.swap.ensures in
          let here : (e : Entry) → P (get_or es i e) =
          λ e. ap (λ (x : Entry). is_right x.key d) (get_or_default es i e none (omega arith)) ∙ sym c.is_right.ensures ∙ w.if-not-is_right.true in
          rw (w.entries-is, w.count-is) (
            omega arith,
            omega (arith, s.len),
            s.len ∙ long,
            IsPermutation-trans c.args.entries.now es now same s.permutation,
            front_more P Q es now c.loop-i.count i s.by_index low front here,
            back_more P Q es now c.loop-i.count i s.by_index low back,
          )
      | else-not-is_right w ↦
          let there : (e : Entry) → Q (get_or es i e) =
          λ e. ap (λ (x : Entry). is_right x.key d) (get_or_default es i e none (omega arith)) ∙ sym c.is_right.ensures ∙ w.if-not-is_right.false in
          rw (w.entries-is, w.count-is) (omega arith, omega arith, long, same, front, AllWithin-more Q es c.loop-i.count i back there)
    ]

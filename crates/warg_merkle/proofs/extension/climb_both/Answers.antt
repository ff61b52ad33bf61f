use Rattle.std.proofs.Common.{◌≡◌, ◌⊎◌, inl, inr, ◌%◌, ◌<◌, ◌≤◌, ◌==◌, length, sym, arith}
use Rattle.std.proofs.lemmas.Bool.Decides.{Decides-eqb, not_from_Decides}
use Rattle.sha2.specs.Sha256.{sha256}
use Rattle.warg_merkle.proofs.RestsBoth.{to_left, to_right, to_itself, short, whole, long}
use Rattle.warg_merkle.proofs.extension.climb_both.Goals as goal
use Rattle.warg_merkle.proofs.extension.climb_both.Goals.{then-at-eq1+in-Some+then-at-eq1-2, then-at-eq1+in-Some+else-at-eq1-2, else-at-eq1+else-at-end}

pub returns-in_default : goal.returns-in_default
returns-in_default c =
    let moves : (c.loop-end.at % 2 ≡ 1) ⊎ (c.loop-end.at < c.loop-end.end) = elim c.then-at-eq1.either [ inl odd ↦ inl odd | inr both ↦ inr both.1 ] in
    short sha256 c.loop-end.at c.loop-end.end c.loop-end.rest.now c.loop-end.old c.loop-end.new _ c.loop-end-test.true c.in_default.ensures.cases moves c.loop-end.invariant

pub loop-end-preserved : goal.loop-end-preserved
loop-end-preserved c = elim c.if-at-eq1.branch [
  | then-at-eq1+in-Some+then-at-eq1-2 w ↦ rw (w.old-is, w.new-is, w.rest-is, w.node_hash-old.ensures, w.node_hash-new.ensures) (to_right sha256 c.loop-end.at c.loop-end.end w.in-Some.sibling.now w.in-Some.others.now c.loop-end.rest.now c.loop-end.old c.loop-end.new _ c.loop-end-test.true w.in-Some.ensures.cases.0 w.if-at-eq1-2.true c.loop-end.invariant)
  | then-at-eq1+in-Some+else-at-eq1-2 w ↦
      let even : c.loop-end.at % 2 ≡ 0 = omega (arith, w.if-at-eq1-2.false) in
      let less : c.loop-end.at < c.loop-end.end = elim w.then-at-eq1.either [ inl odd ↦ absurd (w.if-at-eq1-2.false odd) | inr both ↦ both.1 ] in
      rw (w.old-is, w.new-is, w.rest-is, w.node_hash-new-else-at-eq1-2.ensures) (to_left sha256 c.loop-end.at c.loop-end.end w.in-Some.sibling.now w.in-Some.others.now c.loop-end.rest.now c.loop-end.old c.loop-end.new _ c.loop-end-test.true w.in-Some.ensures.cases.0 even less c.loop-end.invariant)
  | else-at-eq1+else-at-end w ↦
      let even : c.loop-end.at % 2 ≡ 0 = omega (arith, w.if-at-eq1.false) in
      let most : c.loop-end.end ≤ c.loop-end.at = omega (arith, w.if-at-end.false) in
      rw (w.old-is, w.new-is, w.rest-is) (to_itself sha256 c.loop-end.at c.loop-end.end c.loop-end.rest.now c.loop-end.old c.loop-end.new _ c.loop-end-test.true even most c.loop-end.invariant)
]

pub returns-then-is_empty : goal.returns-then-is_empty
returns-then-is_empty c =
    let none : length c.loop-end.rest.now ≡ 0 = (Decides-eqb (length c.loop-end.rest.now) 0).0 (sym c.if-is_empty.ensures) in
    whole sha256 c.loop-end.at c.loop-end.end c.loop-end.rest.now c.loop-end.old c.loop-end.new _ (omega arith) none c.loop-end.invariant

pub returns-else-is_empty : goal.returns-else-is_empty
returns-else-is_empty c =
    let some : ¬ (length c.loop-end.rest.now ≡ 0) = not_from_Decides (length c.loop-end.rest.now == 0) (Decides-eqb (length c.loop-end.rest.now) 0) (sym c.if-is_empty.ensures) in
    long sha256 c.loop-end.at c.loop-end.end c.loop-end.rest.now c.loop-end.old c.loop-end.new _ (omega arith) (omega arith) c.loop-end.invariant

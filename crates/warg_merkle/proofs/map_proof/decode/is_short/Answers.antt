use Rattle.std.proofs.Common.{◌≡◌, ◌≢◌, ◌+◌, ◌-◌, suc, length, false, true, refl, sym, ◌∙◌, ap, arith}
use Rattle.std.proofs.lemmas.Bool.Decides.{Decides-eqb}
use Rattle.std.proofs.lemmas.List.{nil_from_length}
use Rattle.sha2.specs.Sha256.{sha256}
use Rattle.warg_merkle.specs.SparseMap.Maps.{empty_root}
use Rattle.warg_merkle.proofs.MapProofLemmas.Steps.{empty_leaf, empty_up, canonical_top, canonical_out, canonical_in, canonical_none, canonical_empty}
use Rattle.warg_merkle.proofs.map_proof.decode.is_short.Goals as goal
use Rattle.warg_merkle.proofs.map_proof.decode.is_short.Goals.{then-not-is_right+in-Some+else-is_same_hash, else-not-is_right}

pub loop-height-init : goal.loop-height-init
loop-height-init c = (omega arith, c.digest-empty.ensures ∙ empty_leaf sha256, (λ p. p, λ p. p))

pub returns-in_default : goal.returns-in_default
returns-in_default c =
    let next : 256 - c.loop-height.height ≡ suc (256 - (c.loop-height.height + 1)) = omega arith in
    (λ t. cc, λ p. absurd (canonical_none sha256 (256 - c.loop-height.height) (256 - (c.loop-height.height + 1)) c.loop-height.height c.args.left_out.now c.loop-height.rest.now next (sym c.if-not-is_right.ensures) c.in_default.ensures.cases (c.loop-height.invariant.2.1 p)))

pub returns-then-is_same_hash : goal.returns-then-is_same_hash
returns-then-is_same_hash c =
    let next : 256 - c.loop-height.height ≡ suc (256 - (c.loop-height.height + 1)) = omega arith in
    let same : c.in-Some.sibling.now ≡ c.loop-height.empty = c.if-is_same_hash.ensures.0 refl in
    (λ t. cc, λ p. absurd (canonical_empty sha256 (256 - c.loop-height.height) (256 - (c.loop-height.height + 1)) c.loop-height.height c.args.left_out.now c.loop-height.rest.now c.in-Some.sibling.now c.in-Some.above.now next (sym c.if-not-is_right.ensures) c.in-Some.ensures.cases.0 (same ∙ c.loop-height.invariant.1) (c.loop-height.invariant.2.1 p)))

pub loop-height-preserved : goal.loop-height-preserved
loop-height-preserved c =
    let (high, empty, same) = c.loop-height.invariant in
    let next : 256 - c.loop-height.height ≡ suc (256 - (c.loop-height.height + 1)) = omega arith in
    let above = c.node_hash-empty.ensures ∙ empty_up sha256 c.loop-height.height (c.loop-height.height + 1) c.loop-height.empty (omega arith) empty in
    elim c.if-not-is_right.branch [
      | then-not-is_right+in-Some+else-is_same_hash w ↦
          let differ : w.in-Some.sibling.now ≢ empty_root sha256 c.loop-height.height = λ e. let t : false ≡ true = w.if-is_same_hash.ensures.1 (e ∙ sym empty) in cc in
          let step = canonical_in sha256 (256 - c.loop-height.height) (256 - (c.loop-height.height + 1)) c.loop-height.height (c.loop-height.height + 1) c.args.left_out.now c.loop-height.rest.now w.in-Some.sibling.now w.in-Some.above.now next (omega arith) (sym w.if-not-is_right.ensures) w.in-Some.ensures.cases.0 differ in
          rw w.rest-is (omega arith, above, (λ p. same.0 (step.1 p), λ p. step.0 (same.1 p)))
      | else-not-is_right w ↦
          let step = canonical_out sha256 (256 - c.loop-height.height) (256 - (c.loop-height.height + 1)) c.loop-height.height (c.loop-height.height + 1) c.args.left_out.now c.loop-height.rest.now next (omega arith) (sym w.if-not-is_right.ensures) in
          rw w.rest-is (omega arith, above, (λ p. same.0 (step.1 p), λ p. step.0 (same.1 p)))
    ]

pub returns : goal.returns
returns c =
    let (high, empty, same) = c.loop-height.invariant in
    let top = canonical_top sha256 (256 - c.loop-height.height) c.loop-height.height c.args.left_out.now c.loop-height.rest.now (omega arith) in
    let decides = Decides-eqb (length c.loop-height.rest.now) 0 in
    (λ t. same.0 (top.1 (nil_from_length c.loop-height.rest.now (decides.0 (sym c.is_empty.ensures ∙ t)))), λ p. c.is_empty.ensures ∙ decides.1 (ap length (top.0 (same.1 p))))

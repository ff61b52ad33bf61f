use Rattle.std.proofs.Common.{◌≡◌, ◌-◌, ◌==◌, suc, length, sym, arith}
use Rattle.std.proofs.lemmas.Bool.Decides.{Decides-eqb, not_from_Decides}
use Rattle.sha2.specs.Sha256.{sha256}
use Rattle.warg_merkle.proofs.SparseMapLemmas.Ups.{to_left, to_right, short, whole, long}
use Rattle.warg_merkle.proofs.sparse_map.entries.climb.Goals as goal

pub returns-in_default : goal.returns-in_default
returns-in_default c =
    let one : c.loop-depth.depth ≡ suc (c.loop-depth.depth - 1) = omega arith in
    short sha256 c.loop-depth.depth (c.loop-depth.depth - 1) c.args.key.now c.loop-depth.rest.now c.loop-depth.hash _ one c.in_default.ensures.cases c.loop-depth.invariant.1

pub loop-depth-preserved-then-is_right : goal.loop-depth-preserved-then-is_right
loop-depth-preserved-then-is_right c =
    let most = c.loop-depth.invariant.0 in
    let one : c.loop-depth.depth ≡ suc (c.loop-depth.depth - 1) = omega arith in
    (omega arith, rw c.node_hash-hash.ensures (to_right sha256 c.loop-depth.depth (c.loop-depth.depth - 1) c.args.key.now c.in-Some.sibling.now c.in-Some.others.now c.loop-depth.rest.now c.loop-depth.hash _ one c.in-Some.ensures.cases.0 c.if-is_right.ensures c.loop-depth.invariant.1))

pub loop-depth-preserved : goal.loop-depth-preserved
loop-depth-preserved c =
    let most = c.loop-depth.invariant.0 in
    let one : c.loop-depth.depth ≡ suc (c.loop-depth.depth - 1) = omega arith in
    (omega arith, rw c.node_hash-hash-else-is_right.ensures (to_left sha256 c.loop-depth.depth (c.loop-depth.depth - 1) c.args.key.now c.in-Some.sibling.now c.in-Some.others.now c.loop-depth.rest.now c.loop-depth.hash _ one c.in-Some.ensures.cases.0 c.if-is_right.ensures c.loop-depth.invariant.1))

pub returns-then-is_empty : goal.returns-then-is_empty
returns-then-is_empty c =
    let none : length c.loop-depth.rest.now ≡ 0 = (Decides-eqb (length c.loop-depth.rest.now) 0).0 (sym c.if-is_empty.ensures) in
    whole sha256 c.loop-depth.depth c.args.key.now c.loop-depth.rest.now c.loop-depth.hash _ (omega arith) none c.loop-depth.invariant.1

pub returns-else-is_empty : goal.returns-else-is_empty
returns-else-is_empty c =
    let some : ¬ (length c.loop-depth.rest.now ≡ 0) = not_from_Decides (length c.loop-depth.rest.now == 0) (Decides-eqb (length c.loop-depth.rest.now) 0) (sym c.if-is_empty.ensures) in
    long sha256 c.loop-depth.depth c.args.key.now c.loop-depth.rest.now c.loop-depth.hash _ (omega arith) (omega arith) c.loop-depth.invariant.1

use Rattle.std.proofs.Common.{rules, arith, inl, inr}
use Rattle.sha2.specs.Sha256.{sha256}
use Rattle.sha2.proofs.Facts256.{length-sha256}
use Rattle.warg_merkle.specs.Extensions.{ExtendsNone, ExtendsAll, Extends}
use Rattle.warg_merkle.proofs.Sound.{each_long}
use Rattle.warg_merkle.proofs.Extending.{with_start_long}
use Rattle.warg_merkle.proofs.Consistent.{consistent_or_collision}
use Rattle.warg_merkle.proofs.extension.verify_consistency.Goals as goal

pub returns-then-first-eq0-clause-sound : goal.returns-then-first-eq0-clause-sound
returns-then-first-eq0-clause-sound c = λ is.
    rw c.if-first-eq0.true (consistent_or_collision sha256 length-sha256 0 c.args.size c.args.path.now c.args.old.now c.args.new.now (with_start_long sha256 0 c.args.old.now c.args.path.now c.told-old (each_long c.args.path.now c.told-path)) (omega arith) (inl (c.extends_none.ensures.0 is)))

pub returns-then-first-size-clause-sound : goal.returns-then-first-size-clause-sound
returns-then-first-size-clause-sound c = λ is.
    rw c.if-first-size.true (consistent_or_collision sha256 length-sha256 c.args.size c.args.size c.args.path.now c.args.old.now c.args.new.now (with_start_long sha256 c.args.size c.args.old.now c.args.path.now c.told-old (each_long c.args.path.now c.told-path)) (omega arith) (inr (inl (c.extends_all.ensures.0 is))))

pub returns-then-first-size-2-clause-sound : goal.returns-then-first-size-2-clause-sound
returns-then-first-size-2-clause-sound c = λ is.
    consistent_or_collision sha256 length-sha256 c.args.first c.args.size c.args.path.now c.args.old.now c.args.new.now (with_start_long sha256 c.args.first c.args.old.now c.args.path.now c.told-old (each_long c.args.path.now c.told-path)) (omega arith) (inr (inr (c.extends.ensures.0 is)))

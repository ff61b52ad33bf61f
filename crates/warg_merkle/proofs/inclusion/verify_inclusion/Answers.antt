use Rattle.std.proofs.Common.{rules, arith, inl, inr}
use Rattle.sha2.specs.Sha256.{sha256}
use Rattle.sha2.proofs.Facts256.{length-sha256}
use Rattle.warg_merkle.specs.Trees.{Includes}
use Rattle.warg_merkle.proofs.Sound.{own_or_collision, each_long}
use Rattle.warg_merkle.proofs.Lengths.{path_few}
use Rattle.warg_merkle.proofs.inclusion.verify_inclusion.Goals as goal

pub returns-in-Some-clause-sound : goal.returns-in-Some-clause-sound
returns-in-Some-clause-sound c = λ is.
    let included : Includes sha256 c.args.leaf.now c.args.index c.args.size c.args.path.now c.args.root.now = search rules in
    own_or_collision sha256 length-sha256 c.args.leaf.now c.args.index c.args.size c.args.path.now c.args.root.now (each_long c.args.path.now c.told-path) (omega arith) included

pub returns-then-index-size-clause-exact : goal.returns-then-index-size-clause-exact
returns-then-index-size-clause-exact c = (
  λ no. search rules,
  λ includes.
      let few = path_few sha256 c.args.leaf.now c.args.index c.args.size c.args.path.now c.args.root.now (omega arith) includes in
      let inside = includes.in_tree in
      absurd (elim c.then-index-size.either [ inl past ↦ omega arith | inr long ↦ omega (arith, long.1) ]),
)

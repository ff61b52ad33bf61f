use Rattle.std.proofs.Common.{◌∙◌, lit<}
use Rattle.warg_modular.specs.Value.{value}
use Rattle.warg_p256.specs.Elements.{number}
use Rattle.warg_p256.proofs.FieldElements.{number_below}
use Rattle.warg_p256.proofs.Roots.{root_of, root_exponent}
use Rattle.warg_p256.proofs.Signatures.{not_equal}
use Rattle.warg_p256.proofs.sec1.root.Goals as goal

pub pow-y-requires : goal.pow-y-requires
unfolding value
pow-y-requires c = lit< tt

pub returns-clause-none : goal.returns-clause-none
returns-clause-none c = λ t h e.
    not_equal _ _ _ c.is_equal.ensures c.if-is_equal.false
    (c.square.ensures ∙ root_of (number c.args.right.words) t (number c.pow-y.result.words) _ (number_below c.args.right.words) h e root_exponent c.pow-y.ensures)

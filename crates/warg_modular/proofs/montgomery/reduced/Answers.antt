use Rattle.std.proofs.Common.{◌≡◌, ◌+◌, ◌*◌, ◌%◌, ◌^◌, ap, sym, ◌∙◌, arith}
use Rattle.std.specs.Int.{from_bool}
use Rattle.std.proofs.lemmas.Bool.{not_from_true}
use Rattle.std.proofs.Math.Nat.{add-mod_right}
use Rattle.warg_modular.specs.Value.{value}
use Rattle.warg_modular.proofs.Rounds.{reduced_same, from_bool_le, from_true, from_false}
use Rattle.warg_modular.proofs.montgomery.reduced.Goals.{then-not-top, else-not-top}
use Rattle.warg_modular.proofs.montgomery.reduced.Goals as goal

pub returns-clause-same : goal.returns-clause-same
returns-clause-same c =
    let k = c.sub-borrow.ensures in
    elim c.if-not-top.branch [
      | then-not-top w ↦
          let none = from_false _ w.if-not-top.true in
          let total : value c.args.t + from_bool c.args.top * 2 ^ 256 ≡ value c.args.t = omega (arith, none) in
          reduced_same c.sub-borrow.result.1 _ _ _ _ k.total (λ h. ap value (c.select.ensures.first (w.select-is ∙ h))) (λ h. ap value (c.select.ensures.second (w.select-is ∙ h)))
          ∙ sym (ap (λ v. v % value c.args.p) total)
      | else-not-top w ↦
          let one = from_true _ w.if-not-top.false in
          let total : value c.args.t + from_bool c.args.top * 2 ^ 256 ≡ value c.sub-borrow.result.0 + value c.args.p = omega (arith, one, from_bool_le c.sub-borrow.result.1, k.total, k.below, c.requires) in
          ap (λ v. value v % value c.args.p) (c.select.ensures.second (w.select-is ∙ not_from_true _ w.if-not-top.false))
          ∙ sym (ap (λ v. v % value c.args.p) total ∙ add-mod_right _ _)
    ]

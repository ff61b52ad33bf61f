use Rattle.std.proofs.Common.{sym, ◌∙◌, arith}
use Rattle.std.proofs.lemmas.Bool.{eqb-true, eq-eqb}
use Rattle.warg_modular.proofs.Bits.{bit_0, bit_1, bit_2, bit_3}
use Rattle.warg_modular.proofs.words.bit.Goals as goal

pub returns-then-i-lt64 : goal.returns-then-i-lt64
returns-then-i-lt64 c =
    let e = bit_0 c.args.a c.args.i (omega arith) in
    (λ h. e ∙ eqb-true _ _ h, λ h. eq-eqb _ _ (sym e ∙ h))

pub returns-then-i-lt128 : goal.returns-then-i-lt128
returns-then-i-lt128 c =
    let e = bit_1 c.args.a c.args.i (omega arith) (omega arith) (omega arith) in
    (λ h. e ∙ eqb-true _ _ h, λ h. eq-eqb _ _ (sym e ∙ h))

pub returns-then-i-lt192 : goal.returns-then-i-lt192
returns-then-i-lt192 c =
    let e = bit_2 c.args.a c.args.i (omega arith) (omega arith) (omega arith) (omega arith) in
    (λ h. e ∙ eqb-true _ _ h, λ h. eq-eqb _ _ (sym e ∙ h))

pub returns : goal.returns
returns c =
    let e = bit_3 c.args.a c.args.i (omega arith) (omega arith) (omega arith) (omega arith) in
    (λ h. e ∙ eqb-true _ _ h, λ h. eq-eqb _ _ (sym e ∙ h))

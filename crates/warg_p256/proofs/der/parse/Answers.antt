use Rattle.std.proofs.Common.{◌≡◌, ℕ, List, [], length, subst, sym, ◌∙◌, ap}
use Rattle.warg_p256.specs.Der.{IsInteger}
use Rattle.warg_p256.proofs.DerFacts.{split_text, der_parts, second_short, not_empty}
use Rattle.warg_p256.proofs.der.parse.Goals as goal

pub returns-in_err-second-clause-none : goal.returns-in_err-second-clause-none
returns-in_err-second-clause-none c = rw c.from_residual-in_err-second.ensures (λ r s g.
    let parts = der_parts _ _ _ r s g (c.in_ok-first.ensures).some in
    (c.in_err-second.ensures).none g.second [] (second_short _ r s g) parts.1)

pub returns-then-not-is_empty-clause-none : goal.returns-then-not-is_empty-clause-none
returns-then-not-is_empty-clause-none c = λ r s g.
    let parts = der_parts _ _ _ r s g (c.in_ok-first.ensures).some in
    let more = split_text _ _ g.second [] (sym (c.in_ok-second.ensures).some ∙ parts.1) in
    let none : length c.in_ok-second.end.now ≡ 0 = ap length more.1 in
    not_empty _ _ c.is_empty.ensures c.if-not-is_empty.true none

pub returns-in_err-r-clause-none : goal.returns-in_err-r-clause-none
returns-in_err-r-clause-none c = rw c.from_residual-in_err-r.ensures (λ r s g.
    let parts = der_parts _ _ _ r s g (c.in_ok-first.ensures).some in
    (c.in_err-r.ensures).none r (subst (λ (t : List ℕ). IsInteger t r) (sym parts.0) g.r_is))

pub returns-in_err-s-clause-none : goal.returns-in_err-s-clause-none
returns-in_err-s-clause-none c = rw c.from_residual-in_err-s.ensures (λ r s g.
    let parts = der_parts _ _ _ r s g (c.in_ok-first.ensures).some in
    let more = split_text _ _ g.second [] (sym (c.in_ok-second.ensures).some ∙ parts.1) in
    (c.in_err-s.ensures).none s (subst (λ (t : List ℕ). IsInteger t s) (sym more.0) g.s_is))

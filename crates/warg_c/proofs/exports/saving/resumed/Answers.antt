use Rattle.std.proofs.Common.{◌≡◌, ℕ, zero, suc, inl, inr, Err, refl, sym, ◌∙◌, subst}
use Rattle.warg_c.specs.declared.call_error.CallError.{CallError}
use Rattle.warg_c.specs.AnyLogs.{IsNoKind, kind_numbered}
use Rattle.warg_c.specs.Texts.{IsGiven}
use Rattle.warg_c.proofs.exports.saving.resumed.Goals as goal

-- the number of no kind is a bad argument
no-kind : (n : ℕ) (f : CallError) → kind_numbered n ≡ Err f → IsNoKind n
no-kind zero f h = let never : ⊥ = cc in absurd never
no-kind (suc zero) f h = let never : ⊥ = cc in absurd never
no-kind (suc (suc n)) f h = refl

pub returns-in_default-clause-err : goal.returns-in_default-clause-err
returns-in_default-clause-err c =
    inr (inr (refl, inl (no-kind c.args.kind c.in_default.field-0 (sym c.numbered.ensures ∙ c.in_default.is), subst (λ told. IsGiven told c.give_if_room.new.used c.give_if_room.new.text) c.text.ensures c.give_if_room.ensures.text)))

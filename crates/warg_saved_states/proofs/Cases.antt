-- What follows where parts of a saved state fit together.
use Rattle.std.proofs.Common.{◌≡◌, ◌≤◌, ℕ, List, [], ◌∷◌, Bool, true, false, not, Option, Some, None, refl, subst, is_some}
use Rattle.std.specs.Prelude.{nat_le, Result}
use Rattle.std.specs.Option.{option_map, option_or}
use Rattle.std.proofs.lemmas.Bool.{leb-true}
use Rattle.warg_crypto.specs.declared.hash.HashAlgorithm.{HashAlgorithm}
use Rattle.warg_crypto.specs.declared.json.error.Incoherence.{Incoherence}
use Rattle.warg_crypto.specs.declared.json.error.JsonError.{JsonError}
use Rattle.warg_saved_states.specs.Fit.{RefusesCaseOrNoMemory, begun_case, case_if, empty_case, is_nil, version_case}

pub no_case : (b : Bool) (i : Incoherence) → case_if b i ≡ None → b ≡ false
no_case true i h = cc h
no_case false i h = refl

pub negated : (a : Bool) → not a ≡ false → a ≡ true
negated true h = refl
negated false h = cc h

pub none_first : (c d : Option Incoherence) → option_or c d ≡ None → c ≡ None
none_first None d h = refl
none_first (Some i) d h = cc h

pub none_rest : (c d : Option Incoherence) → option_or c d ≡ None → d ≡ None
none_rest None d h = h
none_rest (Some i) d h = cc h

pub nil : {A : Type 0} (xs : List A) → is_nil xs ≡ true → xs ≡ []
nil [] h = refl
nil (x ∷ xs) h = cc h

-- a check that passed is followed by the rest
pub refuses_later : (A : Type 0) (c d : Option Incoherence) (r : Result A JsonError) → c ≡ None → RefusesCaseOrNoMemory d r → RefusesCaseOrNoMemory (option_or c d) r
refuses_later A None d r h rest = rest
refuses_later A (Some i) d r h rest = cc h

module _ {H : Type 0} (version : H → ℕ) where
  pub begun_both : (a : Option HashAlgorithm) (h : Option H) → begun_case a (option_map version h) ≡ None → is_some a ≡ is_some h
  begun_both None None c = refl
  begun_both None (Some h) c = cc c
  begun_both (Some a) None c = cc c
  begun_both (Some a) (Some h) c = refl

  pub empty_then : (a : Option HashAlgorithm) (h : Option H) (b : Bool) → begun_case a (option_map version h) ≡ None → empty_case a b ≡ None → h ≡ None → b ≡ true
  empty_then (Some a) None b c e n = cc c
  empty_then (Some a) (Some h) b c e n = cc n
  empty_then None h true c e n = refl
  empty_then None h false c e n = cc e

  pub head_taken : (o : Option H) → version_case (option_map version o) ≡ None → (h : H) → o ≡ Some h → version h ≤ 1
  head_taken None c h is = cc is
  head_taken (Some g) c h is = subst (λ (x : H). version x ≤ 1) (same_head is) (leb-true (version g) 1 (negated (nat_le (version g) 1) (no_case _ _ c)))
    where
      same_head : Some g ≡ Some h → g ≡ h
      same_head e = cc

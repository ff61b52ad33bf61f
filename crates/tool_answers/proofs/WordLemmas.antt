-- Answers by what a word says.
use Rattle.std.proofs.Common.{◌≡◌, ◌<◌, ◌+◌, ◌≤◌, inl, inr, ℕ, List, Contains, length, slice_index_or, arith, ap, sym, subst, ◌∙◌, Result}
use Rattle.std.proofs.lemmas.Bool.{cases_lt}
use Rattle.std.proofs.lemmas.List.{get_or_default}
use Rattle.warg_audit.specs.Files.OutputData.{OutputData}
use Rattle.warg_audit.specs.Files.Answers.{Answers, IfOutput, IsUnusable}
use Rattle.warg_audit.specs.declared.files.command_output.CommandOutput.{CommandOutput}
use Rattle.warg_audit.specs.declared.files.command_error.CommandError.{CommandError}
use Rattle.warg_audit.proofs.FilesLemmas.AnswerLemmas.{Answers-to, IfOutput-to}
use Rattle.tool_answers.specs.Words.{IsByWord, IsUnsaid, by_value, unsaid}

module _ {A : Type 0} (Says : A → Type 0) where
  -- the error of a command for a word that says nothing
  pub nothing_said : (end : CommandError) → ((value : A) → Says value → ⊥) → IfOutput IsUnusable end → IfOutput (IsUnsaid Says) end
  nothing_said end nothing h =
      IfOutput-to IsUnusable (IsUnsaid Says) (λ printed is. record { nothing = nothing; unusable = is }) end h

  module _ (P : A → OutputData → Type 0) where
    pub word_said : (value : A) (result : Result CommandOutput CommandError) → Says value → Answers (P value) result → Answers (IsByWord Says P) result
    word_said value result says h = Answers-to (P value) (IsByWord Says P) (λ printed is. by_value value says is) result h

    pub word_unsaid : (end : CommandError) → IfOutput (IsUnsaid Says) end → IfOutput (IsByWord Says P) end
    word_unsaid end h = IfOutput-to (IsUnsaid Says) (IsByWord Says P) (λ printed is. unsaid is) end h

-- none of the first values is what is sought
abbrev pub IsNoneOf : {A : Type 0} → (A → Type 0) → List A → ℕ → Type 0
IsNoneOf {A} Says values n = (i : ℕ) (value : A) → i < n → slice_index_or values i value ≡ value → Says value → ⊥

module _ {A : Type 0} (Says : A → Type 0) (values : List A) where
  pub none_of_none : IsNoneOf Says values 0
  none_of_none i value low = absurd (omega arith)

  -- nor is the next one
  pub none_more : (n : ℕ) (it : A) → n < length values → it ≡ slice_index_or values n it → (Says it → ⊥) → IsNoneOf Says values n
      → IsNoneOf Says values (n + 1)
  none_more n it within is never so_far i value low at says = elim (cases_lt i n) [
    | inl before ↦ so_far i value before at says
    | inr past ↦
        let here : i ≡ n = omega (arith, low, past) in
        let same = sym at ∙ ap (λ m. slice_index_or values m value) here ∙ get_or_default values n value it within ∙ sym is in
        never (subst Says same says)
  ]

  -- so there is none, where these are all
  pub none_at_all : (n : ℕ) → length values ≤ n → ((value : A) → Contains values value) → IsNoneOf Says values n
      → (value : A) → Says value → ⊥
  none_at_all n past has none value says =
      let at = has value in
      let low : at.0 < n = omega (arith, at.1) in
      none at.0 value low at.2 says

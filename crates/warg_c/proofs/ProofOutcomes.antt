-- Why nothing is proved.
use Rattle.std.proofs.Common.{◌≡◌, Result, Ok, Err, inl, inr, sym, ◌∙◌, subst, arith}
use Rattle.std.specs.Prelude.{IfErr}
use Rattle.warg_c.specs.ProofAnswers.{ProofErrors}
use Rattle.warg_c.specs.Statuses.{WARG_BAD_ARGUMENT, code_of, status_of}
use Rattle.warg_c.specs.Texts.{ErrorsAs}
use Rattle.warg_c.specs.declared.call_error.CallError.{CallError}
use Rattle.warg_c.specs.declared.call_error.CallError.TheVariants.{OutOfMemory, BadArgument}
use Rattle.warg_c.proofs.Codes.{same-code}

-- a text that is not of its form is one of those of a call
pub text_errors : (Takes May Differs Bad IsBad : Type 0) (f : CallError) → ErrorsAs Takes ⊥ Bad f → (Takes → May) → (Bad → IsBad) → ProofErrors May Differs IsBad f
text_errors Takes May Differs Bad IsBad f (inl (is, takes)) may h = subst (λ g. ProofErrors May Differs IsBad g) (sym is) (may takes)
text_errors Takes May Differs Bad IsBad f (inr (inl (is, never))) may h = absurd never
text_errors Takes May Differs Bad IsBad f (inr (inr (is, bad))) may h = subst (λ g. ProofErrors May Differs IsBad g) (sym is) (h bad)

-- one of two texts is not of its form
pub weaker : (A B : Type 0) (f : CallError) → (A → B) → ErrorsAs ⊥ ⊥ A f → ErrorsAs ⊥ ⊥ B f
weaker A B f h (inl lacks) = inl lacks
weaker A B f h (inr (inl lacks)) = inr (inl lacks)
weaker A B f h (inr (inr (is, a))) = inr (inr (is, h a))

-- the same where memory is taken
pub errors_as : (Takes May Bad IsBad : Type 0) (f : CallError) → (Takes → May) → (Bad → IsBad) → ErrorsAs Takes ⊥ Bad f → ErrorsAs May ⊥ IsBad f
errors_as Takes May Bad IsBad f may bad (inl (is, takes)) = inl (is, may takes)
errors_as Takes May Bad IsBad f may bad (inr (inl lacks)) = inr (inl lacks)
errors_as Takes May Bad IsBad f may bad (inr (inr (is, b))) = inr (inr (is, bad b))

pub not_memory : OutOfMemory ≡ BadArgument → ⊥
not_memory is = cc

-- an error with the status of a bad argument is one
pub is_bad : (Takes IsBad : Type 0) (f : CallError) → ErrorsAs Takes ⊥ IsBad f → code_of f ≡ WARG_BAD_ARGUMENT → IsBad
is_bad Takes IsBad f (inl (is, takes)) same = absurd (not_memory (sym is ∙ same-code f BadArgument same))
is_bad Takes IsBad f (inr (inl (is, lacks))) same = absurd lacks
is_bad Takes IsBad f (inr (inr (is, bad))) same = bad

-- so is an outcome
pub bad_outcome : {T : Type 0} (Takes IsBad : Type 0) (r : Result T CallError) → IfErr r (ErrorsAs Takes ⊥ IsBad) → status_of r ≡ WARG_BAD_ARGUMENT → IsBad
bad_outcome Takes IsBad (Ok v) is same = absurd (omega (arith, same))
bad_outcome Takes IsBad (Err f) is same = is_bad Takes IsBad f is same

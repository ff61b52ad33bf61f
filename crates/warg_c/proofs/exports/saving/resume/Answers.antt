use Rattle.std.proofs.Common.{◌≡◌, inl, inr, sym, ◌∙◌}
use Rattle.std.specs.Prelude.{IsOk}
use Rattle.warg_c.specs.declared.call_error.CallError.{CallError}
use Rattle.warg_c.specs.declared.call_error.CallError.TheVariants.{OutOfMemory, BadArgument}
use Rattle.warg_c.specs.AnyLogs.{kind_numbered}
use Rattle.warg_c.specs.Saved.{is_no_saved}
use Rattle.warg_c.specs.Statuses.{WARG_BAD_ARGUMENT, code_of}
use Rattle.warg_c.specs.Texts.{ErrorsAs}
use Rattle.warg_c.proofs.Codes.{same-code}
use Rattle.warg_c.proofs.exports.saving.resume.Goals as goal

not-memory : OutOfMemory ≡ BadArgument → ⊥
not-memory is = cc

-- an error with the status of a bad argument is one
is-bad : (Takes IsBad : Type 0) (f : CallError) → ErrorsAs Takes ⊥ IsBad f → code_of f ≡ WARG_BAD_ARGUMENT → IsBad
is-bad Takes IsBad f (inl (is, takes)) same = absurd (not-memory (sym is ∙ same-code f BadArgument same))
is-bad Takes IsBad f (inr (inl (is, lacks))) same = absurd lacks
is-bad Takes IsBad f (inr (inr (is, bad))) same = bad

pub returns-in-Err-clause-bad_argument : goal.returns-in-Err-clause-bad_argument
returns-in-Err-clause-bad_argument c = λ same.
    is-bad (IsOk (kind_numbered c.args.kind)) (is_no_saved c.args.kind c.args.saved.now c.resumed.new.used c.resumed.new.text) c.in-Err.call_error
    c.in-Err.ensures.err (sym c.status-in-Err.ensures.code ∙ same)

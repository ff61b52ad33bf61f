-- A status tells its outcome.
use Rattle.std.proofs.Common.{◌≡◌, ◌≤◌, ℕ, ◌==◌, false, Result, Ok, Err, refl, sym, ap, ◌∙◌, subst}
use Rattle.std.specs.Prelude.{OnOk, IfErr, if◌then◌else◌}
use Rattle.std.proofs.lemmas.Bool.{false≢true}
use Rattle.warg_c.specs.declared.call_error.CallError.{CallError}
use Rattle.warg_c.specs.declared.call_error.CallError.TheVariants.{NotOpen, OutOfMemory, TooSmall, NoEnvelope, Refused, Absent, BadArgument, UnknownAlgorithm}
use Rattle.warg_c.specs.Statuses.{code_of, status_of, IsStatusOf}

abbrev by_code : ℕ → CallError
by_code n =
    if n == 1 then NotOpen else if n == 2 then OutOfMemory else if n == 3 then TooSmall
    else if n == 4 then NoEnvelope else if n == 5 then Refused else if n == 6 then Absent else if n == 7 then BadArgument else UnknownAlgorithm

decodes : (f : CallError) → by_code (code_of f) ≡ f
decodes NotOpen = refl
decodes OutOfMemory = refl
decodes TooSmall = refl
decodes NoEnvelope = refl
decodes Refused = refl
decodes Absent = refl
decodes BadArgument = refl
decodes UnknownAlgorithm = refl

is-no-zero : (f : CallError) → (code_of f == 0) ≡ false
is-no-zero NotOpen = refl
is-no-zero OutOfMemory = refl
is-no-zero TooSmall = refl
is-no-zero NoEnvelope = refl
is-no-zero Refused = refl
is-no-zero Absent = refl
is-no-zero BadArgument = refl
is-no-zero UnknownAlgorithm = refl

-- errors of one status are the same
pub same-code : (f g : CallError) → code_of f ≡ code_of g → f ≡ g
same-code f g h = sym (decodes f) ∙ ap by_code h ∙ decodes g

pub no-zero : (f : CallError) → code_of f ≡ 0 → ⊥
no-zero f h = false≢true (sym (is-no-zero f) ∙ ap (λ n. n == 0) h)

pub answered : (P : Type 0) (Q : CallError → Type 0) (r : Result Unit CallError) (n : ℕ) → n ≡ status_of r → n ≤ 8 → OnOk r P → IfErr r Q → IsStatusOf n P Q
answered P Q (Ok u) n e small p q = (small, λ _. p, λ f h. absurd (no-zero f (sym h ∙ e)))
answered P Q (Err g) n e small p q = (small, λ h. absurd (no-zero g (sym e ∙ h)), λ f h. subst Q (sym (decodes g) ∙ ap by_code (sym e ∙ h) ∙ decodes f) q)

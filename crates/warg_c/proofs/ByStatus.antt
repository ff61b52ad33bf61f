-- Each status of a call by itself, as the exports say it, and all of them in one statement: the two say the same. A call of
-- no handle is one of a handle that holds something, and a call of fewer statuses is one of whose other errors nothing holds.
use Rattle.std.proofs.Common.{◌≡◌, ◌≢◌, ◌≤◌, ◌↔◌, ℕ, zero, suc, ◌+◌, ◌==◌, Bool, true, false, cond, List, [], ◌∷◌, take, Option, Some, None, refl, sym, ◌∙◌, arith}
use Rattle.std.specs.Prelude.{IsSomeAnd}
use Rattle.std.proofs.lemmas.Bool.{eqb-true}
use Rattle.warg_c.specs.ProofAnswers.{ProofErrors}
use Rattle.warg_c.specs.Statuses.{WARG_OK, WARG_NOT_OPEN, WARG_OUT_OF_MEMORY, WARG_TOO_SMALL, WARG_REFUSED, WARG_NONE, WARG_BAD_ARGUMENT, IsOneOf, code_of, Answers, IsStatusOf}
use Rattle.warg_c.specs.Texts.{CallErrors, NeedsRoom, TextErrors}
use Rattle.warg_c.specs.declared.call_error.CallError.{CallError}
use Rattle.warg_c.specs.declared.call_error.CallError.TheVariants.{NotOpen, OutOfMemory, TooSmall, NoEnvelope, Refused, Absent, BadArgument, UnknownAlgorithm}
use Rattle.warg_c.proofs.Codes.{no-zero, same-code}

-- a status is 0 or that of an error
pub coded : (n : ℕ) → n ≤ 8 → n ≢ 0 → (f : CallError) × (n ≡ code_of f)
coded zero few other = absurd (other refl)
coded (suc zero) few other = (NotOpen, refl)
coded (suc (suc zero)) few other = (OutOfMemory, refl)
coded (suc (suc (suc zero))) few other = (TooSmall, refl)
coded (suc (suc (suc (suc zero)))) few other = (NoEnvelope, refl)
coded (suc (suc (suc (suc (suc zero))))) few other = (Refused, refl)
coded (suc (suc (suc (suc (suc (suc zero)))))) few other = (Absent, refl)
coded (suc (suc (suc (suc (suc (suc (suc zero))))))) few other = (BadArgument, refl)
coded (suc (suc (suc (suc (suc (suc (suc (suc zero)))))))) few other = (UnknownAlgorithm, refl)
coded (suc (suc (suc (suc (suc (suc (suc (suc (suc m))))))))) few other = absurd (omega arith)

-- a number is at most 8 if it is none above
pub few-if : (n : ℕ) → ((m : ℕ) → n ≡ m + 9 → ⊥) → n ≤ 8
few-if zero none = omega arith
few-if (suc zero) none = omega arith
few-if (suc (suc zero)) none = omega arith
few-if (suc (suc (suc zero))) none = omega arith
few-if (suc (suc (suc (suc zero)))) none = omega arith
few-if (suc (suc (suc (suc (suc zero))))) none = omega arith
few-if (suc (suc (suc (suc (suc (suc zero)))))) none = omega arith
few-if (suc (suc (suc (suc (suc (suc (suc zero))))))) none = omega arith
few-if (suc (suc (suc (suc (suc (suc (suc (suc zero)))))))) none = omega arith
few-if (suc (suc (suc (suc (suc (suc (suc (suc (suc m))))))))) none = absurd (none m (omega arith))

-- one above is none of those
pub above : (n m s : ℕ) → n ≡ m + 9 → s ≤ 8 → n ≢ s
above n m s is few same = omega arith

-- the status of an error is not 0, nor that of another
pub not-ok : (n : ℕ) (f : CallError) → n ≡ code_of f → n ≢ WARG_OK
not-ok n f is done = no-zero f (sym is ∙ done)

pub not-of : (n : ℕ) (f g : CallError) → (f ≡ g → ⊥) → n ≡ code_of f → n ≢ code_of g
not-of n f g other is same = other (same-code f g (sym is ∙ same))

pub some-none : {H : Type 0} (h : H) → Some h ≡ None → ⊥
some-none h is = cc

-- a fact of what is held, by another
pub some-map : {H : Type 0} (P Q : H → Type 0) → ((h : H) → P h → Q h) → (o : Option H) → IsSomeAnd o P → IsSomeAnd o Q
some-map P Q to None never = never
some-map P Q to (Some h) p = to h p

-- a fact in which what is held has no part
pub some-fact : {H : Type 0} (P : Type 0) (o : Option H) → IsSomeAnd o (λ (h : H). P) → P
some-fact P None never = absurd never
some-fact P (Some h) p = p

-- and back, where something is held
pub some-any : {H : Type 0} (P : Type 0) → P → (o : Option H) → (o ≡ None → ⊥) → IsSomeAnd o (λ (h : H). P)
some-any P p None held = absurd (held refl)
some-any P p (Some h) held = p

-- the list without a status
abbrev pub without : ℕ → List ℕ → List ℕ
without s [] = []
without s (x ∷ xs) = cond (x == s) (without s xs) (x ∷ without s xs)

shorter-cons : (s n x : ℕ) (xs : List ℕ) → n ≢ s → (IsOneOf xs n → IsOneOf (without s xs) n) → IsOneOf (x ∷ xs) n → (t : Bool) → (x == s) ≡ t → IsOneOf (cond t (without s xs) (x ∷ without s xs)) n
shorter-cons s n x xs other rest one true is = rest (one (λ same. other (same ∙ eqb-true x s is)))
shorter-cons s n x xs other rest one false is = λ apart. rest (one apart)

-- a call that has fewer statuses: of the others nothing can hold, and its list leaves them out
pub shorter : (s n : ℕ) → n ≢ s → (ss : List ℕ) → IsOneOf ss n → IsOneOf (without s ss) n
shorter s n other [] one = one
shorter s n other (x ∷ xs) one = shorter-cons s n x xs other (shorter s n other xs) one (x == s) refl

longer-cons : (s n x : ℕ) (xs : List ℕ) → (IsOneOf (without s xs) n → IsOneOf xs n) → (t : Bool) → (x == s) ≡ t → IsOneOf (cond t (without s xs) (x ∷ without s xs)) n → IsOneOf (x ∷ xs) n
longer-cons s n x xs rest true is one = λ apart. rest one
longer-cons s n x xs rest false is one = λ apart. rest (one apart)

pub longer : (s n : ℕ) (ss : List ℕ) → IsOneOf (without s ss) n → IsOneOf ss n
longer s n [] one = one
longer s n (x ∷ xs) one = longer-cons s n x xs (longer s n xs) (x == s) refl one

module _ {H : Type 0} (n : ℕ) (P : H → Type 0) (Q : H → CallError → Type 0) where
  pub ok : (o : Option H) → Answers n o P Q → n ≡ WARG_OK → IsSomeAnd o P
  ok None is done = absurd (no-zero NotOpen (sym is ∙ done))
  ok (Some h) answer done = answer.1 done

  pub failed : (f : CallError) → (f ≡ NotOpen → ⊥) → (o : Option H) → Answers n o P Q → n ≡ code_of f → IsSomeAnd o (λ h. Q h f)
  failed f other None is code = absurd (other (same-code f NotOpen (sym code ∙ is)))
  failed f other (Some h) answer code = answer.2 f code

  pub not-open : ((h : H) → Q h NotOpen → ⊥) → (o : Option H) → Answers n o P Q → (n ≡ WARG_NOT_OPEN) ↔ (o ≡ None)
  not-open never None is = ((λ _. refl), λ _. is)
  not-open never (Some h) answer = ((λ is. absurd (never h (answer.2 NotOpen is))), λ is. absurd (some-none h is))

  -- the status is 0, 1 or that of an error that there is
  pub no-other : ((f : CallError) (h : H) → n ≡ code_of f → Q h f → ⊥) → (o : Option H) → Answers n o P Q → n ≢ WARG_OK → n ≢ WARG_NOT_OPEN → ⊥
  no-other never None is other closed = closed is
  no-other never (Some h) answer other closed = let found = coded n answer.0 other in never found.0 h found.1 (answer.2 found.0 found.1)

  -- back: each error by itself
  all-errors : (h : H) → ((n ≡ WARG_NOT_OPEN) ↔ (Some h ≡ None)) → ((f : CallError) → (f ≡ NotOpen → ⊥) → n ≡ code_of f → Q h f) → (f : CallError) → n ≡ code_of f → Q h f
  all-errors h closed errors NotOpen is = absurd (some-none h (closed.0 is))
  all-errors h closed errors OutOfMemory is = errors OutOfMemory (λ e. cc) is
  all-errors h closed errors TooSmall is = errors TooSmall (λ e. cc) is
  all-errors h closed errors NoEnvelope is = errors NoEnvelope (λ e. cc) is
  all-errors h closed errors Refused is = errors Refused (λ e. cc) is
  all-errors h closed errors Absent is = errors Absent (λ e. cc) is
  all-errors h closed errors BadArgument is = errors BadArgument (λ e. cc) is
  all-errors h closed errors UnknownAlgorithm is = errors UnknownAlgorithm (λ e. cc) is

  pub answers : ((m : ℕ) → n ≡ m + 9 → ⊥) → (o : Option H) → ((n ≡ WARG_NOT_OPEN) ↔ (o ≡ None)) → (n ≡ WARG_OK → IsSomeAnd o P)
      → ((f : CallError) → (f ≡ NotOpen → ⊥) → n ≡ code_of f → IsSomeAnd o (λ h. Q h f)) → Answers n o P Q
  answers few None closed done errors = closed.1 refl
  answers few (Some h) closed done errors = (few-if n few, done, all-errors h closed errors)

-- a call that gives a text or a list, of what a handle holds: `warg_head`, `warg_record`, `warg_latest`, `warg_release`,
-- `warg_releases`, `warg_namespace`, `warg_permissions`, `warg_key`, `warg_chain`, `warg_save`; and, of no handle,
-- `warg_proof_fault`, `warg_status_name`, `warg_version`
module _ {H A : Type 0} (n : ℕ) (o : Option H) (Takes : H → Type 0) (Tells : H → List A → Type 0) (Lacks IsBad : H → Type 0) (used : ℕ) (old new : List A) where
  pub record TextCall : Type 0 where
    pub statuses : IsOneOf (WARG_OK ∷ WARG_NOT_OPEN ∷ WARG_OUT_OF_MEMORY ∷ WARG_TOO_SMALL ∷ WARG_NONE ∷ WARG_BAD_ARGUMENT ∷ []) n
    pub not_open : (n ≡ WARG_NOT_OPEN) ↔ (o ≡ None)
    pub ok : n ≡ WARG_OK → IsSomeAnd o (λ h. Tells h (take used new))
    pub out_of_memory : n ≡ WARG_OUT_OF_MEMORY → IsSomeAnd o Takes
    pub too_small : n ≡ WARG_TOO_SMALL → IsSomeAnd o (λ h. NeedsRoom (Tells h) used old)
    pub none : n ≡ WARG_NONE → IsSomeAnd o Lacks
    pub bad_argument : n ≡ WARG_BAD_ARGUMENT → IsSomeAnd o IsBad

  -- the same in one statement
  abbrev pub TextAnswers : Type 0
  TextAnswers = Answers n o (λ h. Tells h (take used new)) (λ h. TextErrors (Takes h) (Tells h) (Lacks h) (IsBad h) used old)

  text-never : n ≢ WARG_OUT_OF_MEMORY → n ≢ WARG_TOO_SMALL → n ≢ WARG_NONE → n ≢ WARG_BAD_ARGUMENT → (f : CallError) (h : H) → n ≡ code_of f → TextErrors (Takes h) (Tells h) (Lacks h) (IsBad h) used old f → ⊥
  text-never memory small none bad OutOfMemory h is errors = memory is
  text-never memory small none bad TooSmall h is errors = small is
  text-never memory small none bad Absent h is errors = none is
  text-never memory small none bad BadArgument h is errors = bad is
  text-never memory small none bad f h is errors = errors

  pub text-each : TextAnswers → TextCall
  text-each answer = record {
    statuses = λ done closed memory small none bad. no-other n (λ h. Tells h (take used new)) (λ h. TextErrors (Takes h) (Tells h) (Lacks h) (IsBad h) used old) (text-never memory small none bad) o answer done closed;
    not_open = not-open n (λ h. Tells h (take used new)) (λ h. TextErrors (Takes h) (Tells h) (Lacks h) (IsBad h) used old) (λ h errors. errors) o answer;
    ok = ok n (λ h. Tells h (take used new)) (λ h. TextErrors (Takes h) (Tells h) (Lacks h) (IsBad h) used old) o answer;
    out_of_memory = failed n (λ h. Tells h (take used new)) (λ h. TextErrors (Takes h) (Tells h) (Lacks h) (IsBad h) used old) OutOfMemory (λ e. cc) o answer;
    too_small = failed n (λ h. Tells h (take used new)) (λ h. TextErrors (Takes h) (Tells h) (Lacks h) (IsBad h) used old) TooSmall (λ e. cc) o answer;
    none = failed n (λ h. Tells h (take used new)) (λ h. TextErrors (Takes h) (Tells h) (Lacks h) (IsBad h) used old) Absent (λ e. cc) o answer;
    bad_argument = failed n (λ h. Tells h (take used new)) (λ h. TextErrors (Takes h) (Tells h) (Lacks h) (IsBad h) used old) BadArgument (λ e. cc) o answer;
  }

  text-apart : TextCall → (f : CallError) → (f ≡ NotOpen → ⊥) → (f ≡ OutOfMemory → ⊥) → (f ≡ TooSmall → ⊥) → (f ≡ Absent → ⊥) → (f ≡ BadArgument → ⊥) → n ≡ code_of f → ⊥
  text-apart call f closed memory small none bad is =
      call.statuses (not-ok n f is) (not-of n f NotOpen closed is) (not-of n f OutOfMemory memory is) (not-of n f TooSmall small is) (not-of n f Absent none is) (not-of n f BadArgument bad is)

  text-errors : TextCall → (f : CallError) → (f ≡ NotOpen → ⊥) → n ≡ code_of f → IsSomeAnd o (λ h. TextErrors (Takes h) (Tells h) (Lacks h) (IsBad h) used old f)
  text-errors call NotOpen other is = absurd (other refl)
  text-errors call OutOfMemory other is = call.out_of_memory is
  text-errors call TooSmall other is = call.too_small is
  text-errors call NoEnvelope other is = absurd (text-apart call NoEnvelope other (λ e. cc) (λ e. cc) (λ e. cc) (λ e. cc) is)
  text-errors call Refused other is = absurd (text-apart call Refused other (λ e. cc) (λ e. cc) (λ e. cc) (λ e. cc) is)
  text-errors call Absent other is = call.none is
  text-errors call BadArgument other is = call.bad_argument is
  text-errors call UnknownAlgorithm other is = absurd (text-apart call UnknownAlgorithm other (λ e. cc) (λ e. cc) (λ e. cc) (λ e. cc) is)

  pub text-same : TextCall ↔ TextAnswers
  text-same = (
    λ call. answers n (λ h. Tells h (take used new)) (λ h. TextErrors (Takes h) (Tells h) (Lacks h) (IsBad h) used old)
        (λ m is. call.statuses (above n m 0 is (omega arith)) (above n m 1 is (omega arith)) (above n m 2 is (omega arith)) (above n m 3 is (omega arith)) (above n m 6 is (omega arith)) (above n m 7 is (omega arith))) o call.not_open call.ok (text-errors call),
    text-each,
  )

-- a call that gives no text, of what a handle holds: `warg_length`, `warg_holds`; and, of no handle, `warg_open`, `warg_resume`
module _ {H : Type 0} (n : ℕ) (o : Option H) (P Takes Lacks IsBad : H → Type 0) where
  pub record ValueCall : Type 0 where
    pub statuses : IsOneOf (WARG_OK ∷ WARG_NOT_OPEN ∷ WARG_OUT_OF_MEMORY ∷ WARG_NONE ∷ WARG_BAD_ARGUMENT ∷ []) n
    pub not_open : (n ≡ WARG_NOT_OPEN) ↔ (o ≡ None)
    pub ok : n ≡ WARG_OK → IsSomeAnd o P
    pub out_of_memory : n ≡ WARG_OUT_OF_MEMORY → IsSomeAnd o Takes
    pub none : n ≡ WARG_NONE → IsSomeAnd o Lacks
    pub bad_argument : n ≡ WARG_BAD_ARGUMENT → IsSomeAnd o IsBad

  -- the same in one statement
  abbrev pub ValueAnswers : Type 0
  ValueAnswers = Answers n o P (λ h. CallErrors (Takes h) (Lacks h) (IsBad h))

  value-never : n ≢ WARG_OUT_OF_MEMORY → n ≢ WARG_NONE → n ≢ WARG_BAD_ARGUMENT → (f : CallError) (h : H) → n ≡ code_of f → CallErrors (Takes h) (Lacks h) (IsBad h) f → ⊥
  value-never memory none bad OutOfMemory h is errors = memory is
  value-never memory none bad Absent h is errors = none is
  value-never memory none bad BadArgument h is errors = bad is
  value-never memory none bad f h is errors = errors

  pub value-each : ValueAnswers → ValueCall
  value-each answer = record {
    statuses = λ done closed memory none bad. no-other n P (λ h. CallErrors (Takes h) (Lacks h) (IsBad h)) (value-never memory none bad) o answer done closed;
    not_open = not-open n P (λ h. CallErrors (Takes h) (Lacks h) (IsBad h)) (λ h errors. errors) o answer;
    ok = ok n P (λ h. CallErrors (Takes h) (Lacks h) (IsBad h)) o answer;
    out_of_memory = failed n P (λ h. CallErrors (Takes h) (Lacks h) (IsBad h)) OutOfMemory (λ e. cc) o answer;
    none = failed n P (λ h. CallErrors (Takes h) (Lacks h) (IsBad h)) Absent (λ e. cc) o answer;
    bad_argument = failed n P (λ h. CallErrors (Takes h) (Lacks h) (IsBad h)) BadArgument (λ e. cc) o answer;
  }

  value-apart : ValueCall → (f : CallError) → (f ≡ NotOpen → ⊥) → (f ≡ OutOfMemory → ⊥) → (f ≡ Absent → ⊥) → (f ≡ BadArgument → ⊥) → n ≡ code_of f → ⊥
  value-apart call f closed memory none bad is =
      call.statuses (not-ok n f is) (not-of n f NotOpen closed is) (not-of n f OutOfMemory memory is) (not-of n f Absent none is) (not-of n f BadArgument bad is)

  value-errors : ValueCall → (f : CallError) → (f ≡ NotOpen → ⊥) → n ≡ code_of f → IsSomeAnd o (λ h. CallErrors (Takes h) (Lacks h) (IsBad h) f)
  value-errors call NotOpen other is = absurd (other refl)
  value-errors call OutOfMemory other is = call.out_of_memory is
  value-errors call TooSmall other is = absurd (value-apart call TooSmall other (λ e. cc) (λ e. cc) (λ e. cc) is)
  value-errors call NoEnvelope other is = absurd (value-apart call NoEnvelope other (λ e. cc) (λ e. cc) (λ e. cc) is)
  value-errors call Refused other is = absurd (value-apart call Refused other (λ e. cc) (λ e. cc) (λ e. cc) is)
  value-errors call Absent other is = call.none is
  value-errors call BadArgument other is = call.bad_argument is
  value-errors call UnknownAlgorithm other is = absurd (value-apart call UnknownAlgorithm other (λ e. cc) (λ e. cc) (λ e. cc) is)

  pub value-same : ValueCall ↔ ValueAnswers
  value-same = (
    λ call. answers n P (λ h. CallErrors (Takes h) (Lacks h) (IsBad h))
        (λ m is. call.statuses (above n m 0 is (omega arith)) (above n m 1 is (omega arith)) (above n m 2 is (omega arith)) (above n m 6 is (omega arith)) (above n m 7 is (omega arith))) o call.not_open call.ok (value-errors call),
    value-each,
  )

-- a call that judges a proof: `warg_verify_inclusion`, `warg_verify_consistency`, `warg_verify_presence`, `warg_verify_absence`
module _ (n : ℕ) (P Takes Differs IsBad : Type 0) where
  pub record ProofCall : Type 0 where
    pub statuses : IsOneOf (WARG_OK ∷ WARG_OUT_OF_MEMORY ∷ WARG_REFUSED ∷ WARG_BAD_ARGUMENT ∷ []) n
    pub ok : n ≡ WARG_OK → P
    pub out_of_memory : n ≡ WARG_OUT_OF_MEMORY → Takes
    pub refused : n ≡ WARG_REFUSED → Differs
    pub bad_argument : n ≡ WARG_BAD_ARGUMENT → IsBad

  -- the same in one statement
  abbrev pub ProofStatus : Type 0
  ProofStatus = IsStatusOf n P (ProofErrors Takes Differs IsBad)

  proof-never : n ≢ WARG_OUT_OF_MEMORY → n ≢ WARG_REFUSED → n ≢ WARG_BAD_ARGUMENT → (f : CallError) → n ≡ code_of f → ProofErrors Takes Differs IsBad f → ⊥
  proof-never memory refused bad OutOfMemory is errors = memory is
  proof-never memory refused bad Refused is errors = refused is
  proof-never memory refused bad BadArgument is errors = bad is
  proof-never memory refused bad f is errors = errors

  pub proof-each : ProofStatus → ProofCall
  proof-each answer = record {
    statuses = λ done memory refused bad. let found = coded n answer.0 done in proof-never memory refused bad found.0 found.1 (answer.2 found.0 found.1);
    ok = answer.1;
    out_of_memory = answer.2 OutOfMemory;
    refused = answer.2 Refused;
    bad_argument = answer.2 BadArgument;
  }

  proof-apart : ProofCall → (f : CallError) → (f ≡ OutOfMemory → ⊥) → (f ≡ Refused → ⊥) → (f ≡ BadArgument → ⊥) → n ≡ code_of f → ⊥
  proof-apart call f memory refused bad is = call.statuses (not-ok n f is) (not-of n f OutOfMemory memory is) (not-of n f Refused refused is) (not-of n f BadArgument bad is)

  proof-errors : ProofCall → (f : CallError) → n ≡ code_of f → ProofErrors Takes Differs IsBad f
  proof-errors call NotOpen is = proof-apart call NotOpen (λ e. cc) (λ e. cc) (λ e. cc) is
  proof-errors call OutOfMemory is = call.out_of_memory is
  proof-errors call TooSmall is = proof-apart call TooSmall (λ e. cc) (λ e. cc) (λ e. cc) is
  proof-errors call NoEnvelope is = proof-apart call NoEnvelope (λ e. cc) (λ e. cc) (λ e. cc) is
  proof-errors call Refused is = call.refused is
  proof-errors call Absent is = proof-apart call Absent (λ e. cc) (λ e. cc) (λ e. cc) is
  proof-errors call BadArgument is = call.bad_argument is
  proof-errors call UnknownAlgorithm is = proof-apart call UnknownAlgorithm (λ e. cc) (λ e. cc) (λ e. cc) is

  pub proof-same : ProofCall ↔ ProofStatus
  proof-same = (
    λ call. (few-if n (λ m is. call.statuses (above n m 0 is (omega arith)) (above n m 2 is (omega arith)) (above n m 5 is (omega arith)) (above n m 7 is (omega arith))), call.ok, proof-errors call),
    proof-each,
  )

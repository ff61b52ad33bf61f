-- Each status of the calls that ask, append, identify, verify and compare by itself, and all of them in one statement.
use Rattle.std.proofs.Common.{◌≡◌, ◌≢◌, ◌↔◌, ◌⊎◌, inl, inr, ℕ, zero, suc, Bool, true, false, List, [], ◌∷◌, take, Option, Some, None, Ok, Err, refl, arith}
use Rattle.std.specs.Prelude.{IsOk, IsSomeAnd}
use Rattle.std.proofs.lemmas.Bool.{false≢true}
use Rattle.warg_log_records.specs.Kinds.{SignatureRelation}
use Rattle.warg_p256.specs.Scheme.{p256_belongs}
use Rattle.warg_replay.specs.Telling.{verdict_belongs}
use Rattle.warg_c.specs.ComparisonAnswers.{AreBoth, compare_answers, compare_bad, compare_tells}
use Rattle.warg_c.specs.AppendAnswers.{OfAnswer, append_moves, ask_tells, asks_other, is_never_lawful, is_never_read, is_unlawful, is_unread, signed_moves, told_moves}
use Rattle.warg_c.specs.AppendErrors.{append_errors, ask_errors, signed_errors}
use Rattle.warg_c.specs.AnyLogs.{IsNoKind, kind_numbered}
use Rattle.warg_c.specs.Ids.{id_errors, id_tells, is_no_envelope}
use Rattle.warg_c.specs.ArgumentErrors.{argument_error_text}
use Rattle.warg_c.specs.Questions.{HoldsOf, SaysNone}
use Rattle.warg_c.specs.Statuses.{WARG_OK, WARG_NOT_OPEN, WARG_OUT_OF_MEMORY, WARG_TOO_SMALL, WARG_NO_ENVELOPE, WARG_REFUSED, WARG_BAD_ARGUMENT, WARG_UNKNOWN_ALGORITHM, IsOneOf, code_of, Answers, IsStatusOf}
use Rattle.warg_c.specs.Texts.{CallErrors, IsGiven, NeedsRoom}
use Rattle.warg_c.specs.Verifying.{IsJudged, IsNotVerified, IsOtherKey, VerifyErrors}
use Rattle.warg_c.specs.declared.exports.comparing.Comparison.{Comparison}
use Rattle.warg_c.specs.declared.call_error.CallError.{CallError}
use Rattle.warg_c.specs.declared.call_error.CallError.TheVariants.{NotOpen, OutOfMemory, TooSmall, NoEnvelope, Refused, Absent, BadArgument, UnknownAlgorithm}
use Rattle.warg_c.specs.declared.any_log.AnyLog.{AnyLog}
use Rattle.warg_c.specs.declared.any_log.AnyLog.TheVariants.{Package, Operator}
use Rattle.warg_c.specs.declared.any_log.LogKind.{LogKind}
use Rattle.warg_c.specs.declared.any_log.LogKind.TheVariants as kinds
use Rattle.warg_c.specs.declared.argument_error.ArgumentError.TheVariants.{BadQuestion, NoKind}
use Rattle.warg_c.specs.declared.question.Asked.{Asked}
use Rattle.warg_c.proofs.ByStatus.{above, answers, coded, failed, few-if, no-other, not-of, not-ok, not-open, ok, some-any, some-fact, some-none}

-- the same answer, where each error says the same
recast : {H : Type 0} (n : ℕ) (P : H → Type 0) (Q R : H → CallError → Type 0) → ((h : H) (f : CallError) → Q h f → R h f) → (o : Option H) → Answers n o P Q → Answers n o P R
recast n P Q R to None is = is
recast n P Q R to (Some h) answer = (answer.0, answer.1, λ f is. to h f (answer.2 f is))

kind-err : (kind : LogKind) → Ok kind ≡ Err BadArgument → ⊥
kind-err kind is = cc

-- one error is not another
other-call_error : (f : CallError) → f ≡ BadArgument → (f ≡ BadArgument → ⊥) → ⊥
other-call_error f is other = other is

-- what is asked: `warg_ask`
module _ (n : ℕ) (o : Option AnyLog) (envelope : List ℕ) (asked : Asked) (old : List ℕ) (used : ℕ) (new : List ℕ) where
  pub record AskCall : Type 0 where
    pub statuses : IsOneOf (WARG_OK ∷ WARG_NOT_OPEN ∷ WARG_OUT_OF_MEMORY ∷ WARG_TOO_SMALL ∷ WARG_NO_ENVELOPE ∷ WARG_REFUSED ∷ []) n
    pub not_open : (n ≡ WARG_NOT_OPEN) ↔ (o ≡ None)
    pub ok : n ≡ WARG_OK → IsSomeAnd o (λ held. ask_tells held envelope asked (take used new))
    pub too_small : n ≡ WARG_TOO_SMALL → IsSomeAnd o (λ held. NeedsRoom (ask_tells held envelope asked) used old)
    pub no_envelope : n ≡ WARG_NO_ENVELOPE → IsSomeAnd o (λ held. is_never_read held envelope used new)
    pub refused : n ≡ WARG_REFUSED → IsSomeAnd o (λ held. is_never_lawful held envelope used new)

  -- the same in one statement
  abbrev pub AskAnswers : Type 0
  AskAnswers = Answers n o (λ held. ask_tells held envelope asked (take used new)) (λ held. ask_errors held envelope asked old used new)

  abbrev IsTold : AnyLog → Type 0
  IsTold held = ask_tells held envelope asked (take used new)

  -- the same by the error
  abbrev AskBy : AnyLog → CallError → Type 0
  AskBy held OutOfMemory = Unit {0}
  AskBy held TooSmall = NeedsRoom (ask_tells held envelope asked) used old
  AskBy held NoEnvelope = is_never_read held envelope used new
  AskBy held Refused = is_never_lawful held envelope used new
  AskBy held f = ⊥

  ask-is : (held : AnyLog) (f : CallError) → ask_errors held envelope asked old used new f ↔ AskBy held f
  ask-is (Package log) NotOpen = ((λ x. x), λ x. x)
  ask-is (Package log) f = ((λ x. x), λ x. x)
  ask-is (Operator log) NotOpen = ((λ x. x), λ x. x)
  ask-is (Operator log) f = ((λ x. x), λ x. x)

  ask-never : n ≢ WARG_OUT_OF_MEMORY → n ≢ WARG_TOO_SMALL → n ≢ WARG_NO_ENVELOPE → n ≢ WARG_REFUSED → (f : CallError) (held : AnyLog) → n ≡ code_of f → AskBy held f → ⊥
  ask-never memory small none refused OutOfMemory held is errors = memory is
  ask-never memory small none refused TooSmall held is errors = small is
  ask-never memory small none refused NoEnvelope held is errors = none is
  ask-never memory small none refused Refused held is errors = refused is
  ask-never memory small none refused f held is errors = errors

  ask-of : Answers n o IsTold AskBy → AskCall
  ask-of answer = record {
    statuses = λ done closed memory small none refused. no-other n IsTold AskBy (ask-never memory small none refused) o answer done closed;
    not_open = not-open n IsTold AskBy (λ held errors. errors) o answer;
    ok = ok n IsTold AskBy o answer;
    too_small = failed n IsTold AskBy TooSmall (λ e. cc) o answer;
    no_envelope = failed n IsTold AskBy NoEnvelope (λ e. cc) o answer;
    refused = failed n IsTold AskBy Refused (λ e. cc) o answer;
  }

  pub ask-each : AskAnswers → AskCall
  ask-each answer = ask-of (recast n IsTold (λ held. ask_errors held envelope asked old used new) AskBy (λ held f. (ask-is held f).0) o answer)

  ask-apart : AskCall → (f : CallError) → (f ≡ NotOpen → ⊥) → (f ≡ OutOfMemory → ⊥) → (f ≡ TooSmall → ⊥) → (f ≡ NoEnvelope → ⊥) → (f ≡ Refused → ⊥) → n ≡ code_of f → ⊥
  ask-apart call f closed memory small none refused is =
      call.statuses (not-ok n f is) (not-of n f NotOpen closed is) (not-of n f OutOfMemory memory is) (not-of n f TooSmall small is) (not-of n f NoEnvelope none is) (not-of n f Refused refused is)

  ask-errors : AskCall → (f : CallError) → (f ≡ NotOpen → ⊥) → n ≡ code_of f → IsSomeAnd o (λ held. AskBy held f)
  ask-errors call NotOpen other is = absurd (other refl)
  ask-errors call OutOfMemory other is = some-any (Unit {0}) tt o (λ none. not-of n OutOfMemory NotOpen other is (call.not_open.1 none))
  ask-errors call TooSmall other is = call.too_small is
  ask-errors call NoEnvelope other is = call.no_envelope is
  ask-errors call Refused other is = call.refused is
  ask-errors call Absent other is = absurd (ask-apart call Absent other (λ e. cc) (λ e. cc) (λ e. cc) (λ e. cc) is)
  ask-errors call BadArgument other is = absurd (ask-apart call BadArgument other (λ e. cc) (λ e. cc) (λ e. cc) (λ e. cc) is)
  ask-errors call UnknownAlgorithm other is = absurd (ask-apart call UnknownAlgorithm other (λ e. cc) (λ e. cc) (λ e. cc) (λ e. cc) is)

  pub ask-same : AskCall ↔ AskAnswers
  ask-same = (
    λ call. recast n IsTold AskBy (λ held. ask_errors held envelope asked old used new) (λ held f. (ask-is held f).1) o
        (answers n IsTold AskBy (λ m is. call.statuses (above n m 0 is (omega arith)) (above n m 1 is (omega arith)) (above n m 2 is (omega arith)) (above n m 3 is (omega arith)) (above n m 4 is (omega arith)) (above n m 5 is (omega arith))) o call.not_open call.ok (ask-errors call)),
    ask-each,
  )

-- what becomes of a record by the caller's word: `warg_append`
module _ (n : ℕ) (o after : Option AnyLog) (belongs : Bool) (asked : Asked) (question envelope : List ℕ) (used : ℕ) (new : List ℕ) where
  pub record AppendCall : Type 0 where
    pub statuses : IsOneOf (WARG_OK ∷ WARG_NOT_OPEN ∷ WARG_OUT_OF_MEMORY ∷ WARG_NO_ENVELOPE ∷ WARG_REFUSED ∷ WARG_BAD_ARGUMENT ∷ []) n
    pub not_open : (n ≡ WARG_NOT_OPEN) ↔ (o ≡ None)
    pub ok : n ≡ WARG_OK → IsSomeAnd o (λ held. told_moves belongs asked question envelope held after)
    pub no_envelope : n ≡ WARG_NO_ENVELOPE → IsSomeAnd o (λ held. OfAnswer belongs asked question (λ answer. is_unread (verdict_belongs answer) held envelope used new))
    pub refused : n ≡ WARG_REFUSED → IsSomeAnd o (λ held. OfAnswer belongs asked question (λ answer. is_unlawful (verdict_belongs answer) held envelope used new))
    pub bad_argument : n ≡ WARG_BAD_ARGUMENT → SaysNone asked question × IsGiven (argument_error_text BadQuestion) used new

  -- the same in one statement
  abbrev pub AppendAnswers : Type 0
  AppendAnswers = Answers n o (λ held. (b : SignatureRelation) → HoldsOf b belongs asked question → append_moves b envelope held after) (λ held. append_errors held belongs asked question envelope used new)

  abbrev IsDone : AnyLog → Type 0
  IsDone held = told_moves belongs asked question envelope held after

  -- the same by the error
  abbrev AppendBy : AnyLog → CallError → Type 0
  AppendBy held OutOfMemory = Unit {0}
  AppendBy held NoEnvelope = OfAnswer belongs asked question (λ answer. is_unread (verdict_belongs answer) held envelope used new)
  AppendBy held Refused = OfAnswer belongs asked question (λ answer. is_unlawful (verdict_belongs answer) held envelope used new)
  AppendBy held BadArgument = SaysNone asked question × IsGiven (argument_error_text BadQuestion) used new
  AppendBy held f = ⊥

  append-is : (held : AnyLog) (f : CallError) → append_errors held belongs asked question envelope used new f ↔ AppendBy held f
  append-is (Package log) OutOfMemory = ((λ x. x), λ x. x)
  append-is (Package log) NoEnvelope = ((λ x. x), λ x. x)
  append-is (Package log) Refused = ((λ x. x), λ x. x)
  append-is (Package log) BadArgument = ((λ x. x), λ x. x)
  append-is (Package log) f = ((λ x. x.3), λ no. absurd no)
  append-is (Operator log) OutOfMemory = ((λ x. x), λ x. x)
  append-is (Operator log) NoEnvelope = ((λ x. x), λ x. x)
  append-is (Operator log) Refused = ((λ x. x), λ x. x)
  append-is (Operator log) BadArgument = ((λ x. x), λ x. x)
  append-is (Operator log) f = ((λ x. x.3), λ no. absurd no)

  append-never : n ≢ WARG_OUT_OF_MEMORY → n ≢ WARG_NO_ENVELOPE → n ≢ WARG_REFUSED → n ≢ WARG_BAD_ARGUMENT → (f : CallError) (held : AnyLog) → n ≡ code_of f → AppendBy held f → ⊥
  append-never memory none refused bad OutOfMemory held is errors = memory is
  append-never memory none refused bad NoEnvelope held is errors = none is
  append-never memory none refused bad Refused held is errors = refused is
  append-never memory none refused bad BadArgument held is errors = bad is
  append-never memory none refused bad f held is errors = errors

  append-of : Answers n o IsDone AppendBy → AppendCall
  append-of answer = record {
    statuses = λ done closed memory none refused bad. no-other n IsDone AppendBy (append-never memory none refused bad) o answer done closed;
    not_open = not-open n IsDone AppendBy (λ held errors. errors) o answer;
    ok = ok n IsDone AppendBy o answer;
    no_envelope = failed n IsDone AppendBy NoEnvelope (λ e. cc) o answer;
    refused = failed n IsDone AppendBy Refused (λ e. cc) o answer;
    bad_argument = λ is. some-fact (SaysNone asked question × IsGiven (argument_error_text BadQuestion) used new) o (failed n IsDone AppendBy BadArgument (λ e. cc) o answer is);
  }

  pub append-each : AppendAnswers → AppendCall
  append-each answer = append-of (recast n IsDone (λ held. append_errors held belongs asked question envelope used new) AppendBy (λ held f. (append-is held f).0) o answer)

  append-apart : AppendCall → (f : CallError) → (f ≡ NotOpen → ⊥) → (f ≡ OutOfMemory → ⊥) → (f ≡ NoEnvelope → ⊥) → (f ≡ Refused → ⊥) → (f ≡ BadArgument → ⊥) → n ≡ code_of f → ⊥
  append-apart call f closed memory none refused bad is =
      call.statuses (not-ok n f is) (not-of n f NotOpen closed is) (not-of n f OutOfMemory memory is) (not-of n f NoEnvelope none is) (not-of n f Refused refused is) (not-of n f BadArgument bad is)

  append-errors : AppendCall → (f : CallError) → (f ≡ NotOpen → ⊥) → n ≡ code_of f → IsSomeAnd o (λ held. AppendBy held f)
  append-errors call NotOpen other is = absurd (other refl)
  append-errors call OutOfMemory other is = some-any (Unit {0}) tt o (λ none. not-of n OutOfMemory NotOpen other is (call.not_open.1 none))
  append-errors call TooSmall other is = absurd (append-apart call TooSmall other (λ e. cc) (λ e. cc) (λ e. cc) (λ e. cc) is)
  append-errors call NoEnvelope other is = call.no_envelope is
  append-errors call Refused other is = call.refused is
  append-errors call Absent other is = absurd (append-apart call Absent other (λ e. cc) (λ e. cc) (λ e. cc) (λ e. cc) is)
  append-errors call BadArgument other is =
      some-any (SaysNone asked question × IsGiven (argument_error_text BadQuestion) used new) (call.bad_argument is) o (λ none. not-of n BadArgument NotOpen other is (call.not_open.1 none))
  append-errors call UnknownAlgorithm other is = absurd (append-apart call UnknownAlgorithm other (λ e. cc) (λ e. cc) (λ e. cc) (λ e. cc) is)

  pub append-same : AppendCall ↔ AppendAnswers
  append-same = (
    λ call. recast n IsDone AppendBy (λ held. append_errors held belongs asked question envelope used new) (λ held f. (append-is held f).1) o
        (answers n IsDone AppendBy (λ m is. call.statuses (above n m 0 is (omega arith)) (above n m 1 is (omega arith)) (above n m 2 is (omega arith)) (above n m 4 is (omega arith)) (above n m 5 is (omega arith)) (above n m 7 is (omega arith))) o call.not_open call.ok (append-errors call)),
    append-each,
  )

-- what becomes of a record where the library verifies: `warg_append_signed`
module _ (n : ℕ) (o after : Option AnyLog) (envelope : List ℕ) (used : ℕ) (new : List ℕ) where
  pub record SignedCall : Type 0 where
    pub statuses : IsOneOf (WARG_OK ∷ WARG_NOT_OPEN ∷ WARG_OUT_OF_MEMORY ∷ WARG_NO_ENVELOPE ∷ WARG_REFUSED ∷ WARG_UNKNOWN_ALGORITHM ∷ []) n
    pub not_open : (n ≡ WARG_NOT_OPEN) ↔ (o ≡ None)
    pub ok : n ≡ WARG_OK → IsSomeAnd o (λ held. signed_moves envelope held after)
    pub no_envelope : n ≡ WARG_NO_ENVELOPE → IsSomeAnd o (λ held. is_unread p256_belongs held envelope used new)
    pub refused : n ≡ WARG_REFUSED → IsSomeAnd o (λ held. is_unlawful p256_belongs held envelope used new × (¬ asks_other held envelope))
    pub unknown_algorithm : n ≡ WARG_UNKNOWN_ALGORITHM → IsSomeAnd o (λ held. asks_other held envelope)

  -- the same in one statement
  abbrev pub SignedAnswers : Type 0
  SignedAnswers = Answers n o (λ held. signed_moves envelope held after) (λ held. signed_errors held envelope used new)

  abbrev IsSigned : AnyLog → Type 0
  IsSigned held = signed_moves envelope held after

  -- the same by the error
  abbrev SignedBy : AnyLog → CallError → Type 0
  SignedBy held OutOfMemory = Unit {0}
  SignedBy held NoEnvelope = is_unread p256_belongs held envelope used new
  SignedBy held Refused = is_unlawful p256_belongs held envelope used new × (¬ asks_other held envelope)
  SignedBy held UnknownAlgorithm = asks_other held envelope
  SignedBy held f = ⊥

  signed-is : (held : AnyLog) (f : CallError) → signed_errors held envelope used new f ↔ SignedBy held f
  signed-is (Package log) NotOpen = ((λ x. x), λ x. x)
  signed-is (Package log) f = ((λ x. x), λ x. x)
  signed-is (Operator log) NotOpen = ((λ x. x), λ x. x)
  signed-is (Operator log) f = ((λ x. x), λ x. x)

  signed-never : n ≢ WARG_OUT_OF_MEMORY → n ≢ WARG_NO_ENVELOPE → n ≢ WARG_REFUSED → n ≢ WARG_UNKNOWN_ALGORITHM → (f : CallError) (held : AnyLog) → n ≡ code_of f → SignedBy held f → ⊥
  signed-never memory none refused unknown OutOfMemory held is errors = memory is
  signed-never memory none refused unknown NoEnvelope held is errors = none is
  signed-never memory none refused unknown Refused held is errors = refused is
  signed-never memory none refused unknown UnknownAlgorithm held is errors = unknown is
  signed-never memory none refused unknown f held is errors = errors

  signed-of : Answers n o IsSigned SignedBy → SignedCall
  signed-of answer = record {
    statuses = λ done closed memory none refused unknown. no-other n IsSigned SignedBy (signed-never memory none refused unknown) o answer done closed;
    not_open = not-open n IsSigned SignedBy (λ held errors. errors) o answer;
    ok = ok n IsSigned SignedBy o answer;
    no_envelope = failed n IsSigned SignedBy NoEnvelope (λ e. cc) o answer;
    refused = failed n IsSigned SignedBy Refused (λ e. cc) o answer;
    unknown_algorithm = failed n IsSigned SignedBy UnknownAlgorithm (λ e. cc) o answer;
  }

  pub signed-each : SignedAnswers → SignedCall
  signed-each answer = signed-of (recast n IsSigned (λ held. signed_errors held envelope used new) SignedBy (λ held f. (signed-is held f).0) o answer)

  signed-apart : SignedCall → (f : CallError) → (f ≡ NotOpen → ⊥) → (f ≡ OutOfMemory → ⊥) → (f ≡ NoEnvelope → ⊥) → (f ≡ Refused → ⊥) → (f ≡ UnknownAlgorithm → ⊥) → n ≡ code_of f → ⊥
  signed-apart call f closed memory none refused unknown is =
      call.statuses (not-ok n f is) (not-of n f NotOpen closed is) (not-of n f OutOfMemory memory is) (not-of n f NoEnvelope none is) (not-of n f Refused refused is) (not-of n f UnknownAlgorithm unknown is)

  signed-errors : SignedCall → (f : CallError) → (f ≡ NotOpen → ⊥) → n ≡ code_of f → IsSomeAnd o (λ held. SignedBy held f)
  signed-errors call NotOpen other is = absurd (other refl)
  signed-errors call OutOfMemory other is = some-any (Unit {0}) tt o (λ none. not-of n OutOfMemory NotOpen other is (call.not_open.1 none))
  signed-errors call TooSmall other is = absurd (signed-apart call TooSmall other (λ e. cc) (λ e. cc) (λ e. cc) (λ e. cc) is)
  signed-errors call NoEnvelope other is = call.no_envelope is
  signed-errors call Refused other is = call.refused is
  signed-errors call Absent other is = absurd (signed-apart call Absent other (λ e. cc) (λ e. cc) (λ e. cc) (λ e. cc) is)
  signed-errors call BadArgument other is = absurd (signed-apart call BadArgument other (λ e. cc) (λ e. cc) (λ e. cc) (λ e. cc) is)
  signed-errors call UnknownAlgorithm other is = call.unknown_algorithm is

  pub signed-same : SignedCall ↔ SignedAnswers
  signed-same = (
    λ call. recast n IsSigned SignedBy (λ held. signed_errors held envelope used new) (λ held f. (signed-is held f).1) o
        (answers n IsSigned SignedBy (λ m is. call.statuses (above n m 0 is (omega arith)) (above n m 1 is (omega arith)) (above n m 2 is (omega arith)) (above n m 4 is (omega arith)) (above n m 5 is (omega arith)) (above n m 8 is (omega arith))) o call.not_open call.ok (signed-errors call)),
    signed-each,
  )

-- the id of an envelope's record: `warg_id`
module _ (n kind : ℕ) (envelope old : List ℕ) (used : ℕ) (new : List ℕ) where
  pub record IdCall : Type 0 where
    pub statuses : IsOneOf (WARG_OK ∷ WARG_OUT_OF_MEMORY ∷ WARG_TOO_SMALL ∷ WARG_NO_ENVELOPE ∷ WARG_BAD_ARGUMENT ∷ []) n
    pub ok : n ≡ WARG_OK → id_tells kind envelope (take used new)
    pub out_of_memory : n ≡ WARG_OUT_OF_MEMORY → IsOk (kind_numbered kind)
    pub too_small : n ≡ WARG_TOO_SMALL → NeedsRoom (id_tells kind envelope) used old
    pub no_envelope : n ≡ WARG_NO_ENVELOPE → is_no_envelope kind envelope used new
    pub bad_argument : n ≡ WARG_BAD_ARGUMENT → IsNoKind kind × IsGiven (argument_error_text NoKind) used new

  -- the same in one statement
  abbrev pub IdStatus : Type 0
  IdStatus = IsStatusOf n (id_tells kind envelope (take used new)) (id_errors kind envelope old used new)

-- the same by the error
module _ (envelope old : List ℕ) (used : ℕ) (new : List ℕ) where
  abbrev IdBy : ℕ → CallError → Type 0
  IdBy kind OutOfMemory = IsOk (kind_numbered kind)
  IdBy kind TooSmall = NeedsRoom (id_tells kind envelope) used old
  IdBy kind NoEnvelope = is_no_envelope kind envelope used new
  IdBy kind BadArgument = IsNoKind kind × IsGiven (argument_error_text NoKind) used new
  IdBy kind f = ⊥

  id-is : (kind : ℕ) (f : CallError) → id_errors kind envelope old used new f ↔ IdBy kind f
  id-is zero OutOfMemory = ((λ _. refl), λ _. tt)
  id-is zero BadArgument = ((λ no. absurd no), λ x. absurd (kind-err kinds.Package x.0))
  id-is zero f = ((λ x. x), λ x. x)
  id-is (suc zero) OutOfMemory = ((λ _. refl), λ _. tt)
  id-is (suc zero) BadArgument = ((λ no. absurd no), λ x. absurd (kind-err kinds.Operator x.0))
  id-is (suc zero) f = ((λ x. x), λ x. x)
  id-is (suc (suc k)) NotOpen = ((λ x. other-call_error NotOpen x.0 (λ e. cc)), λ no. absurd no)
  id-is (suc (suc k)) OutOfMemory = ((λ x. absurd (other-call_error OutOfMemory x.0 (λ e. cc))), λ is. absurd (false≢true is))
  id-is (suc (suc k)) TooSmall = ((λ x. absurd (other-call_error TooSmall x.0 (λ e. cc))), λ x. absurd x.1)
  id-is (suc (suc k)) NoEnvelope = ((λ x. absurd (other-call_error NoEnvelope x.0 (λ e. cc))), λ no. absurd no)
  id-is (suc (suc k)) Refused = ((λ x. other-call_error Refused x.0 (λ e. cc)), λ no. absurd no)
  id-is (suc (suc k)) Absent = ((λ x. other-call_error Absent x.0 (λ e. cc)), λ no. absurd no)
  id-is (suc (suc k)) BadArgument = ((λ x. (refl, x.1)), λ x. (refl, x.1))
  id-is (suc (suc k)) UnknownAlgorithm = ((λ x. other-call_error UnknownAlgorithm x.0 (λ e. cc)), λ no. absurd no)

module _ (n kind : ℕ) (envelope old : List ℕ) (used : ℕ) (new : List ℕ) where
  id-never : n ≢ WARG_OUT_OF_MEMORY → n ≢ WARG_TOO_SMALL → n ≢ WARG_NO_ENVELOPE → n ≢ WARG_BAD_ARGUMENT → (f : CallError) → n ≡ code_of f → IdBy envelope old used new kind f → ⊥
  id-never memory small none bad OutOfMemory is errors = memory is
  id-never memory small none bad TooSmall is errors = small is
  id-never memory small none bad NoEnvelope is errors = none is
  id-never memory small none bad BadArgument is errors = bad is
  id-never memory small none bad f is errors = errors

  pub id-each : IdStatus n kind envelope old used new → IdCall n kind envelope old used new
  id-each answer = record {
    statuses = λ done memory small none bad. let found = coded n answer.0 done in id-never memory small none bad found.0 found.1 ((id-is envelope old used new kind found.0).0 (answer.2 found.0 found.1));
    ok = answer.1;
    out_of_memory = λ is. (id-is envelope old used new kind OutOfMemory).0 (answer.2 OutOfMemory is);
    too_small = λ is. (id-is envelope old used new kind TooSmall).0 (answer.2 TooSmall is);
    no_envelope = λ is. (id-is envelope old used new kind NoEnvelope).0 (answer.2 NoEnvelope is);
    bad_argument = λ is. (id-is envelope old used new kind BadArgument).0 (answer.2 BadArgument is);
  }

  id-apart : IdCall n kind envelope old used new → (f : CallError) → (f ≡ OutOfMemory → ⊥) → (f ≡ TooSmall → ⊥) → (f ≡ NoEnvelope → ⊥) → (f ≡ BadArgument → ⊥) → n ≡ code_of f → ⊥
  id-apart call f memory small none bad is = call.statuses (not-ok n f is) (not-of n f OutOfMemory memory is) (not-of n f TooSmall small is) (not-of n f NoEnvelope none is) (not-of n f BadArgument bad is)

  id-errors : IdCall n kind envelope old used new → (f : CallError) → n ≡ code_of f → IdBy envelope old used new kind f
  id-errors call NotOpen is = id-apart call NotOpen (λ e. cc) (λ e. cc) (λ e. cc) (λ e. cc) is
  id-errors call OutOfMemory is = call.out_of_memory is
  id-errors call TooSmall is = call.too_small is
  id-errors call NoEnvelope is = call.no_envelope is
  id-errors call Refused is = id-apart call Refused (λ e. cc) (λ e. cc) (λ e. cc) (λ e. cc) is
  id-errors call Absent is = id-apart call Absent (λ e. cc) (λ e. cc) (λ e. cc) (λ e. cc) is
  id-errors call BadArgument is = call.bad_argument is
  id-errors call UnknownAlgorithm is = id-apart call UnknownAlgorithm (λ e. cc) (λ e. cc) (λ e. cc) (λ e. cc) is

  pub id-same : IdCall n kind envelope old used new ↔ IdStatus n kind envelope old used new
  id-same = (
    λ call. (few-if n (λ m is. call.statuses (above n m 0 is (omega arith)) (above n m 2 is (omega arith)) (above n m 3 is (omega arith)) (above n m 4 is (omega arith)) (above n m 7 is (omega arith))), call.ok, λ f is. (id-is envelope old used new kind f).1 (id-errors call f is)),
    id-each,
  )

-- whether a signature belongs: `warg_verify`
module _ (n : ℕ) (key message signature : List ℕ) where
  pub record VerifyCall : Type 0 where
    pub statuses : IsOneOf (WARG_OK ∷ WARG_OUT_OF_MEMORY ∷ WARG_REFUSED ∷ WARG_BAD_ARGUMENT ∷ WARG_UNKNOWN_ALGORITHM ∷ []) n
    pub ok : n ≡ WARG_OK → IsJudged key message signature true
    pub refused : n ≡ WARG_REFUSED → IsJudged key message signature false
    pub bad_argument : n ≡ WARG_BAD_ARGUMENT → IsNotVerified key signature
    pub unknown_algorithm : n ≡ WARG_UNKNOWN_ALGORITHM → IsOtherKey key

  -- the same in one statement
  abbrev pub VerifyStatus : Type 0
  VerifyStatus = IsStatusOf n (IsJudged key message signature true) (VerifyErrors key message signature)

  verify-never : n ≢ WARG_OUT_OF_MEMORY → n ≢ WARG_REFUSED → n ≢ WARG_BAD_ARGUMENT → n ≢ WARG_UNKNOWN_ALGORITHM → (f : CallError) → n ≡ code_of f → VerifyErrors key message signature f → ⊥
  verify-never memory refused bad unknown OutOfMemory is errors = memory is
  verify-never memory refused bad unknown Refused is errors = refused is
  verify-never memory refused bad unknown BadArgument is errors = bad is
  verify-never memory refused bad unknown UnknownAlgorithm is errors = unknown is
  verify-never memory refused bad unknown f is errors = errors

  pub verify-each : VerifyStatus → VerifyCall
  verify-each answer = record {
    statuses = λ done memory refused bad unknown. let found = coded n answer.0 done in verify-never memory refused bad unknown found.0 found.1 (answer.2 found.0 found.1);
    ok = answer.1;
    refused = answer.2 Refused;
    bad_argument = answer.2 BadArgument;
    unknown_algorithm = answer.2 UnknownAlgorithm;
  }

  verify-apart : VerifyCall → (f : CallError) → (f ≡ OutOfMemory → ⊥) → (f ≡ Refused → ⊥) → (f ≡ BadArgument → ⊥) → (f ≡ UnknownAlgorithm → ⊥) → n ≡ code_of f → ⊥
  verify-apart call f memory refused bad unknown is = call.statuses (not-ok n f is) (not-of n f OutOfMemory memory is) (not-of n f Refused refused is) (not-of n f BadArgument bad is) (not-of n f UnknownAlgorithm unknown is)

  verify-errors : VerifyCall → (f : CallError) → n ≡ code_of f → VerifyErrors key message signature f
  verify-errors call NotOpen is = verify-apart call NotOpen (λ e. cc) (λ e. cc) (λ e. cc) (λ e. cc) is
  verify-errors call OutOfMemory is = tt
  verify-errors call TooSmall is = verify-apart call TooSmall (λ e. cc) (λ e. cc) (λ e. cc) (λ e. cc) is
  verify-errors call NoEnvelope is = verify-apart call NoEnvelope (λ e. cc) (λ e. cc) (λ e. cc) (λ e. cc) is
  verify-errors call Refused is = call.refused is
  verify-errors call Absent is = verify-apart call Absent (λ e. cc) (λ e. cc) (λ e. cc) (λ e. cc) is
  verify-errors call BadArgument is = call.bad_argument is
  verify-errors call UnknownAlgorithm is = call.unknown_algorithm is

  pub verify-same : VerifyCall ↔ VerifyStatus
  verify-same = (
    λ call. (few-if n (λ m is. call.statuses (above n m 0 is (omega arith)) (above n m 2 is (omega arith)) (above n m 5 is (omega arith)) (above n m 7 is (omega arith)) (above n m 8 is (omega arith))), call.ok, verify-errors call),
    verify-each,
  )

-- how what two handles hold compares: `warg_compare`
pub record CompareCall (n : ℕ) (left right : Option AnyLog) (comparison : Comparison) : Type 0 where
  pub statuses : IsOneOf (WARG_OK ∷ WARG_NOT_OPEN ∷ WARG_BAD_ARGUMENT ∷ []) n
  pub not_open : (n ≡ WARG_NOT_OPEN) ↔ ((left ≡ None) ⊎ (right ≡ None))
  pub ok : n ≡ WARG_OK → AreBoth left right (λ l r. compare_tells l r comparison)
  pub bad_argument : n ≡ WARG_BAD_ARGUMENT → AreBoth left right compare_bad

none-open : (n : ℕ) (left right : Option AnyLog) (comparison : Comparison) → n ≡ WARG_NOT_OPEN → (left ≡ None) ⊎ (right ≡ None) → CompareCall n left right comparison
none-open n left right comparison is closed = record {
  statuses = λ done not_open bad. not_open is;
  not_open = ((λ _. closed), λ _. is);
  ok = λ done. absurd (not-ok n NotOpen is done);
  bad_argument = λ bad. absurd (not-of n NotOpen BadArgument (λ e. cc) is bad);
}

neither : (l r : AnyLog) → (Some l ≡ None) ⊎ (Some r ≡ None) → ⊥
neither l r (inl is) = some-none l is
neither l r (inr is) = some-none r is

compare-never : (IsBad : Type 0) (n : ℕ) → n ≢ WARG_BAD_ARGUMENT → (f : CallError) → n ≡ code_of f → CallErrors ⊥ ⊥ IsBad f → ⊥
compare-never IsBad n bad BadArgument is errors = bad is
compare-never IsBad n bad f is errors = errors

pub compare-each : (n : ℕ) (left right : Option AnyLog) (comparison : Comparison) → compare_answers n left right comparison → CompareCall n left right comparison
compare-each n None right comparison is = none-open n None right comparison is (inl refl)
compare-each n (Some l) None comparison is = none-open n (Some l) None comparison is (inr refl)
compare-each n (Some l) (Some r) comparison answer = record {
  statuses = λ done not_open bad. let found = coded n answer.0 done in compare-never (compare_bad l r) n bad found.0 found.1 (answer.2 found.0 found.1);
  not_open = ((λ is. absurd (answer.2 NotOpen is)), λ closed. absurd (neither l r closed));
  ok = answer.1;
  bad_argument = answer.2 BadArgument;
}

compare-apart : (n : ℕ) (l r : AnyLog) (comparison : Comparison) → CompareCall n (Some l) (Some r) comparison → (f : CallError) → (f ≡ BadArgument → ⊥) → n ≡ code_of f → ⊥
compare-apart n l r comparison call f bad is = call.statuses (not-ok n f is) (λ closed. neither l r (call.not_open.0 closed)) (not-of n f BadArgument bad is)

compare-errors : (n : ℕ) (l r : AnyLog) (comparison : Comparison) → CompareCall n (Some l) (Some r) comparison → (f : CallError) → n ≡ code_of f → CallErrors ⊥ ⊥ (compare_bad l r) f
compare-errors n l r comparison call NotOpen is = compare-apart n l r comparison call NotOpen (λ e. cc) is
compare-errors n l r comparison call OutOfMemory is = compare-apart n l r comparison call OutOfMemory (λ e. cc) is
compare-errors n l r comparison call TooSmall is = compare-apart n l r comparison call TooSmall (λ e. cc) is
compare-errors n l r comparison call NoEnvelope is = compare-apart n l r comparison call NoEnvelope (λ e. cc) is
compare-errors n l r comparison call Refused is = compare-apart n l r comparison call Refused (λ e. cc) is
compare-errors n l r comparison call Absent is = compare-apart n l r comparison call Absent (λ e. cc) is
compare-errors n l r comparison call BadArgument is = call.bad_argument is
compare-errors n l r comparison call UnknownAlgorithm is = compare-apart n l r comparison call UnknownAlgorithm (λ e. cc) is

compare-back : (n : ℕ) (left right : Option AnyLog) (comparison : Comparison) → CompareCall n left right comparison → compare_answers n left right comparison
compare-back n None right comparison call = call.not_open.1 (inl refl)
compare-back n (Some l) None comparison call = call.not_open.1 (inr refl)
compare-back n (Some l) (Some r) comparison call =
    (few-if n (λ m is. call.statuses (above n m 0 is (omega arith)) (above n m 1 is (omega arith)) (above n m 7 is (omega arith))), call.ok, compare-errors n l r comparison call)

pub compare-same : (n : ℕ) (left right : Option AnyLog) (comparison : Comparison) → CompareCall n left right comparison ↔ compare_answers n left right comparison
compare-same n left right comparison = (compare-back n left right comparison, compare-each n left right comparison)

-- What becomes of a handle's log, by the caller's verdict on a question or by the library's own verification.
use Rattle.std.proofs.Common.{◌≡◌, ◌≤◌, ℕ, List, Bool, Option, Some, Result, Ok, Err, sym, ◌∙◌, ap, subst}
use Rattle.std.specs.Prelude.{OnOk, OnErr, IfErr}
use Rattle.warg_p256.specs.Scheme.{p256_belongs}
use Rattle.warg_log_records.specs.Kinds.{SignatureRelation, AcceptsNoMore}
use Rattle.warg_replay.specs.Telling.{Holds}
use Rattle.warg_replay.specs.declared.external.signature_verdict.SignatureVerdict.{SignatureVerdict}
use Rattle.warg_c.specs.declared.call_error.CallError.{CallError}
use Rattle.warg_c.specs.declared.call_error.CallError.TheVariants.{NotOpen, OutOfMemory, TooSmall, NoEnvelope, Refused, Absent, BadArgument, UnknownAlgorithm}
use Rattle.warg_c.specs.declared.any_log.AnyLog.{AnyLog}
use Rattle.warg_c.specs.declared.any_log.AnyLog.TheVariants.{Package, Operator}
use Rattle.warg_c.specs.declared.question.Asked.{Asked}
use Rattle.warg_c.specs.AppendAnswers.{append_does, append_moves, may_come, signed_moves}
use Rattle.warg_c.specs.AppendErrors.{append_errors, append_refuses}
use Rattle.warg_c.specs.Questions.{Says, HoldsOf}
use Rattle.warg_c.specs.Runs.{Call, IsCall, HoldsOfVerdict}
use Rattle.warg_c.specs.Statuses.{status_of, Answers}
use Rattle.warg_c.proofs.Codes.{answered, no-zero}

pub holds-told : (b : SignatureRelation) (belongs : Bool) (n : Asked) (question : List ℕ) (t : SignatureVerdict) → Says n question t.question → t.belongs ≡ belongs → HoldsOf b belongs n question → Holds b t
holds-told b belongs n question t says same holds = λ yes. holds (sym same ∙ yes) t.question says

-- no answer is refused as a bad argument
refuses-no-argument : (held : AnyLog) (t : SignatureVerdict) (envelope : List ℕ) (used : ℕ) (new : List ℕ) → append_refuses held t envelope used new BadArgument → ⊥
refuses-no-argument (Package log) t envelope used new h = h
refuses-no-argument (Operator log) t envelope used new h = h

pub errors-told : (held : AnyLog) (belongs : Bool) (n : Asked) (question envelope : List ℕ) (used : ℕ) (new : List ℕ) (t : SignatureVerdict) → Says n question t.question → t.belongs ≡ belongs → (f : CallError)
    → append_refuses held t envelope used new f → append_errors held belongs n question envelope used new f
errors-told held belongs n question envelope used new t says same NotOpen h = (t, says, same, h)
errors-told held belongs n question envelope used new t says same OutOfMemory h = tt
errors-told held belongs n question envelope used new t says same TooSmall h = (t, says, same, h)
errors-told held belongs n question envelope used new t says same NoEnvelope h = (t, says, same, h)
errors-told held belongs n question envelope used new t says same Refused h = (t, says, same, h)
errors-told held belongs n question envelope used new t says same Absent h = (t, says, same, h)
errors-told held belongs n question envelope used new t says same BadArgument h = absurd (refuses-no-argument held t envelope used new h)
errors-told held belongs n question envelope used new t says same UnknownAlgorithm h = (t, says, same, h)

pub errors-if : {X : Type 0} (held : AnyLog) (belongs : Bool) (n : Asked) (question envelope : List ℕ) (used : ℕ) (new : List ℕ) (t : SignatureVerdict) → Says n question t.question → t.belongs ≡ belongs → (r : Result X CallError)
    → IfErr r (append_refuses held t envelope used new) → IfErr r (append_errors held belongs n question envelope used new)
errors-if held belongs n question envelope used new t says same (Ok x) h = tt
errors-if held belongs n question envelope used new t says same (Err f) h = errors-told held belongs n question envelope used new t says same f h

-- what a handle held, with the record
pub moves : (b : SignatureRelation) (envelope : List ℕ) (old : AnyLog) (kept : Option AnyLog) (new : AnyLog) → kept ≡ Some new → append_does b envelope old new → append_moves b envelope old kept
moves b envelope old kept new is does = subst (λ o. append_moves b envelope old o) (sym is) does

-- the same under each relation of which something holds
does-moves : {X : Type 0} (Fits : SignatureRelation → Type 0) (envelope : List ℕ) (old : AnyLog) (kept : Option AnyLog) (new : AnyLog) → kept ≡ Some new → (r : Result X CallError) → OnOk r ((b : SignatureRelation) → Fits b → append_does b envelope old new)
    → OnOk r ((b : SignatureRelation) → Fits b → append_moves b envelope old kept)
does-moves Fits envelope old kept new is (Ok x) does = λ b fits. moves b envelope old kept new is (does b fits)
does-moves Fits envelope old kept new is (Err f) does = tt

both : {X : Type 0} (P Q : Type 0) (r : Result X CallError) → OnOk r P → OnOk r Q → OnOk r (P × Q)
both P Q (Ok x) p q = (p, q)
both P Q (Err f) p q = tt

-- the status of what was asked of a handle's log
pub ask-answers : (before : Option AnyLog) (held : AnyLog) → Some held ≡ before → (r : Result Unit CallError) (status : ℕ) → status ≡ status_of r → status ≤ 8 → (P : AnyLog → Type 0) (Q : AnyLog → CallError → Type 0) → OnOk r (P held) → IfErr r (Q held) → Answers status before P Q
ask-answers before held was r status e small P Q tells errors = subst (λ o. Answers status o P Q) was (answered (P held) (Q held) r status e small tells errors)

-- the status of what became of a handle's log
pub append-answers : (before after : Option AnyLog) (old new : AnyLog) → Some old ≡ before → after ≡ Some new → (r : Result Unit CallError) (status : ℕ) → status ≡ status_of r → status ≤ 8 → (belongs : Bool) (n : Asked) (question envelope : List ℕ) (used : ℕ) (out : List ℕ)
    → OnOk r ((b : SignatureRelation) → HoldsOf b belongs n question → append_does b envelope old new) → IfErr r (append_errors old belongs n question envelope used out)
    → Answers status before (λ held. (b : SignatureRelation) → HoldsOf b belongs n question → append_moves b envelope held after) (λ held. append_errors held belongs n question envelope used out)
append-answers before after old new was is r status e small belongs n question envelope used out does errors =
    ask-answers before old was r status e small (λ held. (b : SignatureRelation) → HoldsOf b belongs n question → append_moves b envelope held after) (λ held. append_errors held belongs n question envelope used out)
    (does-moves (λ b. HoldsOf b belongs n question) envelope old after new is r does) errors

-- the same where the library verifies
pub signed-answers : (before after : Option AnyLog) (old new : AnyLog) → Some old ≡ before → after ≡ Some new → (r : Result Unit CallError) (status : ℕ) → status ≡ status_of r → status ≤ 8 → (envelope : List ℕ) (Q : AnyLog → CallError → Type 0)
    → OnOk r ((b : SignatureRelation) → AcceptsNoMore p256_belongs b → append_does b envelope old new) → OnOk r (may_come p256_belongs envelope old) → IfErr r (Q old)
    → Answers status before (λ held. signed_moves envelope held after) Q
signed-answers before after old new was is r status e small envelope Q does lawful errors =
    ask-answers before old was r status e small (λ held. signed_moves envelope held after) Q
    (both (may_come p256_belongs envelope old) ((b : SignatureRelation) → AcceptsNoMore p256_belongs b → append_moves b envelope old after) r lawful (does-moves (λ b. AcceptsNoMore p256_belongs b) envelope old after new is r does)) errors

-- the same as a call in a run
pub append-call : (before after : Option AnyLog) (old new : AnyLog) → Some old ≡ before → after ≡ Some new → (r : Result Unit CallError) (c : Call) → c.status ≡ status_of r
    → OnOk r ((b : SignatureRelation) → HoldsOfVerdict b c.verdict → append_does b c.envelope old new) → OnErr r (new ≡ old) → IsCall c before after
append-call before after old new was is (Ok u) c e does stays = record {
  appended = λ h. (old, sym was, λ b holds. moves b c.envelope old after new is (does b holds));
  unchanged = λ h. absurd (h e);
}
append-call before after old new was is (Err f) c e does stays = record {
  appended = λ h. absurd (no-zero f (sym e ∙ h));
  unchanged = λ h. is ∙ ap (λ o. Some o) stays ∙ was;
}

-- What an error tells.
use Rattle.std.proofs.Common.{◌≡◌, ◌≢◌, ◌⊎◌, inl, inr, ◌<◌, ℕ, List, length, take, Option, Some, None, Result, Ok, Err, refl, sym, ap, ◌∙◌, subst}
use Rattle.std.specs.Prelude.{OnOk, IfErr}
use Rattle.std.specs.Option.{option_map}
use Rattle.warg_envelope.specs.EnvelopeData.{EnvelopeData}
use Rattle.warg_envelope.specs.Faults.{NamesFault}
use Rattle.warg_p256.specs.Scheme.{p256_belongs}
use Rattle.warg_log_records.specs.Kinds.{SignatureRelation, Kind}
use Rattle.warg_replay.specs.OutcomeRuns.{IfNamed}
use Rattle.warg_replay.specs.Inputs.{Cause, Unread, Unlawful}
use Rattle.warg_replay.specs.declared.replay.RunCause.{RunCause}
use Rattle.warg_replay.specs.Telling.{Asks}
use Rattle.warg_log_records.specs.declared.signature_check.SignatureCheck.{SignatureCheck}
use Rattle.warg_c.specs.declared.call_error.CallError.{CallError}
use Rattle.warg_c.specs.declared.call_error.CallError.TheVariants.{NotOpen, OutOfMemory, TooSmall, NoEnvelope, Refused, Absent, BadArgument, UnknownAlgorithm}
use Rattle.warg_c.specs.declared.question.Asked.{Asked}
use Rattle.warg_c.specs.Ids.{IdErrors}
use Rattle.warg_c.specs.Logs.{IsAsked, IsWhy, IsWhyBy, AskErrors, AsksOther, Refuses, RefusesSigned}
use Rattle.warg_c.specs.Questions.{Spells}
use Rattle.warg_c.specs.Texts.{IsErrorText, error_by}

-- what is named is no lack of memory
no-envelope-is-other : NoEnvelope ≡ OutOfMemory → ⊥
no-envelope-is-other h = cc

refused-is-other : Refused ≡ OutOfMemory → ⊥
refused-is-other h = cc

module _ {View Offence F E : Type 0} (k : Kind View Offence) (read : List ℕ → Result EnvelopeData F) (named_by : RunCause E → Option (Cause F Offence)) (SaysBy : RunCause E → List ℕ → Type 0) where
  ask-told : (v : View) (envelope : List ℕ) (n : Asked) (old : List ℕ) (used : ℕ) (new : List ℕ) (c : RunCause E) (t : Option (Cause F Offence)) → (error_by t ≢ OutOfMemory → IsErrorText (SaysBy c) used new) → named_by c ≡ t → IfNamed t (IsWhy k read v envelope)
      → AskErrors k read named_by SaysBy v envelope n old used new (error_by t)
  ask-told v envelope n old used new c None text tells why = tt
  ask-told v envelope n old used new c (Some (Unread fault)) text tells why = (fault, why, record { cause = c; tells = tells; text = text no-envelope-is-other })
  ask-told v envelope n old used new c (Some (Unlawful offence)) text tells why = (offence, why, record { cause = c; tells = tells; text = text refused-is-other })

  -- a cause that is told of an envelope is why nothing is asked
  pub ask-refused : (v : View) (envelope : List ℕ) (n : Asked) (old : List ℕ) (used : ℕ) (new : List ℕ) (c : RunCause E) → (error_by (named_by c) ≢ OutOfMemory → IsErrorText (SaysBy c) used new) → IfNamed (named_by c) (IsWhy k read v envelope)
      → AskErrors k read named_by SaysBy v envelope n old used new (error_by (named_by c))
  ask-refused v envelope n old used new c text why = ask-told v envelope n old used new c (named_by c) text refl why

  -- the same by the error that was named
  pub ask-errors : (v : View) (envelope : List ℕ) (n : Asked) (old : List ℕ) (used : ℕ) (new : List ℕ) (c : RunCause E) (f : CallError) → f ≡ error_by (named_by c) → (f ≢ OutOfMemory → IsErrorText (SaysBy c) used new) → IfNamed (named_by c) (IsWhy k read v envelope)
      → AskErrors k read named_by SaysBy v envelope n old used new f
  ask-errors v envelope n old used new c f is text why = subst (λ g. AskErrors k read named_by SaysBy v envelope n old used new g) (sym is) (ask-refused v envelope n old used new c (λ other. text (λ h. other (sym is ∙ h))) why)

  -- a question that was found is given, or there is no room for it
  pub ask-given : {X : Type 0} (v : View) (envelope : List ℕ) (q : SignatureCheck) → Asks k (read envelope) v q → (text : List ℕ) (n : Asked) → Spells n text q → (r : Result X CallError) (used : ℕ) (old new : List ℕ) → used ≡ length text
      → OnOk r (take (length text) new ≡ text) → OnOk r (IsAsked k read v envelope n (take used new))
  ask-given v envelope q asks text n spells (Ok x) used old new is given = (q, asks, subst (λ l. Spells n l q) (sym (ap (λ m. take m new) is ∙ given)) spells)
  ask-given v envelope q asks text n spells (Err f) used old new is given = tt

  pub ask-too-small : {X : Type 0} (v : View) (envelope : List ℕ) (q : SignatureCheck) → Asks k (read envelope) v q → (text : List ℕ) (n : Asked) → Spells n text q → (r : Result X CallError) (used : ℕ) (old new : List ℕ) → used ≡ length text
      → IfErr r (λ f. (f ≡ TooSmall) × (length old < length text)) → IfErr r (AskErrors k read named_by SaysBy v envelope n old used new)
  ask-too-small v envelope q asks text n spells (Ok x) used old new is small = tt
  ask-too-small v envelope q asks text n spells (Err f) used old new is small = subst (λ g. AskErrors k read named_by SaysBy v envelope n old used new g) (sym small.0) (text, (q, asks, spells), is, small.1)

  append-told : (b : SignatureRelation) (v : View) (envelope : List ℕ) (used : ℕ) (new : List ℕ) (c : RunCause E) (t : Option (Cause F Offence)) → (error_by t ≢ OutOfMemory → IsErrorText (SaysBy c) used new) → named_by c ≡ t → IfNamed t (IsWhyBy k read b v envelope)
      → Refuses k read named_by SaysBy b v envelope used new (error_by t)
  append-told b v envelope used new c None text tells why = tt
  append-told b v envelope used new c (Some (Unread fault)) text tells why = (fault, why, record { cause = c; tells = tells; text = text no-envelope-is-other })
  append-told b v envelope used new c (Some (Unlawful offence)) text tells why = (offence, why, record { cause = c; tells = tells; text = text refused-is-other })

  -- a cause that is told under a relation is why nothing is appended
  pub append-refused : (b : SignatureRelation) (v : View) (envelope : List ℕ) (used : ℕ) (new : List ℕ) (c : RunCause E) → (error_by (named_by c) ≢ OutOfMemory → IsErrorText (SaysBy c) used new) → IfNamed (named_by c) (IsWhyBy k read b v envelope)
      → Refuses k read named_by SaysBy b v envelope used new (error_by (named_by c))
  append-refused b v envelope used new c text why = append-told b v envelope used new c (named_by c) text refl why

  pub append-errors : (b : SignatureRelation) (v : View) (envelope : List ℕ) (used : ℕ) (new : List ℕ) (c : RunCause E) (f : CallError) → f ≡ error_by (named_by c) → (f ≢ OutOfMemory → IsErrorText (SaysBy c) used new) → IfNamed (named_by c) (IsWhyBy k read b v envelope)
      → Refuses k read named_by SaysBy b v envelope used new f
  append-errors b v envelope used new c f is text why = subst (λ g. Refuses k read named_by SaysBy b v envelope used new g) (sym is) (append-refused b v envelope used new c (λ other. text (λ h. other (sym is ∙ h))) why)

  signed-told : (v : View) (envelope : List ℕ) (used : ℕ) (new : List ℕ) (f : CallError) → (f ≡ Refused → ¬ AsksOther k read v envelope) → Refuses k read named_by SaysBy p256_belongs v envelope used new f → RefusesSigned k read named_by SaysBy v envelope used new f
  signed-told v envelope used new NotOpen other h = h
  signed-told v envelope used new OutOfMemory other h = tt
  signed-told v envelope used new TooSmall other h = h
  signed-told v envelope used new NoEnvelope other h = h
  signed-told v envelope used new Refused other h = (h, other refl)
  signed-told v envelope used new Absent other h = h
  signed-told v envelope used new BadArgument other h = h
  signed-told v envelope used new UnknownAlgorithm other h = absurd h

  module _ (u v : View) (same : u ≡ v) (envelope : List ℕ) where
    -- the same where the library verifies; what it refuses asks for no other algorithm
    pub signed-errors : (used : ℕ) (new : List ℕ) (c : RunCause E) (g f : CallError) → g ≡ error_by (named_by c) → (g ≡ Refused → ¬ AsksOther k read u envelope) → f ≡ error_by (named_by c) → (f ≢ OutOfMemory → IsErrorText (SaysBy c) used new) → IfNamed (named_by c) (IsWhyBy k read p256_belongs v envelope)
        → RefusesSigned k read named_by SaysBy v envelope used new f
    signed-errors used new c g f was own is text why =
        signed-told v envelope used new f (λ refused asked. own (was ∙ sym is ∙ refused) (subst (λ w. AsksOther k read w envelope) (sym same) asked)) (append-errors p256_belongs v envelope used new c f is text why)

    -- or it asks for one, or there was no memory to see that
    pub again-errors : (used : ℕ) (new : List ℕ) (f : CallError) → (f ≡ OutOfMemory) ⊎ ((f ≡ UnknownAlgorithm) × AsksOther k read u envelope) → RefusesSigned k read named_by SaysBy v envelope used new f
    again-errors used new f (inl is) = subst (λ g. RefusesSigned k read named_by SaysBy v envelope used new g) (sym is) tt
    again-errors used new f (inr (is, asked)) = subst (λ g. RefusesSigned k read named_by SaysBy v envelope used new g) (sym is) (subst (λ w. AsksOther k read w envelope) same asked)

  id-told : (envelope old : List ℕ) (used : ℕ) (new : List ℕ) (c : RunCause E) (found : Option F) → (error_by {Offence = Offence} (option_map Unread found) ≢ OutOfMemory → IsErrorText (SaysBy c) used new) → named_by c ≡ option_map Unread found → NamesFault (read envelope) found
      → IdErrors k read named_by SaysBy envelope old used new (error_by {Offence = Offence} (option_map Unread found))
  id-told envelope old used new c None text told tells = tt
  id-told envelope old used new c (Some fault) text told tells = (fault, tells, record { cause = c; tells = told; text = text no-envelope-is-other })

  -- bytes that are no envelope have no id
  pub id-errors : (envelope old : List ℕ) (used : ℕ) (new : List ℕ) (c : RunCause E) (f : CallError) → f ≡ error_by (named_by c) → (f ≢ OutOfMemory → IsErrorText (SaysBy c) used new) → (found : Option F) → named_by c ≡ option_map Unread found → NamesFault (read envelope) found
      → IdErrors k read named_by SaysBy envelope old used new f
  id-errors envelope old used new c f is text found told tells =
      subst (λ g. IdErrors k read named_by SaysBy envelope old used new g) (sym (is ∙ ap (λ t. error_by t) told)) (id-told envelope old used new c found (λ other. text (λ h. other (sym (is ∙ ap (λ t. error_by t) told) ∙ h))) told tells)

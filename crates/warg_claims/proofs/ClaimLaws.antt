-- What claims say of inputs, place by place.
use Rattle.std.proofs.Common.{◌≡◌, ◌↔◌, ◌+◌, ◌⊎◌, ◌<◌, ◌≤◌, ℕ, true, List, [], ◌∷◌, ◌++◌, length, take, Option, Some, None, Result, Ok, Err, refl, sym, ap, ◌∙◌, subst, inl, inr, arith}
use Rattle.std.specs.List.{cons_option, slice_get}
use Rattle.std.proofs.lemmas.List.Elements.{filter_map-append}
use Rattle.std.specs.Option.{option_map}
use Rattle.std.proofs.lemmas.List.{length-take-le, length_push, take-append-le, take-take, take_all, take_at}
use Rattle.std.proofs.lemmas.Option.{slice_get_cases, slice_get_past, slice_get_within}
use Rattle.warg_envelope.specs.EnvelopeData.{EnvelopeData}
use Rattle.warg_log_records.specs.Kinds.{IsAccepted, AcceptsNoMore, Kind, KindLaws, SignatureRelation, StandsFor}
use Rattle.warg_replay.specs.OutcomeRuns.{HasNoOffence, IfNamed, IsFirstOffence, cause_next}
use Rattle.warg_replay.proofs.OutcomeLaws.{IfNamed-map}
use Rattle.warg_replay.specs.Inputs.{Cause, Unlawful, cause_of, ok, read_all}
use Rattle.warg_claims.specs.Claimed.{AreClaims, AsksClaim, HoldsOf, IsRefusedAnyway, IsTaken, RefusesAnyway, any_signature, seen_before}
use Rattle.warg_replay.specs.Telling.{IsNext}
use Rattle.warg_claims.proofs.Places.{at-push, slice_get-take}
use Rattle.warg_claims.specs.Verified.Claims.{ClaimData}

none_inside : {A B : Type 0} (f : A → B) (o : Option A) → option_map f o ≡ None → o ≡ None
none_inside f None h = refl
none_inside f (Some x) h = cc

none-some : {X : Type 0} (x : X) → None ≡ Some x → ⊥
none-some x h = cc h

-- an element at each place below the length
at_below : {X : Type 0} (xs : List X) (i : ℕ) → i < length xs → (x : X) × (slice_get xs i ≡ Some x)
at_below xs i below = elim ((slice_get_cases xs i).1) [
  | inl inside ↦ (inside.0, inside.2)
  | inr past ↦ absurd (omega (arith, past.0))
]

module _ {View Offence F : Type 0} (k : Kind View Offence) (read : List ℕ → Result EnvelopeData F) where
  judged : (b : SignatureRelation) (v : View) (r : Result EnvelopeData F) (c : ClaimData) → AsksClaim k v r c
      → (cause_of (k.offence b) v r ≡ None) ↔ (b c.key c.message c.signature ≡ true)
  judged b v (Ok e) c asks = (
    λ h. (asks b).0 (none_inside Unlawful (k.offence b v e) h),
    λ h. ap (option_map Unlawful) ((asks b).1 h),
  )
  judged b v (Err f) c asks = absurd asks

  -- inputs with their claims have no offence exactly under the relations that hold of the claims
  pub claims-decide : (ss : List (List ℕ)) (cs : List ClaimData) → AreClaims k read ss cs → (b : SignatureRelation)
      → HasNoOffence k b read k.view_of ss ↔ HoldsOf b cs
  claims-decide ss cs own b = (
    λ h i c at.
        let s = at_below ss i (omega (arith, own.counted, slice_get_within cs i c at)) in
        (judged b (seen_before k read ss i) (read s.0) c (own.asked i s.0 c s.1 at)).0 (h i s.0 s.1),
    λ h i s at.
        let c = at_below cs i (omega (arith, own.counted, slice_get_within ss i s at)) in
        (judged b (seen_before k read ss i) (read s) c.0 (own.asked i s c.0 at c.1)).1 (h i c.0 c.1),
  )

  -- what is refused anyway comes first, where the relation holds of the claims before it
  pub run_error-first : (ss : List (List ℕ)) (cs : List ClaimData) (why : Cause F Offence) → AreClaims k read (take (length cs) ss) cs
      → IsRefusedAnyway k read ss (length cs) why → (b : SignatureRelation) → HoldsOf b cs
      → IsFirstOffence k b read k.view_of ss (length cs) why
  run_error-first ss cs why own refused b holds =
      let n = length cs in
      let before = (claims-decide (take n ss) cs own b).1 holds in
      record {
        item = refused.input;
        at = refused.at;
        wrong = refused.wrong b;
        least = λ j s below at.
            let P : List (List ℕ) → Type 0 = λ l. cause_next k b read (k.view_of (read_all read l)) s ≡ None in
            subst P (take-take j n ss (omega (arith, below))) (before j s (slice_get-take n ss j below ∙ at));
      }

  -- no inputs have no claims
  pub claims-none : AreClaims k read [] []
  claims-none = record { counted = refl; asked = λ i s c at here. absurd (none-some s (sym (slice_get_past {X = List ℕ} [] i (omega arith)) ∙ at)) }

  -- what is asked at a place of more inputs, before the last or there
  asked-push : (ss : List (List ℕ)) (cs : List ClaimData) (s : List ℕ) (c : ClaimData) → AreClaims k read ss cs
      → AsksClaim k (k.view_of (read_all read ss)) (read s) c → (i : ℕ) (t : List ℕ) (d : ClaimData)
      → ((i < length ss) × (slice_get ss i ≡ Some t)) ⊎ ((i ≡ length ss) × (t ≡ s))
      → ((i < length cs) × (slice_get cs i ≡ Some d)) ⊎ ((i ≡ length cs) × (d ≡ c))
      → AsksClaim k (k.view_of (read_all read (take i (ss ++ s ∷ [])))) (read t) d
  asked-push ss cs s c own asks i t d (inl input) (inl claim) =
      rw (take-append-le i ss (s ∷ []) (omega (arith, input.0))) (own.asked i t d input.1 claim.1)
  asked-push ss cs s c own asks i t d (inl input) (inr claim) = absurd (omega (arith, input.0, claim.0, own.counted))
  asked-push ss cs s c own asks i t d (inr input) (inl claim) = absurd (omega (arith, input.0, claim.0, own.counted))
  asked-push ss cs s c own asks i t d (inr input) (inr claim) = rw (take_at ss (s ∷ []) i (sym input.0), input.1, claim.1) asks

  -- one input more
  pub claims-push : (ss : List (List ℕ)) (cs : List ClaimData) (s : List ℕ) (c : ClaimData) → AreClaims k read ss cs
      → AsksClaim k (k.view_of (read_all read ss)) (read s) c → AreClaims k read (ss ++ s ∷ []) (cs ++ c ∷ [])
  claims-push ss cs s c own asks = record {
    counted = length_push cs c ∙ ap (λ n. n + 1) own.counted ∙ sym (length_push ss s);
    asked = λ i t d at here. asked-push ss cs s c own asks i t d (at-push ss s i t at) (at-push cs c i d here);
  }

  -- a relation that holds of just the claims that another holds of judges the inputs alike
  pub judged-alike : (ss : List (List ℕ)) (cs : List ClaimData) (b d : SignatureRelation) → AreClaims k read ss cs
      → (HoldsOf b cs → HoldsOf d cs) → HasNoOffence k b read k.view_of ss → HasNoOffence k d read k.view_of ss
  judged-alike ss cs b d own f h = (claims-decide ss cs own d).1 (f ((claims-decide ss cs own b).0 h))

  -- the envelope that was read comes next, and is what the input is
  pub taken-next : {S : Type 0} (view : S → View) (old new : S) (ss : List (List ℕ)) (s : List ℕ) → IsTaken k view old (read s) new
      → IsAccepted k any_signature (read_all read ss) → StandsFor k view old (read_all read ss)
      → IsAccepted k any_signature (read_all read (ss ++ s ∷ [])) × StandsFor k view new (read_all read (ss ++ s ∷ []))
  taken-next view old new ss s taken accepted stands =
      let P : List EnvelopeData → Type 0 = λ es. IsAccepted k any_signature es × StandsFor k view new es in
      subst P (sym (filter_map-append (λ u. ok (read u)) ss (s ∷ []))) (next-read (read s) (taken (read_all read ss) accepted stands))
    where
      next-read : (r : Result EnvelopeData F) → IsNext k view any_signature (read_all read ss) r new
          → IsAccepted k any_signature (read_all read ss ++ cons_option (ok r) []) × StandsFor k view new (read_all read ss ++ cons_option (ok r) [])
      next-read (Ok e) h = h
      next-read (Err f) h = absurd h

  -- a wider relation finds no offence where a narrower one finds none
  pub inputs-within : KindLaws k → (b d : SignatureRelation) → AcceptsNoMore b d → (ss : List (List ℕ)) → HasNoOffence k b read k.view_of ss → HasNoOffence k d read k.view_of ss
  inputs-within laws b d within ss h = λ i s at. still (k.view_of (read_all read (take i ss))) (read s) (h i s at)
    where
      still : (v : View) (r : Result EnvelopeData F) → cause_of (k.offence b) v r ≡ None → cause_of (k.offence d) v r ≡ None
      still v (Ok e) none = ap (option_map Unlawful) (laws.more_signatures b d within v e (none_inside Unlawful (k.offence b v e) none))
      still v (Err f) none = none

  -- claims of the front are of as many inputs as there are claims
  pub claims-front : (ss : List (List ℕ)) (i : ℕ) (cs : List ClaimData) → i ≤ length ss → AreClaims k read (take i ss) cs → (length cs ≡ i) × AreClaims k read (take (length cs) ss) cs
  claims-front ss i cs below own =
      let count : length cs ≡ i = own.counted ∙ length-take-le i ss below in
      (count, rw count own)

  -- why an input is refused anyway, at its place
  pub refused-at : {C : Type 0} (named_by : C → Option (Cause F Offence)) (v : View) (ss : List (List ℕ)) (i : ℕ) (s : List ℕ) (cause : C)
      → slice_get ss i ≡ Some s → v ≡ k.view_of (read_all read (take i ss)) → RefusesAnyway k read named_by v s cause
      → IfNamed (named_by cause) (IsRefusedAnyway k read ss i)
  refused-at named_by v ss i s cause at seen refuses =
      IfNamed-map (named_by cause) _ (IsRefusedAnyway k read ss i)
      (λ why wrong. record { input = s; at = at; wrong = λ b. let P : View → Type 0 = λ w. cause_next k b read w s ≡ Some why in subst P seen (wrong b) })
      refuses

  -- one input more, with its claim and in the state
  pub claims-step : {S : Type 0} (view : S → View) (old new : S) (ss : List (List ℕ)) (s : List ℕ) (cs : List ClaimData) (c : ClaimData)
      → AreClaims k read ss cs → IsAccepted k any_signature (read_all read ss) → StandsFor k view old (read_all read ss)
      → AsksClaim k (view old) (read s) c → IsTaken k view old (read s) new
      → AreClaims k read (ss ++ s ∷ []) (cs ++ c ∷ []) × IsAccepted k any_signature (read_all read (ss ++ s ∷ []))
      × StandsFor k view new (read_all read (ss ++ s ∷ []))
  claims-step view old new ss s cs c own accepted stands asks taken =
      let P : View → Type 0 = λ v. AsksClaim k v (read s) c in
      let next = taken-next view old new ss s taken accepted stands in
      (claims-push ss cs s c own (subst P stands asks), next.0, next.1)

  -- the same, where the front is all
  pub claims-whole : (ss : List (List ℕ)) (i : ℕ) (cs : List ClaimData) → length ss ≤ i → AreClaims k read (take i ss) cs → (length cs ≡ length ss) × AreClaims k read (take (length cs) ss) cs
  claims-whole ss i cs past own =
      let all : AreClaims k read ss cs = rw (take_all i ss past) at own in
      let front : take (length cs) ss ≡ ss = take_all (length cs) ss (omega (arith, all.counted)) in
      (all.counted, rw front all)

-- The front of a log.
use Rattle.std.proofs.Common.{◌≡◌, ◌≢◌, ◌⊎◌, inl, inr, ℕ, ◌+◌, ◌-◌, ◌<◌, ◌≤◌, zero, suc, Bool, true, false, List, [], ◌∷◌, ◌++◌, length, map, take, drop, get_or, Option, Some, None, refl, sym, ◌∙◌, ap, subst, arith, add-one, drop-cons, length-take, get_or-take}
use Rattle.std.proofs.lemmas.List.{length-map, take-append-drop, take-map}
use Rattle.std.proofs.Math.Seq.{drop-length}
use Rattle.std.proofs.lemmas.Bool.{cases_Bool}
use Rattle.std.proofs.lemmas.Slice.Eq.{bytes_eq-Decides}
use Rattle.std.specs.Str.{bytes_eq}
use Rattle.warg_envelope.specs.EnvelopeData.{EnvelopeData}
use Rattle.warg_log_records.specs.Kinds.{SignatureRelation, Kind, KindLaws, view_after, AllLawful, IsAccepted}
use Rattle.warg_log_records.proofs.KindWalks.{accepted-lawful}
use Rattle.warg_log_records.proofs.WalkLaws.{accepted-front}
use Rattle.warg_replay.specs.AuditedLog.Log.{contents}
use Rattle.warg_replay.specs.AuditedLog.Heads.{IsLastDifference, IsDifference, IsCollision, HaveCollision}
use Rattle.warg_replay.proofs.AuditedLogLemmas.HeadLemmas.{head_before, last_head, collision, no_difference}

module _ (ls rs : List (List ℕ)) where
  ends : (a b : ℕ) → a ≡ length ls - length rs → b ≡ length rs - length ls → drop a ls ≡ drop b rs → IsDifference ls rs None
  ends a b ha hb h = ap (λ i. drop i ls) (sym ha) ∙ h ∙ ap (λ i. drop i rs) hb

  -- a last difference, or none
  decided : (a b : ℕ) → a ≤ length ls → b ≤ length rs → a + length rs ≡ b + length ls → drop a ls ≡ drop b rs → ((m : ℕ) × (n : ℕ) × IsLastDifference ls rs m n) ⊎ IsDifference ls rs None
  decided zero b ha hb long same = inr (ends zero b (omega arith) (omega arith) same)
  decided (suc a) zero ha hb long same = inr (ends (suc a) zero (omega arith) (omega arith) same)
  decided (suc a) (suc b) ha hb long same = elim (cases_Bool (bytes_eq (get_or ls a []) (get_or rs b []))) [
    | inl equal ↦
        let here : get_or ls a [] ≡ get_or rs b [] = (bytes_eq-Decides (get_or ls a []) (get_or rs b [])).0 equal in
        let earlier : drop a ls ≡ drop b rs = drop-cons ls a [] ha ∙ ap (λ x. x ∷ drop (suc a) ls) here ∙ ap (λ xs. get_or rs b [] ∷ xs) same ∙ sym (drop-cons rs b [] hb) in
        decided a b (omega arith) (omega arith) (omega arith) earlier
    | inr other ↦
        inl (
          a,
          b,
          record {
            in_left = ha;
            in_right = hb;
            differ = λ h. let equal = (bytes_eq-Decides (get_or ls a []) (get_or rs b [])).1 h in cc;
            same_later = ap (λ i. drop i ls) (add-one a) ∙ same ∙ ap (λ i. drop i rs) (sym (add-one b));
          },
        )
  ]

  pub decided_from_ends : ((m : ℕ) × (n : ℕ) × IsLastDifference ls rs m n) ⊎ IsDifference ls rs None
  decided_from_ends = decided (length ls) (length rs) (omega arith) (omega arith) (omega arith) (drop-length ls ∙ sym (drop-length rs))

module _ {View Offence : Type 0} (k : Kind View Offence) (laws : KindLaws k) (b d : SignatureRelation) (es fs : List EnvelopeData) (left : IsAccepted k b es) (right : IsAccepted k d fs) where
  -- equal heads: equal contents, or a collision
  pub equal-heads : k.head (k.view_of es) ≡ k.head (k.view_of fs) → (contents es ≡ contents fs) ⊎ HaveCollision k.id (contents es) (contents fs)
  equal-heads same =
      let lawful = accepted-lawful k laws b es left in
      let others = accepted-lawful k laws d fs right in
      let heads = ap k.head (sym (laws.by_history b es lawful)) ∙ same ∙ ap k.head (laws.by_history d fs others) in
      elim (decided_from_ends (contents es) (contents fs)) [
        | inr none ↦ inl (no_difference k laws b d es fs lawful others heads none)
        | inl found ↦ inr (found.0, found.1, collision k laws b d es fs lawful others heads found.0 found.1 found.2)
      ]

module _ {View Offence : Type 0} (k : Kind View Offence) (laws : KindLaws k) (b d : SignatureRelation) (es fs : List EnvelopeData) (n : ℕ) (left : IsAccepted k b es) (right : IsAccepted k d fs) (below : n < length fs) where
  abbrev gs : List EnvelopeData
  gs = take (suc n) fs

  front : contents gs ≡ take (n + 1) (contents fs)
  front = sym (take-map (λ e. e.content) (suc n) fs) ∙ ap (λ i. take i (contents fs)) (sym (add-one n))

  front_accepted : IsAccepted k d gs
  front_accepted = accepted-front (k.offence d) k.view_of gs (drop (suc n) fs) (subst (λ xs. IsAccepted k d xs) (sym (take-append-drop (suc n) fs)) right)

  long : length (contents gs) ≡ suc n
  long = simp (length-map, length-take) (omega arith)

  at_front : (j : ℕ) → j < n + 1 → get_or (contents gs) j [] ≡ get_or (contents fs) j []
  at_front j lt = ap (λ xs. get_or xs j []) front ∙ get_or-take (n + 1) (contents fs) j [] lt

  widened : HaveCollision k.id (contents es) (contents gs) → HaveCollision k.id (contents es) (contents fs)
  widened pair =
      let in_front : pair.1 < n + 1 = omega (arith, pair.2.in_right, long) in
      let in_other : pair.1 < length (contents fs) = simp length-map (omega arith) in
      let there = at_front pair.1 in_front in (
        pair.0,
        pair.1,
        record {
          in_left = pair.2.in_left;
          in_right = in_other;
          differ = λ h. pair.2.differ (h ∙ sym there);
          same_id = pair.2.same_id ∙ ap k.id there;
        },
      )

  -- a log whose head is the id of a record of another is its front, or two records collide
  pub fronts : k.head (k.view_of es) ≡ Some (k.id (get_or (contents fs) n [])) → (contents es ≡ take (n + 1) (contents fs)) ⊎ HaveCollision k.id (contents es) (contents fs)
  fronts head =
      let lawful = accepted-lawful k laws d gs front_accepted in
      let last : get_or (contents gs) n [] ≡ get_or (contents fs) n [] = at_front n (omega arith) in
      let heads : k.head (k.view_of es) ≡ k.head (k.view_of gs) = head ∙ sym (ap k.head (laws.by_history d gs lawful) ∙ last_head k laws k.start gs ∙ ap (head_before (k.head k.start) k.id (contents gs)) long ∙ ap (λ x. Some (k.id x)) last) in
      elim (equal-heads k laws b d es gs left front_accepted heads) [
        | inl same ↦ inl (same ∙ front)
        | inr pair ↦ inr (widened pair)
      ]

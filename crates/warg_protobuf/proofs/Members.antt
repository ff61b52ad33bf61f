-- What is kept of an entry is the run of the member that came last.
use Rattle.std.proofs.Common.{◌≡◌, ℕ, List, [], ◌∷◌, ◌++◌, Bool, true, false, cond, eqb, Option, Some, None, Result, Ok, inl, inr, refl, sym, ap, subst, ◌∙◌, append_assoc}
use Rattle.std.specs.List.{fold}
use Rattle.std.proofs.lemmas.Bool.{cases_Bool, eqb-true}
use Rattle.std.proofs.lemmas.List.{append-nil}
use Rattle.warg_protobuf.specs.declared.error.WireError.{WireError}
use Rattle.warg_protobuf.specs.Field.{Payload, Number, Eight, Bytes, Four, wire_type, Field}
use Rattle.warg_protobuf.specs.Table.{Table, takes, knows, PayloadFits, Fits, FitsBy, IsMessageBy}
use Rattle.warg_protobuf.specs.Reading.{◌>>=◌, fields_of}
use Rattle.warg_protobuf.specs.Shapes.{two_texts, text_and_numbers}
use Rattle.warg_protobuf.specs.Values.{after, gather, of_bytes, piece_at, pieces_at, last_member_from, run_from, run_of, member_of}
use Rattle.warg_protobuf.specs.Entry.{entry_table}
use Rattle.warg_protobuf.specs.MessageDrafts.{kept_after, no_texts, two_texts_with, nothing_kept, text_and_numbers_with, MemberKept, Absent, Init, GrantFlat, RevokeFlat, FirstOwn, SecondOwn, init_so_far, grant_flat_so_far, revoke_flat_so_far, first_own_so_far, second_own_so_far, member_with, member_payload, member_bytes}
use Rattle.warg_protobuf.proofs.Kept.{splits, fold-joined}
use Rattle.warg_protobuf.proofs.Meanings.{ok_same, pieces_fit, pieces_have, run_fits}
use Rattle.warg_protobuf.proofs.Finishing.{Finishes}

-- one more piece
gather_more : {X : Type 0} (part : Field → Result (List X) WireError) (fs : List Field) (f : Field) (xs us : List X) → gather part fs ≡ Ok xs → part f ≡ Ok us → gather part (fs ++ f ∷ []) ≡ Ok (xs ++ us)
gather_more part [] f xs us e h = ap (λ (r : Result _ WireError). r >>= λ ys. after ys (Ok [])) h ∙ ap (λ (ys : List _). Ok ys) (append-nil us ∙ ap (λ (ys : List _). ys ++ us) (ok_same [] xs e))
gather_more part (g ∷ gs) f xs us e h =
    let s = splits (part g) (gather part gs) xs e in
    ap (λ (r : Result _ WireError). r >>= λ ys. after ys (gather part (gs ++ f ∷ []))) s.2
    ∙ ap (after s.0) (gather_more part gs f s.1 us s.3 h)
    ∙ ap (λ (ys : List _). Ok ys) (sym (append_assoc s.0 s.1 us) ∙ ap (λ (ys : List _). ys ++ us) (sym s.4))

-- member n, in an entry of table E whose fields step goes through
module _ {K M : Type 0} (E : Table) (step : K → Field → K) (n : ℕ) (I : Table) (with_field : M → Field → M) (start : M) (so_far : K → M)
    (asks : (p : Payload) → PayloadFits E n p → IsMessageBy (takes I) (PayloadFits I) p)
    (known : knows E n ≡ true)
    (same : (k : K) (f : Field) (us : List Field) → FitsBy (takes E) (PayloadFits E) f → eqb f.number n ≡ true → piece_at I n f ≡ Ok us → so_far (step k f) ≡ fold with_field (so_far k) us)
    (other : (k : K) (f : Field) → FitsBy (takes E) (PayloadFits E) f → knows E f.number ≡ true → eqb f.number n ≡ false → so_far (step k f) ≡ start)
    (none : (k : K) (f : Field) → knows E f.number ≡ false → step k f ≡ k) where
  piece_of : (f : Field) → FitsBy (takes E) (PayloadFits E) f → (us : List Field) × (piece_at I n f ≡ Ok us)
  piece_of f fit =
      let p = pieces_have I E n asks (f ∷ []) (fit, tt) in
      let s = splits (piece_at I n f) (Ok []) p.value p.gives in
      (s.0, s.2)

  no_piece : (f : Field) → eqb f.number n ≡ false → piece_at I n f ≡ Ok []
  no_piece f e = ap (λ (b : Bool). cond b (of_bytes (fields_of I) f.payload) (Ok [])) e

  not_n : (f : Field) → knows E f.number ≡ false → eqb f.number n ≡ false
  not_n f e =
      elim (cases_Bool (eqb f.number n)) [
        | inl h ↦ let t : true ≡ false = sym known ∙ subst (λ (m : ℕ). knows E m ≡ false) (eqb-true f.number n h) e in absurd cc
        | inr h ↦ h
      ]

  -- what was read before, front, has the pieces ps of n's run
  run_after : (fs front ps qs : List Field) (k : K) → pieces_at I n front ≡ Ok ps → so_far k ≡ fold with_field start ps → Fits E fs
      → pieces_at I n (run_from (knows E) n (front ++ fs) fs) ≡ Ok qs → so_far (fold step k fs) ≡ fold with_field start qs
  run_after [] front ps qs k e is fit read = is ∙ ap (fold with_field start) (ok_same ps qs (sym e ∙ ap (pieces_at I n) (sym (append-nil front)) ∙ read))
  run_after (f ∷ fs) front ps qs k e is fit read =
      elim (cases_Bool (knows E f.number)) [
        | inl m ↦
            elim (cases_Bool (eqb f.number n)) [
              | inl h ↦
                  let p = piece_of f fit.0 in
                  run_after fs (front ++ f ∷ []) (ps ++ p.0) qs (step k f) (gather_more (piece_at I n) front f ps p.0 e p.1)
                  (same k f p.0 fit.0 h p.1 ∙ ap (λ (j : M). fold with_field j p.0) is ∙ fold-joined with_field start ps p.0) fit.1
                  (subst (λ (gs : List Field). pieces_at I n (run_from (knows E) n gs fs) ≡ Ok qs) (sym (append_assoc front (f ∷ []) fs)) (rw (m, h) at read))
              | inr h ↦ run_after fs [] [] qs (step k f) refl (other k f fit.0 m h) fit.1 (rw (m, h) at read)
            ]
        | inr m ↦
            run_after fs (front ++ f ∷ []) (ps ++ []) qs (step k f) (gather_more (piece_at I n) front f ps [] e (no_piece f (not_n f m)))
            (ap so_far (none k f m) ∙ is ∙ ap (fold with_field start) (sym (append-nil ps))) fit.1
            (subst (λ (gs : List Field). pieces_at I n (run_from (knows E) n gs fs) ≡ Ok qs) (sym (append_assoc front (f ∷ []) fs)) (rw m at read))
      ]

  -- so the member is made of what is kept of its run
  pub member_finishes : {V O : Type 0} (value : List Field → Result V WireError) (made : M → V) (member : V → O) → Finishes I value with_field start made
      → (empty : K) → so_far empty ≡ start → (fs : List Field) → Fits E fs → member_of (knows E) n I value member fs ≡ Ok (Some (member (made (so_far (fold step empty fs)))))
  member_finishes value made member finishes empty at_start fs fit =
      let run = run_of (knows E) n fs in
      let p = pieces_have I E n asks run (run_fits E (knows E) n fs fs fit fit) in
      ap (λ (r : Result (List Field) WireError). r >>= value >>= λ v. Ok (Some (member v))) p.gives
      ∙ ap (λ (r : Result _ WireError). r >>= λ v. Ok (Some (member v))) (finishes p.value (pieces_fit I n run p.value p.is))
      ∙ ap (λ (m : M). Ok (Some (member (made m)))) (sym (run_after fs [] [] p.value empty refl at_start fit p.gives))

-- ---- the five members

abbrev any_of : Bool → Bool → Bool → Bool → Bool → Bool
any_of a b c d e = cond a true (cond b true (cond c true (cond d true (cond e true false))))

abbrev first_of_five : {A : Type 0} → Bool → Bool → Bool → Bool → Bool → A → A → A → A → A → A → A
first_of_five a b c d e u v w x y z = cond a u (cond b v (cond c w (cond d x (cond e y z))))

chosen : {A : Type 0} (Q : A → Type 0) (a b c d e : Bool) (u v w x y z : A) → any_of a b c d e ≡ true
    → (a ≡ true → Q u) → (b ≡ true → Q v) → (c ≡ true → Q w) → (d ≡ true → Q x) → (e ≡ true → Q y) → Q (first_of_five a b c d e u v w x y z)
chosen Q true b c d e u v w x y z h f g i j k = f refl
chosen Q false true c d e u v w x y z h f g i j k = g refl
chosen Q false false true d e u v w x y z h f g i j k = i refl
chosen Q false false false true e u v w x y z h f g i j k = j refl
chosen Q false false false false true u v w x y z h f g i j k = k refl
chosen Q false false false false false u v w x y z h f g i j k = absurd cc

not_chosen : {A : Type 0} (a b c d e : Bool) (u v w x y z : A) → any_of a b c d e ≡ false → first_of_five a b c d e u v w x y z ≡ z
not_chosen true b c d e u v w x y z h = absurd cc
not_chosen false true c d e u v w x y z h = absurd cc
not_chosen false false true d e u v w x y z h = absurd cc
not_chosen false false false true e u v w x y z h = absurd cc
not_chosen false false false false true u v w x y z h = absurd cc
not_chosen false false false false false u v w x y z h = refl

two_sides : {P : Type 0} (b : Bool) → b ≡ true → b ≡ false → P
two_sides b t f = absurd cc

-- the number of the member
abbrev pub number_of : {F G : Type 0} → MemberKept F G → Option ℕ
number_of Absent = None
number_of (Init k) = Some 1
number_of (GrantFlat k) = Some 2
number_of (RevokeFlat k) = Some 3
number_of (FirstOwn k) = Some 4
number_of (SecondOwn k) = Some 5

module _ {F G : Type 0} (first_own : Table) (first_own_with : F → Field → F) (no_first_own : F) (second_own : Table) (second_own_with : G → Field → G) (no_second_own : G) where
  abbrev E : Table
  E = entry_table first_own second_own

  abbrev step : MemberKept F G → Field → MemberKept F G
  step = member_with first_own first_own_with no_first_own second_own second_own_with no_second_own

  abbrev at_bytes : MemberKept F G → ℕ → List ℕ → MemberKept F G
  at_bytes = member_bytes first_own first_own_with no_first_own second_own second_own_with no_second_own

  typed : (m : ℕ) (p : Payload) → takes E m (wire_type p) ≡ true → knows E m ≡ true → eqb (wire_type p) 2 ≡ true
  typed m p t known =
      chosen (λ (b : Bool). b ≡ true → eqb (wire_type p) 2 ≡ true) (eqb m 1) (eqb m 2) (eqb m 3) (eqb m 4) (eqb m 5)
      (eqb (wire_type p) 2) (eqb (wire_type p) 2) (eqb (wire_type p) 2) (eqb (wire_type p) 2) (eqb (wire_type p) 2) true known
      (λ _ h. h) (λ _ h. h) (λ _ h. h) (λ _ h. h) (λ _ h. h) t

  on_bytes : (Q : MemberKept F G → Type 0) (k : MemberKept F G) (m : ℕ) (p : Payload) → takes E m (wire_type p) ≡ true → knows E m ≡ true → ((c : List ℕ) → Q (at_bytes k m c)) → Q (member_payload first_own first_own_with no_first_own second_own second_own_with no_second_own k m p)
  on_bytes Q k m (Bytes c) t known h = h c
  on_bytes Q k m (Number v) t known h = let x : false ≡ true = typed m (Number v) t known in absurd cc
  on_bytes Q k m (Eight c) t known h = let x : false ≡ true = typed m (Eight c) t known in absurd cc
  on_bytes Q k m (Four c) t known h = let x : false ≡ true = typed m (Four c) t known in absurd cc

  none_at : (k : MemberKept F G) (m : ℕ) (p : Payload) → knows E m ≡ false → member_payload first_own first_own_with no_first_own second_own second_own_with no_second_own k m p ≡ k
  none_at k m (Bytes c) e = not_chosen (eqb m 1) (eqb m 2) (eqb m 3) (eqb m 4) (eqb m 5) _ _ _ _ _ k e
  none_at k m (Number v) e = refl
  none_at k m (Eight c) e = refl
  none_at k m (Four c) e = refl

  pub none : (k : MemberKept F G) (f : Field) → knows E f.number ≡ false → step k f ≡ k
  none k f e = none_at k f.number f.payload e

  -- the number of the last one
  number_at : (k : MemberKept F G) (f : Field) → FitsBy (takes E) (PayloadFits E) f → number_of (step k f) ≡ cond (knows E f.number) (Some f.number) (number_of k)
  number_at k f fit =
      elim (cases_Bool (knows E f.number)) [
        | inl m ↦
            rw m (on_bytes (λ (j : MemberKept F G). number_of j ≡ Some f.number) k f.number f.payload fit.type_fits m
            (λ c. chosen (λ (j : MemberKept F G). number_of j ≡ Some f.number) (eqb f.number 1) (eqb f.number 2) (eqb f.number 3) (eqb f.number 4) (eqb f.number 5) _ _ _ _ _ k m
            (λ t. ap (λ (n : ℕ). Some n) (sym (eqb-true f.number 1 t)))
            (λ t. ap (λ (n : ℕ). Some n) (sym (eqb-true f.number 2 t)))
            (λ t. ap (λ (n : ℕ). Some n) (sym (eqb-true f.number 3 t)))
            (λ t. ap (λ (n : ℕ). Some n) (sym (eqb-true f.number 4 t)))
            (λ t. ap (λ (n : ℕ). Some n) (sym (eqb-true f.number 5 t)))))
        | inr m ↦ rw m (ap number_of (none k f m))
      ]

  pub number_after : (fs : List Field) (k : MemberKept F G) → Fits E fs → number_of (fold step k fs) ≡ last_member_from (knows E) (number_of k) fs
  number_after [] k fit = refl
  number_after (f ∷ fs) k fit = number_after fs (step k f) fit.1 ∙ ap (λ (o : Option ℕ). last_member_from (knows E) o fs) (number_at k f fit.0)

  -- member 1
  init_at : (k : MemberKept F G) (p : Payload) (us : List Field) → takes E 1 (wire_type p) ≡ true → of_bytes (fields_of two_texts) p ≡ Ok us
      → init_so_far (member_payload first_own first_own_with no_first_own second_own second_own_with no_second_own k 1 p) ≡ fold two_texts_with (init_so_far k) us
  init_at k (Bytes c) us t e = ap (kept_after two_texts_with (init_so_far k)) e
  init_at k (Number v) us t e = absurd cc
  init_at k (Eight c) us t e = absurd cc
  init_at k (Four c) us t e = absurd cc

  same_init : (k : MemberKept F G) (f : Field) (us : List Field) → FitsBy (takes E) (PayloadFits E) f → eqb f.number 1 ≡ true → piece_at two_texts 1 f ≡ Ok us → init_so_far (step k f) ≡ fold two_texts_with (init_so_far k) us
  same_init k f us fit h piece =
      let is = eqb-true f.number 1 h in
      let e = sym (ap (λ (b : Bool). cond b (of_bytes (fields_of two_texts) f.payload) (Ok [])) h) ∙ piece in
      subst (λ (m : ℕ). init_so_far (member_payload first_own first_own_with no_first_own second_own second_own_with no_second_own k m f.payload) ≡ fold two_texts_with (init_so_far k) us) (sym is)
      (init_at k f.payload us (subst (λ (m : ℕ). takes E m (wire_type f.payload) ≡ true) is fit.type_fits) e)

  other_init : (k : MemberKept F G) (f : Field) → FitsBy (takes E) (PayloadFits E) f → knows E f.number ≡ true → eqb f.number 1 ≡ false → init_so_far (step k f) ≡ no_texts
  other_init k f fit m ne =
      on_bytes (λ (j : MemberKept F G). init_so_far j ≡ no_texts) k f.number f.payload fit.type_fits m
      (λ c. chosen (λ (j : MemberKept F G). init_so_far j ≡ no_texts) (eqb f.number 1) (eqb f.number 2) (eqb f.number 3) (eqb f.number 4) (eqb f.number 5) _ _ _ _ _ k m
      (λ t. two_sides (eqb f.number 1) t ne) (λ t. refl) (λ t. refl) (λ t. refl) (λ t. refl))

  pub member_init_finishes : {V O : Type 0} (value : List Field → Result V WireError) (made : _ → V) (member : V → O) → Finishes two_texts value two_texts_with no_texts made
      → (fs : List Field) → Fits E fs → member_of (knows E) 1 two_texts value member fs ≡ Ok (Some (member (made (init_so_far (fold step Absent fs)))))
  member_init_finishes value made member finishes fs fit = member_finishes E step 1 two_texts two_texts_with no_texts init_so_far (λ p h. h) refl same_init other_init none value made member finishes Absent refl fs fit

  -- member 2
  grant_flat_at : (k : MemberKept F G) (p : Payload) (us : List Field) → takes E 2 (wire_type p) ≡ true → of_bytes (fields_of text_and_numbers) p ≡ Ok us
      → grant_flat_so_far (member_payload first_own first_own_with no_first_own second_own second_own_with no_second_own k 2 p) ≡ fold text_and_numbers_with (grant_flat_so_far k) us
  grant_flat_at k (Bytes c) us t e = ap (kept_after text_and_numbers_with (grant_flat_so_far k)) e
  grant_flat_at k (Number v) us t e = absurd cc
  grant_flat_at k (Eight c) us t e = absurd cc
  grant_flat_at k (Four c) us t e = absurd cc

  same_grant_flat : (k : MemberKept F G) (f : Field) (us : List Field) → FitsBy (takes E) (PayloadFits E) f → eqb f.number 2 ≡ true → piece_at text_and_numbers 2 f ≡ Ok us → grant_flat_so_far (step k f) ≡ fold text_and_numbers_with (grant_flat_so_far k) us
  same_grant_flat k f us fit h piece =
      let is = eqb-true f.number 2 h in
      let e = sym (ap (λ (b : Bool). cond b (of_bytes (fields_of text_and_numbers) f.payload) (Ok [])) h) ∙ piece in
      subst (λ (m : ℕ). grant_flat_so_far (member_payload first_own first_own_with no_first_own second_own second_own_with no_second_own k m f.payload) ≡ fold text_and_numbers_with (grant_flat_so_far k) us) (sym is)
      (grant_flat_at k f.payload us (subst (λ (m : ℕ). takes E m (wire_type f.payload) ≡ true) is fit.type_fits) e)

  other_grant_flat : (k : MemberKept F G) (f : Field) → FitsBy (takes E) (PayloadFits E) f → knows E f.number ≡ true → eqb f.number 2 ≡ false → grant_flat_so_far (step k f) ≡ nothing_kept
  other_grant_flat k f fit m ne =
      on_bytes (λ (j : MemberKept F G). grant_flat_so_far j ≡ nothing_kept) k f.number f.payload fit.type_fits m
      (λ c. chosen (λ (j : MemberKept F G). grant_flat_so_far j ≡ nothing_kept) (eqb f.number 1) (eqb f.number 2) (eqb f.number 3) (eqb f.number 4) (eqb f.number 5) _ _ _ _ _ k m
      (λ t. refl) (λ t. two_sides (eqb f.number 2) t ne) (λ t. refl) (λ t. refl) (λ t. refl))

  pub member_grant_flat_finishes : {V O : Type 0} (value : List Field → Result V WireError) (made : _ → V) (member : V → O) → Finishes text_and_numbers value text_and_numbers_with nothing_kept made
      → (fs : List Field) → Fits E fs → member_of (knows E) 2 text_and_numbers value member fs ≡ Ok (Some (member (made (grant_flat_so_far (fold step Absent fs)))))
  member_grant_flat_finishes value made member finishes fs fit = member_finishes E step 2 text_and_numbers text_and_numbers_with nothing_kept grant_flat_so_far (λ p h. h) refl same_grant_flat other_grant_flat none value made member finishes Absent refl fs fit

  -- member 3
  revoke_flat_at : (k : MemberKept F G) (p : Payload) (us : List Field) → takes E 3 (wire_type p) ≡ true → of_bytes (fields_of text_and_numbers) p ≡ Ok us
      → revoke_flat_so_far (member_payload first_own first_own_with no_first_own second_own second_own_with no_second_own k 3 p) ≡ fold text_and_numbers_with (revoke_flat_so_far k) us
  revoke_flat_at k (Bytes c) us t e = ap (kept_after text_and_numbers_with (revoke_flat_so_far k)) e
  revoke_flat_at k (Number v) us t e = absurd cc
  revoke_flat_at k (Eight c) us t e = absurd cc
  revoke_flat_at k (Four c) us t e = absurd cc

  same_revoke_flat : (k : MemberKept F G) (f : Field) (us : List Field) → FitsBy (takes E) (PayloadFits E) f → eqb f.number 3 ≡ true → piece_at text_and_numbers 3 f ≡ Ok us → revoke_flat_so_far (step k f) ≡ fold text_and_numbers_with (revoke_flat_so_far k) us
  same_revoke_flat k f us fit h piece =
      let is = eqb-true f.number 3 h in
      let e = sym (ap (λ (b : Bool). cond b (of_bytes (fields_of text_and_numbers) f.payload) (Ok [])) h) ∙ piece in
      subst (λ (m : ℕ). revoke_flat_so_far (member_payload first_own first_own_with no_first_own second_own second_own_with no_second_own k m f.payload) ≡ fold text_and_numbers_with (revoke_flat_so_far k) us) (sym is)
      (revoke_flat_at k f.payload us (subst (λ (m : ℕ). takes E m (wire_type f.payload) ≡ true) is fit.type_fits) e)

  other_revoke_flat : (k : MemberKept F G) (f : Field) → FitsBy (takes E) (PayloadFits E) f → knows E f.number ≡ true → eqb f.number 3 ≡ false → revoke_flat_so_far (step k f) ≡ nothing_kept
  other_revoke_flat k f fit m ne =
      on_bytes (λ (j : MemberKept F G). revoke_flat_so_far j ≡ nothing_kept) k f.number f.payload fit.type_fits m
      (λ c. chosen (λ (j : MemberKept F G). revoke_flat_so_far j ≡ nothing_kept) (eqb f.number 1) (eqb f.number 2) (eqb f.number 3) (eqb f.number 4) (eqb f.number 5) _ _ _ _ _ k m
      (λ t. refl) (λ t. refl) (λ t. two_sides (eqb f.number 3) t ne) (λ t. refl) (λ t. refl))

  pub member_revoke_flat_finishes : {V O : Type 0} (value : List Field → Result V WireError) (made : _ → V) (member : V → O) → Finishes text_and_numbers value text_and_numbers_with nothing_kept made
      → (fs : List Field) → Fits E fs → member_of (knows E) 3 text_and_numbers value member fs ≡ Ok (Some (member (made (revoke_flat_so_far (fold step Absent fs)))))
  member_revoke_flat_finishes value made member finishes fs fit = member_finishes E step 3 text_and_numbers text_and_numbers_with nothing_kept revoke_flat_so_far (λ p h. h) refl same_revoke_flat other_revoke_flat none value made member finishes Absent refl fs fit

  -- member 4
  first_own_at : (k : MemberKept F G) (p : Payload) (us : List Field) → takes E 4 (wire_type p) ≡ true → of_bytes (fields_of first_own) p ≡ Ok us
      → first_own_so_far no_first_own (member_payload first_own first_own_with no_first_own second_own second_own_with no_second_own k 4 p) ≡ fold first_own_with (first_own_so_far no_first_own k) us
  first_own_at k (Bytes c) us t e = ap (kept_after first_own_with (first_own_so_far no_first_own k)) e
  first_own_at k (Number v) us t e = absurd cc
  first_own_at k (Eight c) us t e = absurd cc
  first_own_at k (Four c) us t e = absurd cc

  same_first_own : (k : MemberKept F G) (f : Field) (us : List Field) → FitsBy (takes E) (PayloadFits E) f → eqb f.number 4 ≡ true → piece_at first_own 4 f ≡ Ok us → first_own_so_far no_first_own (step k f) ≡ fold first_own_with (first_own_so_far no_first_own k) us
  same_first_own k f us fit h piece =
      let is = eqb-true f.number 4 h in
      let e = sym (ap (λ (b : Bool). cond b (of_bytes (fields_of first_own) f.payload) (Ok [])) h) ∙ piece in
      subst (λ (m : ℕ). first_own_so_far no_first_own (member_payload first_own first_own_with no_first_own second_own second_own_with no_second_own k m f.payload) ≡ fold first_own_with (first_own_so_far no_first_own k) us) (sym is)
      (first_own_at k f.payload us (subst (λ (m : ℕ). takes E m (wire_type f.payload) ≡ true) is fit.type_fits) e)

  other_first_own : (k : MemberKept F G) (f : Field) → FitsBy (takes E) (PayloadFits E) f → knows E f.number ≡ true → eqb f.number 4 ≡ false → first_own_so_far no_first_own (step k f) ≡ no_first_own
  other_first_own k f fit m ne =
      on_bytes (λ (j : MemberKept F G). first_own_so_far no_first_own j ≡ no_first_own) k f.number f.payload fit.type_fits m
      (λ c. chosen (λ (j : MemberKept F G). first_own_so_far no_first_own j ≡ no_first_own) (eqb f.number 1) (eqb f.number 2) (eqb f.number 3) (eqb f.number 4) (eqb f.number 5) _ _ _ _ _ k m
      (λ t. refl) (λ t. refl) (λ t. refl) (λ t. two_sides (eqb f.number 4) t ne) (λ t. refl))

  pub first_own_finishes : {V O : Type 0} (value : List Field → Result V WireError) (made : _ → V) (member : V → O) → Finishes first_own value first_own_with no_first_own made
      → (fs : List Field) → Fits E fs → member_of (knows E) 4 first_own value member fs ≡ Ok (Some (member (made (first_own_so_far no_first_own (fold step Absent fs)))))
  first_own_finishes value made member finishes fs fit = member_finishes E step 4 first_own first_own_with no_first_own (first_own_so_far no_first_own) (λ p h. h) refl same_first_own other_first_own none value made member finishes Absent refl fs fit

  -- member 5
  second_own_at : (k : MemberKept F G) (p : Payload) (us : List Field) → takes E 5 (wire_type p) ≡ true → of_bytes (fields_of second_own) p ≡ Ok us
      → second_own_so_far no_second_own (member_payload first_own first_own_with no_first_own second_own second_own_with no_second_own k 5 p) ≡ fold second_own_with (second_own_so_far no_second_own k) us
  second_own_at k (Bytes c) us t e = ap (kept_after second_own_with (second_own_so_far no_second_own k)) e
  second_own_at k (Number v) us t e = absurd cc
  second_own_at k (Eight c) us t e = absurd cc
  second_own_at k (Four c) us t e = absurd cc

  same_second_own : (k : MemberKept F G) (f : Field) (us : List Field) → FitsBy (takes E) (PayloadFits E) f → eqb f.number 5 ≡ true → piece_at second_own 5 f ≡ Ok us → second_own_so_far no_second_own (step k f) ≡ fold second_own_with (second_own_so_far no_second_own k) us
  same_second_own k f us fit h piece =
      let is = eqb-true f.number 5 h in
      let e = sym (ap (λ (b : Bool). cond b (of_bytes (fields_of second_own) f.payload) (Ok [])) h) ∙ piece in
      subst (λ (m : ℕ). second_own_so_far no_second_own (member_payload first_own first_own_with no_first_own second_own second_own_with no_second_own k m f.payload) ≡ fold second_own_with (second_own_so_far no_second_own k) us) (sym is)
      (second_own_at k f.payload us (subst (λ (m : ℕ). takes E m (wire_type f.payload) ≡ true) is fit.type_fits) e)

  other_second_own : (k : MemberKept F G) (f : Field) → FitsBy (takes E) (PayloadFits E) f → knows E f.number ≡ true → eqb f.number 5 ≡ false → second_own_so_far no_second_own (step k f) ≡ no_second_own
  other_second_own k f fit m ne =
      on_bytes (λ (j : MemberKept F G). second_own_so_far no_second_own j ≡ no_second_own) k f.number f.payload fit.type_fits m
      (λ c. chosen (λ (j : MemberKept F G). second_own_so_far no_second_own j ≡ no_second_own) (eqb f.number 1) (eqb f.number 2) (eqb f.number 3) (eqb f.number 4) (eqb f.number 5) _ _ _ _ _ k m
      (λ t. refl) (λ t. refl) (λ t. refl) (λ t. refl) (λ t. two_sides (eqb f.number 5) t ne))

  pub second_own_finishes : {V O : Type 0} (value : List Field → Result V WireError) (made : _ → V) (member : V → O) → Finishes second_own value second_own_with no_second_own made
      → (fs : List Field) → Fits E fs → member_of (knows E) 5 second_own value member fs ≡ Ok (Some (member (made (second_own_so_far no_second_own (fold step Absent fs)))))
  second_own_finishes value made member finishes fs fit = member_finishes E step 5 second_own second_own_with no_second_own (second_own_so_far no_second_own) (λ p h. h) refl same_second_own other_second_own none value made member finishes Absent refl fs fit

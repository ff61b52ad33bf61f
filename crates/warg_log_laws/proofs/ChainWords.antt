-- A chain of the entries that last gave is a chain of grants from the log's first Init on, and the other way round.
use Rattle.std.proofs.Common.{◌≡◌, ◌↔◌, inl, inr, ℕ, zero, suc, ◌+◌, ◌<◌, List, [], ◌∷◌, ◌++◌, take, drop, map, reverse, Bool, true, false, Option, Some, None, Result, refl, sym, ap, ◌∙◌, subst, arith, append_assoc, true≢false}
use Rattle.std.specs.Prelude.{slice_get, AllPairs}
use Rattle.std.specs.List.{AllByRecursion}
use Rattle.std.specs.Option.{option_map}
use Rattle.std.proofs.lemmas.List.{reverse-reverse, take-map}
use Rattle.std.proofs.lemmas.List.Elements.{All-from_recursion}
use Rattle.std.proofs.lemmas.List.Kept.{AllPairs-cons}
use Rattle.std.proofs.lemmas.Option.{slice_get-map, slice_get_within}
use Rattle.warg_envelope.specs.EnvelopeData.{EnvelopeData}
use Rattle.warg_log_records.specs.RecordData.{EntryData, Init, GrantFlat, RevokeFlat, RecordData}
use Rattle.warg_log_records.specs.Kinds.{SignatureRelation, KindLaws, IsAccepted}
use Rattle.warg_log_records.specs.declared.effect.Effect.{Effect}
use Rattle.warg_log_records.specs.declared.effect.Effect.TheVariants.{Gives, Nothing}
use Rattle.warg_replay.specs.declared.audited_log.link.Link.{Link}
use Rattle.warg_replay.specs.AuditedLog.Chains.{Entry, first_place, held_by, IsHeld, IsLastGift, IsChainBack, IsChainAnswer}
use Rattle.warg_replay.proofs.AuditedLogLemmas.GrantIndexLemmas.{held-all}
use Rattle.warg_replay.proofs.AuditedLogLemmas.HoldLemmas.{held-last}
use Rattle.warg_log.specs.Forms.{is_init, OneInitFirst}
use Rattle.warg_log.specs.History.{PlacedEvent, entry_on, history_of}
use Rattle.warg_log.specs.Listings.{IsGift}
use Rattle.warg_log.specs.KindOfRules.{effect_of, effects_of, kind_of, signed_record_of}
use Rattle.warg_log.specs.Rules.{Rules, Event}
use Rattle.warg_log.proofs.FormLaws.{accepted-form}
use Rattle.warg_log.proofs.ListingLaws.{gift}
use Rattle.warg_log.proofs.SignedEntryLaws.{map-join}
use Rattle.warg_log_laws.specs.GrantChains.{place_of, IsBefore, AreSilentOn, IsGrantTo, PassOn, IsChainOfGrants}
use Rattle.warg_log_laws.proofs.ChainsBack.{IsAnswerOf, chain-back}
use Rattle.warg_log_laws.proofs.HistoryEntries.{entry_of, entries-history}
use Rattle.warg_log_laws.proofs.OneChain.{one-chain}
use Rattle.warg_log_laws.proofs.ListLemmas.{same_item, item_at, mapped_at, take_at, split_at, dropped_at, reverse-cons, each-rest, each-from, each-map, filter_first, filter_only}
use Rattle.warg_log_laws.proofs.RisingPlaces.{Rises, compared, rises-rest, rises-at, none_before_first, history-rises}

module _ {P O : Type 0} (same : P → P → Bool) (p : P) where
  init_gift : (k signer : List ℕ) (r : EntryData P O) → is_init r ≡ true → IsGift same k p signer r → signer ≡ k
  init_gift k signer (EntryData.Shared (Init algorithm key)) is g = g
  init_gift k signer (EntryData.Shared (GrantFlat key permissions)) is g = absurd (true≢false (sym is))
  init_gift k signer (EntryData.Shared (RevokeFlat id permissions)) is g = absurd g
  init_gift k signer (EntryData.Own o) is g = absurd g

  grant_gift : (k signer : List ℕ) (r : EntryData P O) → is_init r ≡ false → IsGift same k p signer r → IsGrantTo same p k r
  grant_gift k signer (EntryData.Shared (Init algorithm key)) is g = absurd (true≢false is)
  grant_gift k signer (EntryData.Shared (GrantFlat key permissions)) is g = g
  grant_gift k signer (EntryData.Shared (RevokeFlat id permissions)) is g = absurd g
  grant_gift k signer (EntryData.Own o) is g = absurd g

  -- one grant more
  passed-more : (h : List (PlacedEvent (EntryData P O))) (giver : List ℕ) (es : List (PlacedEvent (EntryData P O))) (mid : List ℕ) (x : PlacedEvent (EntryData P O)) (rest : List (PlacedEvent (EntryData P O))) (k : List ℕ) → PassOn same p h giver es mid → x.event.signer ≡ mid
      → IsGrantTo same p k x.event.entry → AreSilentOn same p k rest → PassOn same p (h ++ x ∷ rest) giver (es ++ x ∷ []) k
  passed-more h giver [] mid x rest k passed signed grant silent = (h, rest, refl, passed.1, signed ∙ sym passed.0, (k, grant, (refl, silent)))
  passed-more h giver (e ∷ es) mid x rest k passed signed grant silent = (
    passed.0,
    passed.1 ++ x ∷ rest,
    ap (λ (l : List (PlacedEvent (EntryData P O))). l ++ x ∷ rest) passed.2 ∙ append_assoc passed.0 (e ∷ passed.1) (x ∷ rest),
    passed.3,
    passed.4,
    (passed.5.0, passed.5.1, passed-more passed.1 passed.5.0 es mid x rest k passed.5.2 signed grant silent),
  )

  -- the grants stand in the order of the history
  rises-passed : (x : PlacedEvent (EntryData P O)) (h : List (PlacedEvent (EntryData P O))) (giver : List ℕ) (es : List (PlacedEvent (EntryData P O))) (k : List ℕ) → PassOn same p h giver es k → Rises (x ∷ h) → Rises (x ∷ es)
  rises-passed x h giver [] k passed r = (tt, tt)
  rises-passed x h giver (e ∷ es) k passed r =
      let split : Rises (x ∷ (passed.0 ++ e ∷ passed.1)) = subst (λ (l : List (PlacedEvent (EntryData P O))). Rises (x ∷ l)) passed.2 r in
      let before : AllByRecursion (λ (y : PlacedEvent (EntryData P O)). IsBefore (place_of x) (place_of y)) (e ∷ passed.1) = each-rest (λ (y : PlacedEvent (EntryData P O)). IsBefore (place_of x) (place_of y)) passed.0 (e ∷ passed.1) split.0 in
      let after : Rises (e ∷ passed.1) = rises-rest passed.0 (e ∷ passed.1) split.1 in
      ((before.0, (rises-passed x passed.1 passed.5.0 es k passed.5.2 (before.1, after.1)).0), rises-passed e passed.1 passed.5.0 es k passed.5.2 after)

rising-pairs : {A : Type 0} (es : List (PlacedEvent A)) → Rises es → AllPairs IsBefore (map place_of es)
rising-pairs [] r = λ i j d lt within. absurd (omega (arith, within))
rising-pairs (e ∷ es) r =
    AllPairs-cons IsBefore (place_of e) (map place_of es)
    (All-from_recursion (IsBefore (place_of e)) (map place_of es) (each-map place_of (IsBefore (place_of e)) es r.0))
    (rising-pairs es r.1)

none_begins : {A : Type 0} (x : A) (xs : List A) → [] ≡ x ∷ xs → ⊥
none_begins x xs h = cc

nothing_said : (o : Option Bool) → effect_of o ≡ Nothing → o ≡ None
nothing_said None h = refl
nothing_said (Some true) h = cc
nothing_said (Some false) h = cc

module _ {P O : Type 0} (same : P → P → Bool) (p : P) where
  -- the last gift of what is held is at j
  module _ (g : List (PlacedEvent (EntryData P O))) (k : List ℕ) (j : ℕ) (e : Entry P) (last : IsLastGift (map (entry_of same) g) k p j e) (held : held_by false (map (entry_of same) g) k p ≡ true) where
    held_at : IsHeld (map (entry_of same) g) k p
    held_at = (held-last k p (map (entry_of same) g)).0 held

    gives_something : (x : Effect) → x ≡ Gives → x ≡ Nothing → ⊥
    gives_something x gives nothing = cc

    it_is : held_at.0 ≡ j
    it_is = elim (compared held_at.0 j) [
      | inl lt ↦ absurd (gives_something (e.effect k p) last.gives (held_at.4 j e lt last.at))
      | inr rest ↦ elim rest [
        | inl gt ↦ absurd (last.last held_at.0 held_at.1 gt held_at.2 held_at.3)
        | inr is ↦ is
      ]
    ]

    later : (n i : ℕ) → n ≡ j → n < suc j + i
    later n i is = omega (arith, is)

    silent_at : (i : ℕ) (x : PlacedEvent (EntryData P O)) → slice_get (drop (suc j) g) i ≡ Some x → entry_on same k p x.event.signer x.event.entry ≡ None
    silent_at i x at =
        let there = slice_get-map (entry_of same) g (suc j + i) ∙ ap (option_map (entry_of same)) (sym (dropped_at g (suc j) i) ∙ at) in
        nothing_said (entry_on same k p x.event.signer x.event.entry) (held_at.4 (suc j + i) (entry_of same x) (later held_at.0 i it_is) there)

    -- after it no entry is on k and p
    silent_later : AreSilentOn same p k (drop (suc j) g)
    silent_later =
        All-from_recursion (λ (x : PlacedEvent (EntryData P O)). entry_on same k p x.event.signer x.event.entry ≡ None) (drop (suc j) g)
        (each-from (λ (x : PlacedEvent (EntryData P O)). entry_on same k p x.event.signer x.event.entry ≡ None) (drop (suc j) g) silent_at)

module _ {P O : Type 0} (same : P → P → Bool) (p : P) (h : List (PlacedEvent (EntryData P O))) (rises : Rises h) (begins : OneInitFirst h) where
  abbrev entries : List (PlacedEvent (EntryData P O)) → List (Entry P)
  entries g = map (entry_of same) g

  -- h begins with the entries of g
  abbrev IsFront : List (PlacedEvent (EntryData P O)) → Type 0
  IsFront g = (i : ℕ) (x : PlacedEvent (EntryData P O)) → slice_get g i ≡ Some x → slice_get h i ≡ Some x

  -- what a chain back from k's permission over the entries of g is
  record Found (g : List (PlacedEvent (EntryData P O))) (k : List ℕ) (links : List Link) : Type 0 where
    init : PlacedEvent (EntryData P O)
    later : List (PlacedEvent (EntryData P O))
    grants : List (PlacedEvent (EntryData P O))
    places : map place_of (init ∷ grants) ≡ links
    starts : g ≡ init ∷ later
    passed : PassOn same p later init.event.signer grants k

  init_place : place_of begins.init ≡ first_place
  init_place = λ i. record { record_index = begins.first_record i; entry_index = begins.first_entry i }

  init_at : (n : ℕ) × ((slice_get h n ≡ Some begins.init) × (is_init begins.init.event.entry ≡ true))
  init_at = filter_first (λ (e : PlacedEvent (EntryData P O)). is_init e.event.entry) h begins.init [] begins.only

  -- at the first place stands the first entry
  first_at_zero : (n : ℕ) (x : PlacedEvent (EntryData P O)) → slice_get h n ≡ Some x → place_of x ≡ first_place → n ≡ 0
  first_at_zero zero x at place = refl
  first_at_zero (suc n) x at place =
      let within = slice_get_within h (suc n) x at in
      let y = item_at h 0 (omega (arith, within)) in
      absurd (none_before_first (place_of y.0) (place_of x) place (rises-at h rises 0 (suc n) y.0 x (omega arith) y.1 at))

  pub init_first : slice_get h 0 ≡ Some begins.init
  init_first = ap (slice_get h) (sym (first_at_zero init_at.0 begins.init init_at.1.0 init_place)) ∙ init_at.1.0

  -- a grant more, at the end
  found-more : (g : List (PlacedEvent (EntryData P O))) → IsFront g → (k : List ℕ) (l m : Link) (ms : List Link) (j : ℕ) (e : Entry P) → IsLastGift (entries g) k p j e → e.place ≡ l → held_by false (entries g) k p ≡ true → Found (take j g) e.signer (reverse (m ∷ ms)) → Found g k (reverse (l ∷ m ∷ ms))
  found-more g front k l m ms j e last place held rest = by (is_init x.0.event.entry) refl
    where
      x : (y : PlacedEvent (EntryData P O)) × ((slice_get g j ≡ Some y) × (entry_of same y ≡ e))
      x = mapped_at (entry_of same) g j e last.at

      gives : IsGift same k p x.0.event.signer x.0.event.entry
      gives = (gift same x.0.event.signer k p x.0.event.entry).0 (ap (λ (y : Entry P). y.effect k p) x.1.1 ∙ last.gives)

      -- the log's Init stands before all grants
      no_init : is_init x.0.event.entry ≡ true → ⊥
      no_init is =
          let at = front j x.0 x.1.0 in
          let one : x.0 ≡ begins.init = filter_only (λ (e : PlacedEvent (EntryData P O)). is_init e.event.entry) h begins.init begins.only j x.0 at is in
          let first = take_at g j 0 rest.init (ap (λ (l : List (PlacedEvent (EntryData P O))). slice_get l 0) rest.starts) in
          none_before_first (place_of rest.init) (place_of x.0) (ap place_of one ∙ init_place) (rises-at h rises 0 j rest.init x.0 first.0 (front 0 rest.init first.1) at)

      granted : IsGrantTo same p k x.0.event.entry → Found g k (reverse (l ∷ m ∷ ms))
      granted grant = record {
        init = rest.init;
        later = rest.later ++ x.0 ∷ drop (suc j) g;
        grants = rest.grants ++ x.0 ∷ [];
        places = map-join place_of (rest.init ∷ rest.grants) (x.0 ∷ [])
            ∙ (λ i. rest.places i ++ (ap (λ (y : Entry P). y.place) x.1.1 ∙ place) i ∷ [])
            ∙ sym (reverse-cons l (m ∷ ms));
        starts = split_at g j x.0 x.1.0 ∙ ap (λ (f : List (PlacedEvent (EntryData P O))). f ++ x.0 ∷ drop (suc j) g) rest.starts;
        passed = passed-more same p rest.later rest.init.event.signer rest.grants e.signer x.0 (drop (suc j) g) k rest.passed (ap (λ (y : Entry P). y.signer) x.1.1) grant (silent_later same p g k j e last held);
      }

      by : (b : Bool) → is_init x.0.event.entry ≡ b → Found g k (reverse (l ∷ m ∷ ms))
      by true is = absurd (no_init is)
      by false is = granted (grant_gift same p k x.0.event.signer x.0.event.entry is gives)

  found : (g : List (PlacedEvent (EntryData P O))) → IsFront g → (k : List ℕ) (ls : List Link) → IsChainBack (entries g) k p ls → held_by false (entries g) k p ≡ true → Found g k (reverse ls)
  found g front k [] c held = absurd c
  found g front k (l ∷ []) c held =
      let x = mapped_at (entry_of same) g c.0 c.1 c.2.at in
      let place : place_of x.0 ≡ l = ap (λ (y : Entry P). y.place) x.1.1 ∙ c.3 in
      let at = front c.0 x.0 x.1.0 in
      let start : c.0 ≡ 0 = first_at_zero c.0 x.0 at (place ∙ c.4) in
      let is : x.0 ≡ begins.init = same_item x.0 begins.init (sym at ∙ ap (slice_get h) start ∙ init_first) in
      let gives = (gift same x.0.event.signer k p x.0.event.entry).0 (ap (λ (y : Entry P). y.effect k p) x.1.1 ∙ c.2.gives) in
      let begun = init_gift same p k x.0.event.signer x.0.event.entry (ap (λ (y : PlacedEvent (EntryData P O)). is_init y.event.entry) is ∙ init_at.1.1) gives in
      record {
        init = x.0;
        later = drop (suc c.0) g;
        grants = [];
        places = ap (λ m. m ∷ []) place;
        starts = split_at g c.0 x.0 x.1.0 ∙ ap (λ n. take n g ++ x.0 ∷ drop (suc c.0) g) start;
        passed = (begun, subst (λ (j : List ℕ). AreSilentOn same p j (drop (suc c.0) g)) (sym begun) (silent_later same p g k c.0 c.1 c.2 held));
      }
  found g front k (l ∷ m ∷ ms) c held =
      let before : take c.0 (entries g) ≡ entries (take c.0 g) = take-map (entry_of same) c.0 g in
      found-more g front k l m ms c.0 c.1 c.2 c.3 held
      (found (take c.0 g) (λ i x at. front i x (take_at g c.0 i x at).1) c.1.signer (m ∷ ms)
      (subst (λ (es : List (Entry P)). IsChainBack es c.1.signer p (m ∷ ms)) before c.5)
      (subst (λ (es : List (Entry P)). held_by false es c.1.signer p ≡ true) before c.4))

  -- a chain over all entries
  pub chain-words : (k : List ℕ) (links : List Link) → IsAnswerOf (entries h) k p links → IsChainOfGrants same p h k links
  chain-words k links c =
      let f = found h (λ i x at. at) k (reverse links) c.1 c.0 in
      let places : map place_of (f.init ∷ f.grants) ≡ links = f.places ∙ reverse-reverse links in
      let is : f.init ≡ begins.init = same_item f.init begins.init (ap (λ (l : List (PlacedEvent (EntryData P O))). slice_get l 0) (sym f.starts) ∙ init_first) in
      record {
        init = f.init;
        later = f.later;
        grants = f.grants;
        places = places;
        rising = subst (AllPairs IsBefore) places (rising-pairs (f.init ∷ f.grants) (rises-passed same p f.init f.later f.init.event.signer f.grants k f.passed (subst Rises f.starts rises)));
        begins = f.starts;
        first = ap (λ (y : PlacedEvent (EntryData P O)). is_init y.event.entry) is ∙ init_at.1.1;
        passed = f.passed;
      }

  -- a chain of grants is a chain back
  pub words-chain : (k : List ℕ) (links : List Link) → IsChainOfGrants same p h k links → IsAnswerOf (entries h) k p links
  words-chain k links c =
      let is : c.init ≡ begins.init = same_item c.init begins.init (ap (λ (l : List (PlacedEvent (EntryData P O))). slice_get l 0) (sym c.begins) ∙ init_first) in
      chain-back same p h k links c (ap place_of is ∙ init_place)

  -- two chains of grants are one
  pub one-of-grants : (k : List ℕ) (links others : List Link) → IsChainOfGrants same p h k links → IsChainOfGrants same p h k others → others ≡ links
  one-of-grants k links others c d =
      let starts = λ (n : ℕ) (e : Entry P) (at : slice_get (entries h) n ≡ Some e) (place : e.place ≡ first_place).
      let x = mapped_at (entry_of same) h n e at in
      first_at_zero n x.0 x.1.0 (ap (λ (y : Entry P). y.place) x.1.1 ∙ place) in
      let back = one-chain p (entries h) starts (entries h) (λ i e at. at) k (reverse others) (reverse links) (words-chain k others d).1 (words-chain k links c).1 in
      sym (reverse-reverse others) ∙ ap (λ (l : List Link). reverse l) back ∙ reverse-reverse links

module _ {P O V F D : Type 0} (rules : Rules P O V F) (same : P → P → Bool) (read : List ℕ → Result (RecordData P O) D) (own_state : List (Event O) → V) (b : SignatureRelation) (laws : KindLaws (kind_of rules same read own_state)) where
  -- the chains of an accepted log, in the words of its history
  pub accepted-chains : (es : List EnvelopeData) → IsAccepted (kind_of rules same read own_state) b es → (k : List ℕ) (p : P) (links : List Link)
      → IsChainAnswer (effects_of rules same read) es k p (Some links) ↔ IsChainOfGrants same p (history_of rules.id_of (map (signed_record_of rules same read) es)) k links
  accepted-chains [] h k p links = (λ answer. absurd (true≢false (sym answer.0)), λ c. absurd (none_begins c.init c.later c.begins))
  accepted-chains (e ∷ es) h k p links =
      let f = effects_of rules same read in
      let records = map (signed_record_of rules same read) (e ∷ es) in
      let history = history_of rules.id_of records in
      let rises = history-rises rules.id_of records in
      let form = accepted-form rules same read own_state b laws (e ∷ es) (omega arith) h in
      let IsAnswer = λ (l : List (Entry P)). IsAnswerOf l k p links in
      let listed = entries-history rules same read (e ∷ es) in (
        λ answer. chain-words same p history rises form.begins k links (subst IsAnswer listed (held-all f (e ∷ es) k p ∙ answer.0, answer.1)),
        λ c. let answer = subst IsAnswer (sym listed) (words-chain same p history rises form.begins k links c) in (sym (held-all f (e ∷ es) k p) ∙ answer.0, answer.1),
      )

  -- the key has one at most
  pub accepted-one : (es : List EnvelopeData) → IsAccepted (kind_of rules same read own_state) b es → (k : List ℕ) (p : P) (links : List Link) → IsChainOfGrants same p (history_of rules.id_of (map (signed_record_of rules same read) es)) k links
      → (others : List Link) → IsChainOfGrants same p (history_of rules.id_of (map (signed_record_of rules same read) es)) k others → others ≡ links
  accepted-one [] h k p links c others d = absurd (none_begins c.init c.later c.begins)
  accepted-one (e ∷ es) h k p links c others d =
      let records = map (signed_record_of rules same read) (e ∷ es) in
      let form = accepted-form rules same read own_state b laws (e ∷ es) (omega arith) h in
      one-of-grants same p (history_of rules.id_of records) (history-rises rules.id_of records) form.begins k links others c d

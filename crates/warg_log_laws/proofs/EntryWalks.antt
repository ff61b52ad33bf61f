-- A log read entry by entry: each entry is asked after the one list of all those before it.
use Rattle.std.proofs.Common.{◌≡◌, ℕ, List, [], ◌∷◌, ◌++◌, take, drop, map, Bool, true, false, ◌||◌, not, Option, Some, None, Result, Err, refl, sym, ap, ◌∙◌, subst, append-nil, append_assoc}
use Rattle.std.specs.Prelude.{slice_get, find}
use Rattle.std.specs.List.{filter_map, cons_option}
use Rattle.std.specs.Option.{option_map, option_or}
use Rattle.std.proofs.lemmas.List.Elements.{filter_map-append}
use Rattle.std.proofs.lemmas.List.{take-append-drop}
use Rattle.warg_crypto.specs.NamedBytes.{fingerprint_of}
use Rattle.warg_crypto.specs.Time.Times.{Time}
use Rattle.warg_permissions.specs.Permissions.{lists}
use Rattle.warg_envelope.specs.EnvelopeData.{EnvelopeData}
use Rattle.warg_log_records.specs.RecordData.{EntryData, Init, GrantFlat, RevokeFlat, RecordData}
use Rattle.warg_log_records.specs.declared.record_id.RecordId.{RecordId}
use Rattle.warg_log_records.specs.Kinds.{SignatureRelation, Kind, IsAccepted}
use Rattle.warg_log_records.specs.Walks as walk
use Rattle.warg_log_records.proofs.WalkLaws as walks
use Rattle.warg_log.specs.History.{PlacedEvent, record_history, history_of, access_view_of, own_events, own_after, own_offence}
use Rattle.warg_log.specs.KindOfRules.{kind_of, signed_record_of}
use Rattle.warg_log.specs.Offences.{required_offence, not_begun, empty_grant, UnauthorizedAction}
use Rattle.warg_log.specs.Rules.{SignedRecord, Event, Rules, StateView, View, LogOffence, signed_entry_of, own_of, record_events, state_view_after, entry_fault, events_offence}
use Rattle.warg_log.specs.Rules as rule
use Rattle.warg_permissions.specs.KeyMaps.AuthorityData.{empty_access}
use Rattle.warg_log.specs.SignedEntries.{after}
use Rattle.warg_log.proofs.AcceptedOwnEvents.{accepted-own_events, own_events-listed}
use Rattle.warg_log.proofs.Firsts.{or_first, or_second, unmapped}
use Rattle.warg_log.proofs.FormLaws.{lawful}
use Rattle.warg_log.proofs.HistoryLaws.{state-none, state-append}
use Rattle.warg_log.proofs.HistoryViews.{Lawful, access-view-listed, signed_entries_in, record_flat}
use Rattle.warg_log.proofs.KindLaws.{read_lawful, find_none, not_false}
use Rattle.warg_log.proofs.SignedEntryLaws.{after-append, map-join}
use Rattle.warg_log_laws.specs.EntryByEntry.{state_view_of, entry_offence}
use Rattle.warg_log_laws.specs.GrantChains.{IsGrantTo}
use Rattle.warg_log_laws.proofs.ListLemmas.{mapped_at}

-- the offence of the first that has one
abbrev second : {C : Type 0} → Option (ℕ × C) → Option C
second o = option_map (λ f. f.1) o

later-second : {C : Type 0} (o : Option C) (rest : Option (ℕ × C)) → option_or o (second rest) ≡ second (walk.or_later o rest)
later-second (Some c) rest = refl
later-second None None = refl
later-second None (Some p) = refl

module _ {P O V F : Type 0} (rules : Rules P O V F) (same : P → P → Bool) (none : (v : V) → v ≡ rules.after v []) (append : (v : V) (xs ys : List (Event O)) → rules.after v (xs ++ ys) ≡ rules.after (rules.after v xs) ys) where
  -- what stands after one more entry
  abbrev next : StateView P V → PlacedEvent (EntryData P O) → StateView P V
  next w e = state_view_after rules same w (e.event ∷ [])

  module _ (version : ℕ) where
    -- what is wrong with the events of entries is what is wrong with the first that has an offence
    events-first : (w : StateView P V) (before : List (Event (EntryData P O))) (xs : List (PlacedEvent (EntryData P O)))
        → events_offence rules same version w before (map (λ e. e.event) xs) ≡ second (walk.first_from next (entry_offence rules same version) (state_view_after rules same w before) xs)
    events-first w before [] = refl
    events-first w before (x ∷ xs) =
        let v = state_view_after rules same w before in
        ap (option_or (entry_offence rules same version v x))
        (events-first w (before ++ x.event ∷ []) xs
        ∙ ap (λ (u : StateView P V). second (walk.first_from next (entry_offence rules same version) u xs)) (state-append rules same none append w before (x.event ∷ [])))
        ∙ later-second (entry_offence rules same version v x) (walk.first_from next (entry_offence rules same version) (next v x) xs)

    -- where nothing is wrong with the events, each entry is lawful
    events-lawful : (w : StateView P V) (before : List (Event (EntryData P O))) (xs : List (PlacedEvent (EntryData P O))) → events_offence rules same version w before (map (λ e. e.event) xs) ≡ None
        → walk.AllLawful next (entry_offence rules same version) (state_view_after rules same w before) xs
    events-lawful w before [] h = tt
    events-lawful w before (x ∷ xs) h =
        let v = state_view_after rules same w before in (
          or_first (entry_offence rules same version v x) _ h,
          subst (λ (u : StateView P V). walk.AllLawful next (entry_offence rules same version) u xs) (state-append rules same none append w before (x.event ∷ []))
              (events-lawful w (before ++ x.event ∷ []) xs (or_second (entry_offence rules same version v x) _ h)),
        )

    -- the view after entries, one by one, is that after their events
    view-events : (w : StateView P V) (before : List (Event (EntryData P O))) (xs : List (PlacedEvent (EntryData P O)))
        → walk.view_after next (state_view_after rules same w before) xs ≡ state_view_after rules same w (before ++ map (λ e. e.event) xs)
    view-events w before [] = ap (state_view_after rules same w) (sym (append-nil before))
    view-events w before (x ∷ xs) =
        ap (λ (u : StateView P V). walk.view_after next u xs) (sym (state-append rules same none append w before (x.event ∷ [])))
        ∙ view-events w (before ++ x.event ∷ []) xs
        ∙ ap (state_view_after rules same w) (append_assoc before (x.event ∷ []) (map (λ e. e.event) xs))

  module _ (own_state : List (Event O) → V) (by_list : (es : List (Event O)) → walk.AllLawful (own_after rules) (own_offence rules) rules.start es → own_state es ≡ rules.after rules.start es) where
    -- the own event of an entry that is lawful after the history
    own-lawful : (version : ℕ) (w : StateView P V) (signer : List ℕ) (time : Time) (id : RecordId) (r : EntryData P O) → rule.entry_offence rules same version w signer r ≡ None
        → Lawful rules same none append w.own_state (cons_option (own_of (record { entry = r; signer = signer; time = time; record_id = id })) [])
    own-lawful version w signer time id (EntryData.Shared entry) h = tt
    own-lawful version w signer time id (EntryData.Own o) h =
        let own = or_second (option_map LogOffence.Shared (required_offence w.authority signer (rules.required (EntryData.Own o)))) (entry_fault rules same version w signer (EntryData.Own o)) h in
        (unmapped LogOffence.Own (rules.offence w.own_state o) (or_second (option_map LogOffence.Shared (not_begun w.authority)) (option_map LogOffence.Own (rules.offence w.own_state o)) own), tt)

    -- the entries whose own events are lawful
    abbrev Good : List (PlacedEvent (EntryData P O)) → Type 0
    Good h = Lawful rules same none append rules.start (own_events h)

    module _ (h : List (PlacedEvent (EntryData P O))) (x : PlacedEvent (EntryData P O)) where
      abbrev own_more : List (Event O)
      own_more = cons_option (own_of x.event) []

      own_events-push : own_events (h ++ x ∷ []) ≡ own_events h ++ own_more
      own_events-push = filter_map-append (λ (e : PlacedEvent (EntryData P O)). own_of e.event) h (x ∷ [])

      authority-push : access_view_of same (h ++ x ∷ []) ≡ after same (access_view_of same h) (filter_map signed_entry_of (x.event ∷ []))
      authority-push =
          access-view-listed rules.id_of same (h ++ x ∷ [])
          ∙ ap (λ l. after same empty_access (filter_map signed_entry_of l)) (map-join (λ (e : PlacedEvent (EntryData P O)). e.event) h (x ∷ []))
          ∙ ap (after same empty_access) (filter_map-append signed_entry_of (map (λ (e : PlacedEvent (EntryData P O)). e.event) h) (x.event ∷ []))
          ∙ after-append same empty_access (signed_entries_in rules.id_of h) (filter_map signed_entry_of (x.event ∷ []))
          ∙ ap (λ s. after same s (filter_map signed_entry_of (x.event ∷ []))) (sym (access-view-listed rules.id_of same h))

      -- a lawful entry more
      entry-more : (version : ℕ) → Good h → entry_offence rules same version (state_view_of same own_state h) x ≡ None
          → Good (h ++ x ∷ []) × (state_view_of same own_state (h ++ x ∷ []) ≡ next (state_view_of same own_state h) x)
      entry-more version good none_wrong =
          let own = own-lawful version (state_view_of same own_state h) x.event.signer x.event.time x.event.record_id x.event.entry none_wrong in
          let listed = own_events-listed rules same read_nothing own_state none append by_list (own_events h) good in
          let joined : Lawful rules same none append rules.start (own_events h ++ own_more) =
          walks.lawful-append (own_after rules) (own_offence rules) rules.start (own_events h) own_more good
          (subst (λ (v : V). Lawful rules same none append v own_more) listed own) in
          let own_states : own_state (own_events (h ++ x ∷ [])) ≡ rules.after (own_state (own_events h)) own_more =
          ap own_state own_events-push ∙ by_list (own_events h ++ own_more) joined ∙ append rules.start (own_events h) own_more ∙ ap (λ (v : V). rules.after v own_more) (sym (by_list (own_events h) good)) in
          (subst (Lawful rules same none append rules.start) (sym own_events-push) joined, λ i. record { authority = authority-push i; own_state = own_states i })
        where
          read_nothing : List ℕ → Result (RecordData P O) ℕ
          read_nothing content = Err 0

    -- entries after a history are asked one by one
    entries-stepwise : (version : ℕ) (h : List (PlacedEvent (EntryData P O))) → Good h
        → walk.IsStepwise next (entry_offence rules same version) (state_view_of same own_state h) (λ before. state_view_of same own_state (h ++ before)) (λ before. Good (h ++ before))
    entries-stepwise version h good = record {
      none = ap (state_view_of same own_state) (append-nil h);
      good = subst Good (sym (append-nil h)) good;
      more = λ xs x good_xs lawful_x.
          let step = entry-more (h ++ xs) x version good_xs lawful_x in
          let joined = append_assoc h xs (x ∷ []) in
          (subst Good joined step.0, ap (state_view_of same own_state) (sym joined) ∙ step.1);
    }

    module _ {D : Type 0} (read : List ℕ → Result (RecordData P O) D) (b : SignatureRelation) where
      abbrev k : Kind (View P V) (LogOffence P F)
      k = kind_of rules same read own_state

      abbrev history : List EnvelopeData → List (PlacedEvent (EntryData P O))
      history es = history_of rules.id_of (map (signed_record_of rules same read) es)

      module _ (es : List EnvelopeData) (accepted : IsAccepted k b es) (version : ℕ) where
        good : Good (history es)
        good = accepted-own_events rules same read own_state none append by_list b es accepted

        steps : walk.IsStepwise next (entry_offence rules same version) (k.view_of es).state (λ before. state_view_of same own_state (history es ++ before)) (λ before. Good (history es ++ before))
        steps = entries-stepwise version (history es) good

        start_is : state_view_after rules same (k.view_of es).state [] ≡ (k.view_of es).state
        start_is = sym (state-none rules same none append (k.view_of es).state)

        -- after lawful entries the view that is asked is that of the one list
        pub view-within : (before : List (PlacedEvent (EntryData P O))) → events_offence rules same version (k.view_of es).state [] (map (λ e. e.event) before) ≡ None
            → state_view_after rules same (k.view_of es).state (map (λ e. e.event) before) ≡ state_view_of same own_state (history es ++ before)
        view-within before h =
            let one_by_one = subst (λ (w : StateView P V). walk.AllLawful next (entry_offence rules same version) w before) start_is (events-lawful version (k.view_of es).state [] before h) in
            sym ((walks.lawful-view (entry_offence rules same version) next (k.view_of es).state (λ xs. state_view_of same own_state (history es ++ xs)) (λ xs. Good (history es ++ xs)) steps before one_by_one).1
            ∙ ap (λ (w : StateView P V). walk.view_after next w before) (sym start_is)
            ∙ view-events version (k.view_of es).state [] before)

        -- what is wrong with entries that come next is what is wrong with the first that has an offence after the one list before it
        pub first-within : (xs : List (PlacedEvent (EntryData P O))) → (found : Option (ℕ × LogOffence P F)) × (walk.IsFound (entry_offence rules same version) (λ before. state_view_of same own_state (history es ++ before)) xs found
            × (events_offence rules same version (k.view_of es).state [] (map (λ e. e.event) xs) ≡ option_map (λ f. f.1) found))
        first-within xs = (
          walk.first_from next (entry_offence rules same version) (k.view_of es).state xs,
          (
            walks.first-found (entry_offence rules same version) next (k.view_of es).state (λ before. state_view_of same own_state (history es ++ before)) (λ before. Good (history es ++ before)) steps xs,
            events-first version (k.view_of es).state [] xs ∙ ap (λ (w : StateView P V). second (walk.first_from next (entry_offence rules same version) w xs)) start_is,
          ),
        )

        -- where nothing is wrong with the entries, none has an offence after the one list before it
        pub lawful-within : (xs : List (PlacedEvent (EntryData P O))) → events_offence rules same version (k.view_of es).state [] (map (λ e. e.event) xs) ≡ None
            → walk.IsAccepted (entry_offence rules same version) (λ before. state_view_of same own_state (history es ++ before)) xs
        lawful-within xs h =
            walks.lawful-accepted (entry_offence rules same version) next (k.view_of es).state (λ before. state_view_of same own_state (history es ++ before)) (λ before. Good (history es ++ before)) steps xs
            (subst (λ (w : StateView P V). walk.AllLawful next (entry_offence rules same version) w xs) start_is (events-lawful version (k.view_of es).state [] xs h))

      -- the events of a record's entries, with or without their places
      pub placed-events : (n : ℕ) (r : SignedRecord P O) → map (λ e. e.event) (record_history rules.id_of (n, r)) ≡ record_events rules.id_of r
      placed-events n r = record_flat rules.id_of n 0 r r.contents.entries

      -- in an accepted log no entry has an offence after the one list of all entries before it
      pub accepted-entries : (es : List EnvelopeData) → IsAccepted k b es → (i : ℕ) (r : SignedRecord P O) → slice_get (map (signed_record_of rules same read) es) i ≡ Some r
          → walk.IsAccepted (entry_offence rules same r.contents.version) (λ before. state_view_of same own_state (history (take i es) ++ before)) (record_history rules.id_of (i, r))
      accepted-entries es accepted i r at =
          let e = mapped_at (signed_record_of rules same read) es i r at in
          let here = lawful rules same b (k.view_of (take i es)) (signed_record_of rules same read e.0) (read_lawful rules same read own_state b (k.view_of (take i es)) e.0 (read e.0.content) (accepted i e.0 e.1.0)) in
          let events : events_offence rules same r.contents.version (k.view_of (take i es)).state [] (record_events rules.id_of r) ≡ None =
          subst (λ (x : SignedRecord P O). events_offence rules same x.contents.version (k.view_of (take i es)).state [] (record_events rules.id_of x) ≡ None) e.1.1 here.events in
          lawful-within (take i es) (front i) r.contents.version (record_history rules.id_of (i, r))
          (ap (events_offence rules same r.contents.version (k.view_of (take i es)).state []) (placed-events i r) ∙ events)
        where
          front : (n : ℕ) → IsAccepted k b (take n es)
          front n = walks.accepted-front (k.offence b) k.view_of (take n es) (drop n es) (subst (λ xs. IsAccepted k b xs) (sym (take-append-drop n es)) accepted)

-- what a lawful grant lists, its signer holds
module _ {P O V F : Type 0} (rules : Rules P O V F) (same : P → P → Bool) (same_is : (x y : P) → same x y ≡ true → x ≡ y) where
  listed-held : (h : P → Bool) (p : P) (ps : List P) → find (λ q. not (h q)) ps ≡ None → lists same ps p ≡ true → h p ≡ true
  listed-held h p [] none any = cc
  listed-held h p (q ∷ qs) none any = by (same q p) refl (listed-held h p qs (find_none (λ q. not (h q)) q qs none).1)
    where
      by : (b : Bool) → same q p ≡ b → (lists same qs p ≡ true → h p ≡ true) → h p ≡ true
      by true is later = ap h (sym (same_is q p is)) ∙ not_false (h q) (find_none (λ q. not (h q)) q qs none).0
      by false is later = later (sym (ap (λ b. b || lists same qs p) is) ∙ any)

  pub grant-held : (version : ℕ) (w : StateView P V) (x : PlacedEvent (EntryData P O)) (k : List ℕ) (p : P) → entry_offence rules same version w x ≡ None → IsGrantTo same p k x.event.entry → w.authority.holds x.event.signer p ≡ true
  grant-held version w x k p h grant = by x.event.entry (or_second (option_map LogOffence.Shared (required_offence w.authority x.event.signer (rules.required x.event.entry))) _ h) grant
    where
      by : (r : EntryData P O) → entry_fault rules same version w x.event.signer r ≡ None → IsGrantTo same p k r → w.authority.holds x.event.signer p ≡ true
      by (EntryData.Shared (Init algorithm key)) g grant = absurd grant
      by (EntryData.Shared (GrantFlat key ps)) g grant =
          let rest = or_second (not_begun w.authority) _ (unmapped LogOffence.Shared _ g) in
          listed-held (w.authority.holds x.event.signer) p ps (unmapped (UnauthorizedAction x.event.signer) _ (or_second (empty_grant version (fingerprint_of key) ps) _ rest)) grant.1
      by (EntryData.Shared (RevokeFlat id ps)) g grant = absurd grant
      by (EntryData.Own o) g grant = absurd grant

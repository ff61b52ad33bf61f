-- The form of accepted logs.
use Rattle.std.proofs.Common.{◌≡◌, ℕ, zero, suc, ◌+◌, ◌<◌, List, [], ◌∷◌, ◌++◌, length, map, Bool, true, false, not, Option, Some, None, refl, sym, ap, ◌∙◌, is_some, is_none, if◌then◌else◌, subst, true≢false, arith}
use Rattle.std.specs.Prelude.{Result, Ok, Err, IsOk, All, slice_get}
use Rattle.std.specs.List.{AllByRecursion, filter_map, flat_map, enumerate_from}
use Rattle.std.specs.Option.{option_map}
use Rattle.std.specs.Ordering.{is_lt}
use Rattle.std.proofs.lemmas.Cmp.{tied_itself}
use Rattle.std.proofs.lemmas.List.Concat.{flat_map-cons}
use Rattle.std.proofs.lemmas.List.Elements.{filter-append, filter_map-append, All-from_recursion}
use Rattle.std.proofs.lemmas.List.Kept.{AllPairs-cons}
use Rattle.std.proofs.lemmas.List.MinMax.{ranks_by}
use Rattle.warg_crypto.specs.Signed.{signed_message}
use Rattle.warg_crypto.specs.Time.Times.{Time}
use Rattle.warg_crypto.specs.Time.TimesLaws.{time_cmp_total}
use Rattle.warg_envelope.specs.EnvelopeData.{EnvelopeData}
use Rattle.warg_log_records.specs.RecordData.{Init, GrantFlat, RevokeFlat, EntryData, RecordData}
use Rattle.warg_log_records.specs.declared.record_id.RecordId.{RecordId}
use Rattle.warg_log_records.specs.Kinds.{SignatureRelation, KindLaws, AllLawful, IsAccepted, view_after}
use Rattle.warg_log_records.specs.Walks as walk
use Rattle.warg_log_records.proofs.KindWalks.{accepted-lawful}
use Rattle.warg_permissions.specs.KeyMaps.AuthorityData.{AccessView, empty_access}
use Rattle.warg_log.specs.SignedEntries.{after}
use Rattle.warg_log.specs.Forms.{TimesNeverFall, FirstAloneHasNoPrev, is_init, inits, OneInitFirst, EntriesHaveKeys, HasForm}
use Rattle.warg_log.specs.History.{PlacedEvent, placed_in, record_history, history_of}
use Rattle.warg_log.specs.Rules.{SignedRecord, Event, Rules, StateView, View, LogOffence, signed_entry_of, record_events, head_of, state_view_after, start, entry_offence, entry_fault, events_offence, unsigned_offence, record_offence, after_record, IsCoherent}
use Rattle.warg_log.specs.KindOfRules.{signed_record_of, offence_in, kind_of}
use Rattle.warg_log.specs.Offences.{Offence, required_offence, FirstEntryIsNotInit, InitialEntryAfterBeginning, InitialRecordDoesNotInit, TimestampLowerThanPrevious}
use Rattle.warg_log.specs.RecordOffences.{is_before, link_offence, version_offence, time_offence, signer_offence}
use Rattle.warg_log.specs.declared.head.Head.{Head}
use Rattle.warg_log.proofs.SignedEntryLaws.{after-append}
use Rattle.warg_log.proofs.Coherence.{coherent-new, record-coherent}
use Rattle.warg_log.proofs.Firsts.{or_first, or_second, unmapped, unless_holds}
use Rattle.warg_log.proofs.HistoryViews.{record_flat}
use Rattle.warg_log.proofs.KindLaws.{read_lawful, begun_entry}

-- times
not_true : (b : Bool) → not b ≡ true → b ≡ false
not_true true h = cc
not_true false h = refl

never_before_itself : (t : Time) → is_before t t ≡ false
never_before_itself t = ap is_lt (tied_itself time_cmp_total t)

not_before-trans : (a b c : Time) → is_before b a ≡ false → is_before c b ≡ false → is_before c a ≡ false
not_before-trans a b c h g = (ranks_by time_cmp_total (λ (t : Time). t)).chain c b a g h

not_before_head : {P : Type 0} (o : Option Head) (head : Head) (t : Time) → o ≡ Some head → time_offence {P = P} o t ≡ None → is_before t head.timestamp ≡ false
not_before_head {P = P} o head t is h = not_true (is_before t head.timestamp) (unless_holds {O = Offence P} (not (is_before t head.timestamp)) TimestampLowerThanPrevious (ap (λ x. time_offence {P = P} x t) (sym is) ∙ h))

-- links
no_head_no_prev : {P : Type 0} (prev : Option RecordId) → link_offence {P = P} None prev ≡ None → prev ≡ None
no_head_no_prev None h = refl
no_head_no_prev (Some prev) h = cc

head_and_prev : {P : Type 0} (o : Option Head) (prev : Option RecordId) → is_some o ≡ true → link_offence {P = P} o prev ≡ None → prev ≡ None → ⊥
head_and_prev None prev there h none = cc
head_and_prev (Some head) None there h none = cc
head_and_prev (Some head) (Some prev) there h none = cc

pub same_item : {X : Type 0} (x y : X) → Some x ≡ Some y → x ≡ y
same_item x y h = cc

pub no_item : {X : Type 0} (n : ℕ) (x : X) → slice_get [] n ≡ Some x → ⊥
no_item n x h = cc

-- Inits
none_and_some : {A : Type 0} (o : Option A) → is_none o ≡ true → is_some o ≡ true → ⊥
none_and_some None h g = cc
none_and_some (Some a) h g = cc

inits-none : {P O : Type 0} (h : List (PlacedEvent (EntryData P O))) → AllByRecursion (λ e. is_init e.entry ≡ false) (map (λ e. e.event) h) → inits h ≡ []
inits-none [] each = refl
inits-none (e ∷ h) each = ap (λ b. if b then e ∷ inits h else inits h) each.0 ∙ inits-none h each.1

module _ {P O V F : Type 0} (rules : Rules P O V F) (same : P → P → Bool) where
  -- what a record has that is lawful after a view
  pub record IsLawful (b : SignatureRelation) (v : View P V) (r : SignedRecord P O) : Type 0 where
    pub link : link_offence {P = P} v.head r.contents.prev ≡ None
    pub time : time_offence {P = P} v.head r.contents.time ≡ None
    pub events : events_offence rules same r.contents.version v.state [] (record_events rules.id_of r) ≡ None
    pub begun : is_some (state_view_after rules same v.state (record_events rules.id_of r)).authority.algorithm ≡ true
    pub unsigned : unsigned_offence rules same v r ≡ None
    pub signed : signer_offence b (state_view_after rules same v.state (record_events rules.id_of r)).authority r.envelope.key_id (signed_message rules.signing_prefix r.envelope.content) r.envelope.signature ≡ None

  pub lawful : (b : SignatureRelation) (v : View P V) (r : SignedRecord P O) → record_offence rules same b v r ≡ None → IsLawful b v r
  lawful b v r h =
      let w = state_view_after rules same v.state (record_events rules.id_of r) in
      let link = option_map LogOffence.Shared (link_offence v.head r.contents.prev) in
      let version = option_map LogOffence.Shared (version_offence v.head r.contents.version) in
      let time = option_map LogOffence.Shared (time_offence v.head r.contents.time) in
      let events = events_offence rules same r.contents.version v.state [] (record_events rules.id_of r) in
      let unsigned = or_first (unsigned_offence rules same v r) _ h in
      let unlinked = or_second link _ unsigned in
      let timed = or_second version _ unlinked in
      let rest = or_second time _ timed in
      record {
        link = unmapped LogOffence.Shared (link_offence v.head r.contents.prev) (or_first link _ unsigned);
        time = unmapped LogOffence.Shared (time_offence v.head r.contents.time) (or_first time _ timed);
        events = or_first events _ rest;
        begun = unless_holds _ InitialRecordDoesNotInit (unmapped LogOffence.Shared _ (or_second events _ rest));
        unsigned = unsigned;
        signed = unmapped LogOffence.Shared (signer_offence b w.authority r.envelope.key_id (signed_message rules.signing_prefix r.envelope.content) r.envelope.signature) (or_second (unsigned_offence rules same v r) _ h);
      }

  -- after an Init no entry is one
  no_init : (version : ℕ) (w : StateView P V) (signer : List ℕ) (r : EntryData P O) → is_some w.authority.algorithm ≡ true → entry_offence rules same version w signer r ≡ None → is_init r ≡ false
  no_init version w signer r begun h = by r (or_second (option_map LogOffence.Shared (required_offence w.authority signer (rules.required r))) _ h)
    where
      by : (r : EntryData P O) → entry_fault rules same version w signer r ≡ None → is_init r ≡ false
      by (EntryData.Shared (Init algorithm key)) g = absurd (none_and_some w.authority.algorithm (unless_holds _ InitialEntryAfterBeginning (or_first _ _ (unmapped LogOffence.Shared _ g))) begun)
      by (EntryData.Shared (GrantFlat key ps)) g = refl
      by (EntryData.Shared (RevokeFlat id ps)) g = refl
      by (EntryData.Own o) g = refl

  -- before it each entry has to be one
  some_init : (version : ℕ) (w : StateView P V) (signer : List ℕ) (r : EntryData P O) → is_some w.authority.algorithm ≡ false → entry_offence rules same version w signer r ≡ None → is_init r ≡ true
  some_init version w signer r bare h = by r (or_second (option_map LogOffence.Shared (required_offence w.authority signer (rules.required r))) _ h)
    where
      never : is_some w.authority.algorithm ≡ true → ⊥
      never begun = true≢false (sym begun ∙ bare)

      by : (r : EntryData P O) → entry_fault rules same version w signer r ≡ None → is_init r ≡ true
      by (EntryData.Shared (Init algorithm key)) g = refl
      by (EntryData.Shared (GrantFlat key ps)) g = absurd (never (unless_holds _ FirstEntryIsNotInit (or_first _ _ (unmapped LogOffence.Shared _ g))))
      by (EntryData.Shared (RevokeFlat id ps)) g = absurd (never (unless_holds _ FirstEntryIsNotInit (or_first _ _ (unmapped LogOffence.Shared _ g))))
      by (EntryData.Own o) g = absurd (never (unless_holds _ FirstEntryIsNotInit (unmapped LogOffence.Shared _ (or_first _ _ g))))

  -- after a lawful entry an Init stands, whatever contents are read as
  begun_after : (version : ℕ) (w : StateView P V) (x : Event (EntryData P O)) → entry_offence rules same version w x.signer x.entry ≡ None → is_some (after same w.authority (filter_map signed_entry_of (x ∷ []))).algorithm ≡ true
  begun_after version w x h = begun_entry rules same (λ content. Err content) (rules.after rules.start) version w x h

  -- the records of a log, each lawful after a view
  abbrev pub AllLawfulRecords : SignatureRelation → View P V → List (SignedRecord P O) → Type 0
  AllLawfulRecords b v rs = walk.AllLawful (after_record rules same) (record_offence rules same b) v rs

  module _ (b : SignatureRelation) where
    after_head : (v : View P V) (head : Head) (t : Time) → v.head ≡ Some head → is_before head.timestamp t ≡ false → (rs : List (SignedRecord P O)) → AllLawfulRecords b v rs → AllByRecursion (λ r. is_before r.contents.time t ≡ false) rs
    after_head v head t at later [] h = tt
    after_head v head t at later (r ∷ rs) h =
        let here : is_before r.contents.time t ≡ false = not_before-trans t head.timestamp r.contents.time later (not_before_head v.head head r.contents.time at (lawful b v r h.0).time) in
        (here, after_head (after_record rules same v r) (head_of rules.id_of r) t refl here rs h.1)

    times : (v : View P V) (rs : List (SignedRecord P O)) → AllLawfulRecords b v rs → TimesNeverFall rs
    times v [] h = λ i j d lt within. absurd (omega arith)
    times v (r ∷ rs) h =
        let above = after_head (after_record rules same v r) (head_of rules.id_of r) r.contents.time refl (never_before_itself r.contents.time) rs h.1 in
        AllPairs-cons (λ (e l : SignedRecord P O). is_before l.contents.time e.contents.time ≡ false) r rs (All-from_recursion (λ l. is_before l.contents.time r.contents.time ≡ false) rs above) (times (after_record rules same v r) rs h.1)

    later_prev : (v : View P V) (rs : List (SignedRecord P O)) → is_some v.head ≡ true → AllLawfulRecords b v rs → (n : ℕ) (r : SignedRecord P O) → slice_get rs n ≡ Some r → r.contents.prev ≡ None → ⊥
    later_prev v [] there h n r at none = no_item n r at
    later_prev v (q ∷ rs) there h zero r at none = head_and_prev v.head q.contents.prev there (lawful b v q h.0).link (ap (λ (x : SignedRecord P O). x.contents.prev) (same_item q r at) ∙ none)
    later_prev v (q ∷ rs) there h (suc n) r at none = later_prev (after_record rules same v q) rs refl h.1 n r at none

    first_alone : (rs : List (SignedRecord P O)) → AllLawfulRecords b (start rules same) rs → FirstAloneHasNoPrev rs
    first_alone [] h n r at = absurd (no_item n r at)
    first_alone (q ∷ rs) h zero r at = (λ none. refl, λ zero. ap (λ (x : SignedRecord P O). x.contents.prev) (sym (same_item q r at)) ∙ no_head_no_prev q.contents.prev (lawful b (start rules same) q h.0).link)
    first_alone (q ∷ rs) h (suc n) r at = (λ none. absurd (later_prev (after_record rules same (start rules same) q) rs refl h.1 n r at none), λ zero. absurd (omega (arith, zero)))

    -- no entry after the first is an Init
    pub later_entries : (version : ℕ) (w : StateView P V) (before events : List (Event (EntryData P O))) → is_some (state_view_after rules same w before).authority.algorithm ≡ true → events_offence rules same version w before events ≡ None → AllByRecursion (λ e. is_init e.entry ≡ false) events
    later_entries version w before [] begun h = tt
    later_entries version w before (e ∷ events) begun h =
        let here = or_first (entry_offence rules same version (state_view_after rules same w before) e.signer e.entry) _ h in
        let next : is_some (state_view_after rules same w (before ++ e ∷ [])).authority.algorithm ≡ true =
        ap (λ l. is_some (after same w.authority l).algorithm) (filter_map-append signed_entry_of before (e ∷ []))
        ∙ ap (λ (s : AccessView P). is_some s.algorithm) (after-append same w.authority (filter_map signed_entry_of before) (filter_map signed_entry_of (e ∷ [])))
        ∙ begun_after version (state_view_after rules same w before) e here in
        (no_init version (state_view_after rules same w before) e.signer e.entry begun here, later_entries version w (before ++ e ∷ []) events next (or_second _ _ h))

    record_inits : (n : ℕ) (v : View P V) (r : SignedRecord P O) → is_some v.state.authority.algorithm ≡ true → IsLawful b v r → inits (record_history rules.id_of (n, r)) ≡ []
    record_inits n v r begun l = inits-none (record_history rules.id_of (n, r)) (subst (AllByRecursion (λ (e : Event (EntryData P O)). is_init e.entry ≡ false)) (sym (record_flat rules.id_of n 0 r r.contents.entries)) (later_entries r.contents.version v.state [] (record_events rules.id_of r) begun l.events))

    inits-cons : (n : ℕ) (r : SignedRecord P O) (rs : List (SignedRecord P O)) → inits (flat_map (record_history rules.id_of) (enumerate_from n (r ∷ rs))) ≡ inits (record_history rules.id_of (n, r)) ++ inits (flat_map (record_history rules.id_of) (enumerate_from (n + 1) rs))
    inits-cons n r rs =
        ap inits (flat_map-cons (record_history rules.id_of) (n, r) (enumerate_from (n + 1) rs))
        ∙ filter-append (λ (e : PlacedEvent (EntryData P O)). is_init e.event.entry) (record_history rules.id_of (n, r)) (flat_map (record_history rules.id_of) (enumerate_from (n + 1) rs))

    later_inits : (n : ℕ) (v : View P V) (rs : List (SignedRecord P O)) → is_some v.state.authority.algorithm ≡ true → AllLawfulRecords b v rs → inits (flat_map (record_history rules.id_of) (enumerate_from n rs)) ≡ []
    later_inits n v [] begun h = refl
    later_inits n v (r ∷ rs) begun h =
        let l = lawful b v r h.0 in
        inits-cons n r rs ∙ ap (λ x. x ++ inits (flat_map (record_history rules.id_of) (enumerate_from (n + 1) rs))) (record_inits n v r begun l) ∙ later_inits (n + 1) (after_record rules same v r) rs l.begun h.1

    -- the first record begins with the one Init
    begins_with : (envelope : EnvelopeData) (prev : Option RecordId) (version : ℕ) (time : Time) (entries : List (EntryData P O)) → let r : SignedRecord P O = record { contents = record { prev = prev; version = version; time = time; entries = entries }; envelope = envelope } in
        IsLawful b (start rules same) r → (e : EntryData P O) × (inits (record_history rules.id_of (0, r)) ≡ placed_in rules.id_of 0 r (0, e) ∷ [])
    begins_with envelope prev version time [] l = absurd (true≢false (sym l.begun))
    begins_with envelope prev version time (e ∷ entries) l =
        let r : SignedRecord P O = record { contents = record { prev = prev; version = version; time = time; entries = e ∷ entries }; envelope = envelope } in
        let event : Event (EntryData P O) = record { entry = e; signer = envelope.key_id; time = time; record_id = rules.id_of envelope.content } in
        let w = (start rules same).state in
        let bare = state_view_after rules same w [] in
        let first : entry_offence rules same version bare envelope.key_id e ≡ None = or_first (entry_offence rules same version bare envelope.key_id e) _ l.events in
        let others = later_entries version w (event ∷ []) _ (begun_after version bare event first) (or_second (entry_offence rules same version bare envelope.key_id e) _ l.events) in
        let rest = map (placed_in rules.id_of 0 r) (enumerate_from 1 entries) in
        let none : inits rest ≡ [] = inits-none rest (subst (AllByRecursion (λ (x : Event (EntryData P O)). is_init x.entry ≡ false)) (sym (record_flat rules.id_of 0 1 r entries)) others) in
        (e, ap (λ t. if t then placed_in rules.id_of 0 r (0, e) ∷ inits rest else inits rest) (some_init version bare envelope.key_id e refl first) ∙ ap (λ l. placed_in rules.id_of 0 r (0, e) ∷ l) none)

    one_init : (r : SignedRecord P O) (rs : List (SignedRecord P O)) → AllLawfulRecords b (start rules same) (r ∷ rs) → OneInitFirst (history_of rules.id_of (r ∷ rs))
    one_init r rs h =
        let l = lawful b (start rules same) r h.0 in
        let first = begins_with r.envelope r.contents.prev r.contents.version r.contents.time r.contents.entries l in
        record {
          init = placed_in rules.id_of 0 r (0, first.0);
          only = inits-cons 0 r rs ∙ ap (λ x. x ++ inits (flat_map (record_history rules.id_of) (enumerate_from 1 rs))) first.1 ∙ ap (λ x. placed_in rules.id_of 0 r (0, first.0) ∷ x) (later_inits 1 (after_record rules same (start rules same) r) rs l.begun h.1);
          first_record = refl;
          first_entry = refl;
        }

module _ {P O V F D : Type 0} (rules : Rules P O V F) (same : P → P → Bool) (read : List ℕ → Result (RecordData P O) D) (own_state : List (Event O) → V) (b : SignatureRelation) where
  abbrev record_of : EnvelopeData → SignedRecord P O
  record_of e = signed_record_of rules same read e

  pub lawful_records : (v : View P V) (es : List EnvelopeData) → AllLawful (kind_of rules same read own_state) b v es → AllLawfulRecords rules same b v (map record_of es)
  lawful_records v [] h = tt
  lawful_records v (e ∷ es) h = (read_lawful rules same read own_state b v e (read e.content) h.0, lawful_records (after_record rules same v (record_of e)) es h.1)

  -- what is no record is not lawful
  is_read : (v : View P V) (e : EnvelopeData) (r : Result (RecordData P O) D) → offence_in rules same read b v e r ≡ None → IsOk r
  is_read v e (Ok s) h = refl
  is_read v e (Err fault) h = cc

  all_read : (v : View P V) (es : List EnvelopeData) → AllLawful (kind_of rules same read own_state) b v es → AllByRecursion (λ e. IsOk (read e.content)) es
  all_read v [] h = tt
  all_read v (e ∷ es) h = (is_read v e (read e.content) h.0, all_read (after_record rules same v (record_of e)) es h.1)

  coherent : (v : View P V) (es : List EnvelopeData) → IsCoherent rules same v → AllLawful (kind_of rules same read own_state) b v es → IsCoherent rules same (view_after (kind_of rules same read own_state) v es)
  coherent v [] c h = c
  coherent v (e ∷ es) c h =
      let r = record_of e in
      let l = lawful rules same b v r (read_lawful rules same read own_state b v e (read e.content) h.0) in
      coherent (after_record rules same v r) es (record-coherent rules same b v r (state_view_after rules same v.state (record_events rules.id_of r)) refl l.unsigned (head_of rules.id_of r) refl c l.signed) h.1

  module _ (laws : KindLaws (kind_of rules same read own_state)) where
    -- the contents of accepted envelopes are records
    pub accepted-read : (es : List EnvelopeData) → IsAccepted (kind_of rules same read own_state) b es → All (λ e. IsOk (read e.content)) es
    accepted-read es h = All-from_recursion (λ e. IsOk (read e.content)) es (all_read (start rules same) es (accepted-lawful (kind_of rules same read own_state) laws b es h))

    keyed : (es : List EnvelopeData) → IsAccepted (kind_of rules same read own_state) b es → EntriesHaveKeys (history_of rules.id_of (map record_of es))
    keyed es h =
        let good = accepted-lawful (kind_of rules same read own_state) laws b es h in
        let c = subst (IsCoherent rules same) (sym (laws.by_history b es good)) (coherent (start rules same) es (coherent-new rules same empty_access rules.start refl refl) good) in
        c.keyed.known

    -- accepted envelopes have the form of a log
    pub accepted-form : (es : List EnvelopeData) → 0 < length es → IsAccepted (kind_of rules same read own_state) b es → HasForm rules.id_of (map record_of es)
    accepted-form [] some h = absurd (omega (arith, some))
    accepted-form (e ∷ es) some h =
        let good = lawful_records (start rules same) (e ∷ es) (accepted-lawful (kind_of rules same read own_state) laws b (e ∷ es) h) in
        record {
          times = times rules same b (start rules same) (map record_of (e ∷ es)) good;
          links = first_alone rules same b (map record_of (e ∷ es)) good;
          begins = one_init rules same b (record_of e) (map record_of es) good;
          keys = keyed (e ∷ es) h;
        }

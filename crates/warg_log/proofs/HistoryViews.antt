-- The view by filters over one flat list is the view made record by record.
use Rattle.std.proofs.Common.{◌≡◌, ℕ, ◌+◌, List, [], ◌∷◌, ◌++◌, map, Bool, true, false, ◌||◌, Option, Some, None, refl, sym, ap, ◌∙◌, subst}
use Rattle.std.specs.Prelude.{unwrap_or}
use Rattle.std.specs.List.{filter_map, last_or, list_any, cons_option, flat_map, enumerate_from}
use Rattle.std.specs.Option.{option_map, option_and_then}
use Rattle.std.proofs.lemmas.List.Elements.{filter_map-append}
use Rattle.std.proofs.lemmas.List.Concat.{flat_map-append, flat_map-cons}
use Rattle.warg_log_records.specs.Walks.{view_after, AllLawful, IsStepwise}
use Rattle.warg_crypto.specs.NamedBytes.{NamedBytes}
use Rattle.warg_permissions.specs.KeyMaps.AuthorityData.{empty_access}
use Rattle.warg_log.specs.SignedEntries.{SignedEntry, after, signed_entry_on, enters, signed_entry_key, signed_entry_algorithm}
use Rattle.warg_log_records.specs.RecordData.{EntryData}
use Rattle.warg_log.specs.Rules.{SignedRecord, Event, View, StateView, LogOffence, Rules, signed_entry_in, signed_entry_of, own_of, events_of, record_events, head_of, state_view_after, start, entry_offence, entry_fault, events_offence, unsigned_offence, record_offence, after_record}
use Rattle.warg_log.specs.Offences.{required_offence, not_begun}
use Rattle.warg_log.specs.RecordOffences.{link_offence, version_offence, time_offence}
use Rattle.warg_log.specs.History.{PlacedEvent, placed_in, record_history, history_of, entry_on, entry_enters, entry_key, entry_algorithm, access_view_of, own_events, view_of, own_after, own_offence}
use Rattle.warg_log.proofs.Firsts.{or_first, or_second, unmapped}
use Rattle.warg_permissions.proofs.KeyMapsLemmas.AccessLaws.{same_access_view}
use Rattle.warg_log.proofs.SignedEntryLaws.{after-append, map-join}
use Rattle.warg_log_records.specs.declared.record_id.RecordId.{RecordId}
use Rattle.warg_crypto.specs.Time.Times.{Time}

-- a filter of what a map gives
filter_map-of : {A B C : Type 0} (m : A → B) (g : B → Option C) (xs : List A) → filter_map (λ x. g (m x)) xs ≡ filter_map g (map m xs)
filter_map-of m g [] = refl
filter_map-of m g (x ∷ xs) = ap (cons_option (g (m x))) (filter_map-of m g xs)

any-of : {A B : Type 0} (m : A → B) (t : B → Bool) (xs : List A) → list_any (λ x. t (m x)) xs ≡ list_any t (map m xs)
any-of m t [] = refl
any-of m t (x ∷ xs) = ap (λ b. t (m x) || b) (any-of m t xs)

-- a filter of a filter
cons-then : {B C : Type 0} (f : B → Option C) (o : Option B) (l : List B) → cons_option (option_and_then f o) (filter_map f l) ≡ filter_map f (cons_option o l)
cons-then f None l = refl
cons-then f (Some b) l = refl

filter_map-then : {A B C : Type 0} (g : A → Option B) (f : B → Option C) (h : A → Option C) → ((a : A) → h a ≡ option_and_then f (g a)) → (xs : List A) → filter_map h xs ≡ filter_map f (filter_map g xs)
filter_map-then g f h same [] = refl
filter_map-then g f h same (x ∷ xs) = (λ i. cons_option (same x i) (filter_map-then g f h same xs i)) ∙ cons-then f (g x) (filter_map g xs)

any-cons : {B : Type 0} (f : B → Bool) (o : Option B) (l : List B) (b : Bool) → b ≡ list_any f (cons_option o []) → (b || list_any f l) ≡ list_any f (cons_option o l)
any-cons f None l b is = ap (λ c. c || list_any f l) is
any-cons f (Some x) l b is = ap (λ c. c || list_any f l) (is ∙ or_false (f x))
  where
    or_false : (b : Bool) → (b || false) ≡ b
    or_false true = refl
    or_false false = refl

any-then : {A B : Type 0} (g : A → Option B) (f : B → Bool) (t : A → Bool) → ((a : A) → t a ≡ list_any f (cons_option (g a) [])) → (xs : List A) → list_any t xs ≡ list_any f (filter_map g xs)
any-then g f t same [] = refl
any-then g f t same (x ∷ xs) = ap (λ b. t x || b) (any-then g f t same xs) ∙ any-cons f (g x) (filter_map g xs) (t x) (same x)

last_or-push : {A : Type 0} (o : Option A) (xs : List A) (y : A) → last_or o (xs ++ y ∷ []) ≡ Some y
last_or-push o [] y = refl
last_or-push o (x ∷ xs) y = last_or-push (Some x) xs y

module _ {P O : Type 0} (id_of : List ℕ → RecordId) where
  abbrev event_in : List ℕ → Time → RecordId → EntryData P O → Event (EntryData P O)
  event_in signer time id e = record { entry = e; signer = signer; time = time; record_id = id }

  -- the events of a record, without their places
  pub record_flat : (n m : ℕ) (r : SignedRecord P O) (es : List (EntryData P O)) → map (λ e. e.event) (map (placed_in id_of n r) (enumerate_from m es)) ≡ events_of r.envelope.key_id r.contents.time (id_of r.envelope.content) es
  record_flat n m r [] = refl
  record_flat n m r (e ∷ es) = ap (λ l. record { entry = e; signer = r.envelope.key_id; time = r.contents.time; record_id = id_of r.envelope.content } ∷ l) (record_flat n (m + 1) r es)

  flat_from : (n : ℕ) (records : List (SignedRecord P O)) → map (λ e. e.event) (flat_map (record_history id_of) (enumerate_from n records)) ≡ flat_map (record_events id_of) records
  flat_from n [] = refl
  flat_from n (r ∷ rs) =
      ap (map (λ e. e.event)) (flat_map-cons (record_history id_of) (n, r) (enumerate_from (n + 1) rs))
      ∙ map-join (λ e. e.event) (record_history id_of (n, r)) (flat_map (record_history id_of) (enumerate_from (n + 1) rs))
      ∙ (λ i. record_flat n 0 r r.contents.entries i ++ flat_from (n + 1) rs i)
      ∙ sym (flat_map-cons (record_events id_of) r rs)

  pub history-events : (records : List (SignedRecord P O)) → map (λ e. e.event) (history_of id_of records) ≡ flat_map (record_events id_of) records
  history-events records = flat_from 0 records

  on_is : (same : P → P → Bool) (k : List ℕ) (p : P) (signer : List ℕ) (r : EntryData P O) → entry_on same k p signer r ≡ option_and_then (signed_entry_on same k p) (signed_entry_in signer r)
  on_is same k p signer (EntryData.Shared entry) = refl
  on_is same k p signer (EntryData.Own o) = refl

  enters_is : (k signer : List ℕ) (r : EntryData P O) → entry_enters k signer r ≡ list_any (enters k) (cons_option (signed_entry_in signer r) [])
  enters_is k signer (EntryData.Shared entry) = or_false _
    where
      or_false : (b : Bool) → b ≡ (b || false)
      or_false true = refl
      or_false false = refl
  enters_is k signer (EntryData.Own o) = refl

  key_is : (k signer : List ℕ) (r : EntryData P O) → entry_key k r ≡ option_and_then (signed_entry_key k) (signed_entry_in signer r)
  key_is k signer (EntryData.Shared entry) = refl
  key_is k signer (EntryData.Own o) = refl

  algorithm_is : (signer : List ℕ) (r : EntryData P O) → entry_algorithm r ≡ option_and_then signed_entry_algorithm (signed_entry_in signer r)
  algorithm_is signer (EntryData.Shared entry) = refl
  algorithm_is signer (EntryData.Own o) = refl

  abbrev pub signed_entries_in : List (PlacedEvent (EntryData P O)) → List (SignedEntry P)
  signed_entries_in h = filter_map signed_entry_of (map (λ e. e.event) h)

  said_is : {A : Type 0} (f : Event (EntryData P O) → Option A) (g : SignedEntry P → Option A) (d : A) → ((e : Event (EntryData P O)) → f e ≡ option_and_then g (signed_entry_of e))
      → (h : List (PlacedEvent (EntryData P O))) → unwrap_or (last_or None (filter_map (λ e. f e.event) h)) d ≡ unwrap_or (last_or None (filter_map g (signed_entries_in h))) d
  said_is f g d same h = ap (λ l. unwrap_or (last_or None l) d) (filter_map-of (λ e. e.event) f h ∙ filter_map-then signed_entry_of g f same (map (λ e. e.event) h))

  pub access-view-listed : (same : P → P → Bool) (h : List (PlacedEvent (EntryData P O))) → access_view_of same h ≡ after same empty_access (signed_entries_in h)
  access-view-listed same h = same_access_view _ _
      (said_is (λ e. entry_algorithm e.entry) signed_entry_algorithm None (λ e. algorithm_is e.signer e.entry) h)
      (λ k p. said_is (λ e. entry_on same k p e.signer e.entry) (signed_entry_on same k p) false (λ e. on_is same k p e.signer e.entry) h)
      (λ k. any-of (λ e. e.event) (λ e. entry_enters k e.signer e.entry) h ∙ any-then signed_entry_of (enters k) (λ e. entry_enters k e.signer e.entry) (λ e. enters_is k e.signer e.entry) (map (λ e. e.event) h))
      (λ k. said_is (λ e. entry_key k e.entry) (signed_entry_key k) None (λ e. key_is k e.signer e.entry) h)

  events_push : (rs : List (SignedRecord P O)) (r : SignedRecord P O) → flat_map (record_events id_of) (rs ++ r ∷ []) ≡ flat_map (record_events id_of) rs ++ record_events id_of r
  events_push rs r = flat_map-append (record_events id_of) rs (r ∷ []) ∙ ap (λ l. flat_map (record_events id_of) rs ++ l) (flat_map-cons (record_events id_of) r [] ∙ nil_end (record_events id_of r))
    where
      nil_end : {A : Type 0} (xs : List A) → xs ++ [] ≡ xs
      nil_end [] = refl
      nil_end (x ∷ xs) = ap (λ l. x ∷ l) (nil_end xs)

  pub owns_is : (rs : List (SignedRecord P O)) → own_events (history_of id_of rs) ≡ filter_map own_of (flat_map (record_events id_of) rs)
  owns_is rs = filter_map-of (λ e. e.event) own_of (history_of id_of rs) ∙ ap (filter_map own_of) (history-events rs)

module _ {P O V F : Type 0} (rules : Rules P O V F) (same : P → P → Bool) (none : (v : V) → v ≡ rules.after v []) (append : (v : V) (xs ys : List (Event O)) → rules.after v (xs ++ ys) ≡ rules.after (rules.after v xs) ys) where
  abbrev pub Lawful : V → List (Event O) → Type 0
  Lawful v es = AllLawful (own_after rules) (own_offence rules) v es

  -- own events read one by one are read at once
  pub view-after : (v : V) (es : List (Event O)) → view_after (own_after rules) v es ≡ rules.after v es
  view-after v [] = none v
  view-after v (e ∷ es) = view-after (rules.after v (e ∷ [])) es ∙ sym (append v (e ∷ []) es)

  lawful-join : (v : V) (es fs : List (Event O)) → Lawful v es → Lawful (rules.after v es) fs → Lawful v (es ++ fs)
  lawful-join v [] fs h g = subst (λ u. Lawful u fs) (sym (none v)) g
  lawful-join v (e ∷ es) fs h g = (h.0, lawful-join (rules.after v (e ∷ [])) es fs h.1 (subst (λ u. Lawful u fs) (append v (e ∷ []) es) g))

  -- an event more: what its own entry adds
  lawful-entry : (version : ℕ) (w : StateView P V) (signer : List ℕ) (time : Time) (id : RecordId) (r : EntryData P O) (fs : List (Event O)) → entry_offence rules same version w signer r ≡ None
      → Lawful (rules.after w.own_state (cons_option (own_of (event_in rules.id_of signer time id r)) [])) fs → Lawful w.own_state (cons_option (own_of (event_in rules.id_of signer time id r)) fs)
  lawful-entry version w signer time id (EntryData.Shared entry) fs h g = subst (λ u. Lawful u fs) (sym (none w.own_state)) g
  lawful-entry version w signer time id (EntryData.Own o) fs h g =
      let own = or_second (option_map LogOffence.Shared (required_offence w.authority signer (rules.required (EntryData.Own o)))) (entry_fault rules same version w signer (EntryData.Own o)) h in
      (unmapped LogOffence.Own (rules.offence w.own_state o) (or_second (option_map LogOffence.Shared (not_begun w.authority)) (option_map LogOffence.Own (rules.offence w.own_state o)) own), g)

  own_state_push : (v : V) (before : List (Event (EntryData P O))) (e : Event (EntryData P O)) → rules.after v (filter_map own_of (before ++ e ∷ [])) ≡ rules.after (rules.after v (filter_map own_of before)) (cons_option (own_of e) [])
  own_state_push v before e = ap (rules.after v) (filter_map-append own_of before (e ∷ [])) ∙ append v (filter_map own_of before) (cons_option (own_of e) [])

  -- the own events of a record without offence are lawful
  lawful-events : (version : ℕ) (w : StateView P V) (before events : List (Event (EntryData P O))) → events_offence rules same version w before events ≡ None → Lawful (rules.after w.own_state (filter_map own_of before)) (filter_map own_of events)
  lawful-events version w before [] h = tt
  lawful-events version w before (e ∷ es) h =
      let here = entry_offence rules same version (state_view_after rules same w before) e.signer e.entry in
      let later = events_offence rules same version w (before ++ e ∷ []) es in
      let rest = lawful-events version w (before ++ e ∷ []) es (or_second here later h) in
      lawful-entry version (state_view_after rules same w before) e.signer e.time e.record_id e.entry (filter_map own_of es) (or_first here later h)
      (subst (λ v. Lawful v (filter_map own_of es)) (own_state_push w.own_state before e) rest)

  -- of a record without offence no event has one
  events-none : (v : View P V) (r : SignedRecord P O) (belongs : NamedBytes → List ℕ → NamedBytes → Bool) → record_offence rules same belongs v r ≡ None → events_offence rules same r.contents.version v.state [] (record_events rules.id_of r) ≡ None
  events-none v r belongs h =
      let w = state_view_after rules same v.state (record_events rules.id_of r) in
      let link = option_map LogOffence.Shared (link_offence v.head r.contents.prev) in
      let version = option_map LogOffence.Shared (version_offence v.head r.contents.version) in
      let time = option_map LogOffence.Shared (time_offence v.head r.contents.time) in
      let events = events_offence rules same r.contents.version v.state [] (record_events rules.id_of r) in
      let all = or_first (unsigned_offence rules same v r) _ h in
      let checks = or_second link _ all in
      or_first events _ (or_second time _ (or_second version _ checks))

  module _ (belongs : NamedBytes → List ℕ → NamedBytes → Bool) (own_state : List (Event O) → V) (by_list : (es : List (Event O)) → AllLawful (own_after rules) (own_offence rules) rules.start es → own_state es ≡ rules.after rules.start es) where
    abbrev pub Good : List (SignedRecord P O) → Type 0
    Good rs = Lawful rules.start (own_events (history_of rules.id_of rs))

    lawful-record : (rs : List (SignedRecord P O)) (r : SignedRecord P O) → Good rs → record_offence rules same belongs (view_of rules same own_state rs) r ≡ None → Lawful rules.start (filter_map own_of (flat_map (record_events rules.id_of) rs) ++ filter_map own_of (record_events rules.id_of r))
    lawful-record rs r good h =
        let v = view_of rules same own_state rs in
        let here = lawful-events r.contents.version v.state [] (record_events rules.id_of r) (events-none v r belongs h) in
        let at : rules.after v.state.own_state [] ≡ rules.after rules.start (filter_map own_of (flat_map (record_events rules.id_of) rs)) = sym (none v.state.own_state) ∙ by_list (own_events (history_of rules.id_of rs)) good ∙ ap (rules.after rules.start) (owns_is rules.id_of rs) in
        lawful-join rules.start (filter_map own_of (flat_map (record_events rules.id_of) rs)) (filter_map own_of (record_events rules.id_of r))
        (subst (Lawful rules.start) (owns_is rules.id_of rs) good)
        (subst (λ u. Lawful u (filter_map own_of (record_events rules.id_of r))) at here)

    owns_push : (rs : List (SignedRecord P O)) (r : SignedRecord P O) → own_events (history_of rules.id_of (rs ++ r ∷ [])) ≡ filter_map own_of (flat_map (record_events rules.id_of) rs) ++ filter_map own_of (record_events rules.id_of r)
    owns_push rs r = owns_is rules.id_of (rs ++ r ∷ []) ∙ ap (filter_map own_of) (events_push rules.id_of rs r) ∙ filter_map-append own_of (flat_map (record_events rules.id_of) rs) (record_events rules.id_of r)

    authority_push : (rs : List (SignedRecord P O)) (r : SignedRecord P O) → access_view_of same (history_of rules.id_of (rs ++ r ∷ [])) ≡ after same (access_view_of same (history_of rules.id_of rs)) (filter_map signed_entry_of (record_events rules.id_of r))
    authority_push rs r =
        access-view-listed rules.id_of same (history_of rules.id_of (rs ++ r ∷ []))
        ∙ ap (λ l. after same empty_access (filter_map signed_entry_of l)) (history-events rules.id_of (rs ++ r ∷ []) ∙ events_push rules.id_of rs r)
        ∙ ap (after same empty_access) (filter_map-append signed_entry_of (flat_map (record_events rules.id_of) rs) (record_events rules.id_of r))
        ∙ after-append same empty_access (filter_map signed_entry_of (flat_map (record_events rules.id_of) rs)) (filter_map signed_entry_of (record_events rules.id_of r))
        ∙ ap (λ s. after same s (filter_map signed_entry_of (record_events rules.id_of r))) (ap (λ l. after same empty_access (filter_map signed_entry_of l)) (sym (history-events rules.id_of rs)) ∙ sym (access-view-listed rules.id_of same (history_of rules.id_of rs)))

    -- one more record: its view by lists is the one that it makes of the view before
    pub records-stepwise : IsStepwise (after_record rules same) (record_offence rules same belongs) (start rules same) (view_of rules same own_state) Good
    records-stepwise = record {
      none = λ i. record { state = record { authority = empty_access; own_state = (by_list [] tt ∙ sym (none rules.start)) i }; head = None };
      good = tt;
      more = λ rs r good h.
          let all = lawful-record rs r good h in
          let good_all : Lawful rules.start (own_events (history_of rules.id_of (rs ++ r ∷ []))) = subst (Lawful rules.start) (sym (owns_push rs r)) all in
          let own_states : own_state (own_events (history_of rules.id_of (rs ++ r ∷ []))) ≡ rules.after (own_state (own_events (history_of rules.id_of rs))) (filter_map own_of (record_events rules.id_of r)) =
          by_list (own_events (history_of rules.id_of (rs ++ r ∷ []))) good_all
          ∙ ap (rules.after rules.start) (owns_push rs r)
          ∙ append rules.start (filter_map own_of (flat_map (record_events rules.id_of) rs)) (filter_map own_of (record_events rules.id_of r))
          ∙ ap (λ v. rules.after v (filter_map own_of (record_events rules.id_of r))) (ap (rules.after rules.start) (sym (owns_is rules.id_of rs)) ∙ sym (by_list (own_events (history_of rules.id_of rs)) good)) in (
            good_all,
            λ i. record {
              state = record { authority = authority_push rs r i; own_state = own_states i };
              head = ap (option_map (head_of rules.id_of)) (last_or-push None rs r) i;
            },
          );
    }

-- A chain of grants in a history is a chain of the entries that last gave.
use Rattle.std.proofs.Common.{◌≡◌, ℕ, List, [], ◌∷◌, ◌++◌, map, reverse, Bool, true, false, Option, Some, None, refl, sym, ap, ◌∙◌, subst, append_assoc, append-nil, true≢false}
use Rattle.std.specs.List.{AllByRecursion}
use Rattle.std.proofs.lemmas.List.Elements.{recursion_from_All}
use Rattle.warg_log_records.specs.RecordData.{EntryData, Init, GrantFlat, RevokeFlat}
use Rattle.warg_log_records.specs.declared.effect.Effect.TheVariants.{Gives}
use Rattle.warg_log_records.specs.Effects.{held_after_effect}
use Rattle.warg_replay.specs.declared.audited_log.link.Link.{Link}
use Rattle.warg_replay.specs.AuditedLog.Chains.{Entry, first_place, held_by, IsChainBack}
use Rattle.warg_replay.proofs.AuditedLogLemmas.ChainLemmas.{held_by-append, chain-kept, chain-added, chain-begun}
use Rattle.warg_log.specs.Forms.{is_init}
use Rattle.warg_log.specs.History.{PlacedEvent, entry_on}
use Rattle.warg_log.specs.Listings.{IsGift}
use Rattle.warg_log.specs.KindOfRules.{effect_of}
use Rattle.warg_log.proofs.ListingLaws.{gift}
use Rattle.warg_log.proofs.SignedEntryLaws.{map-join}
use Rattle.warg_log_laws.specs.GrantChains.{place_of, IsGrantTo, PassOn, IsChainOfGrants}
use Rattle.warg_log_laws.proofs.HistoryEntries.{entry_of}
use Rattle.warg_log_laws.proofs.ListLemmas.{reverse-cons}

-- k holds p by the entries, and the links are its chain
abbrev pub IsAnswerOf : {P : Type 0} → List (Entry P) → List ℕ → P → List Link → Type 0
IsAnswerOf h k p links = (held_by false h k p ≡ true) × IsChainBack h k p (reverse links)

-- the links of ms one by one before those of ls
abbrev onto : List Link → List Link → List Link
onto ls [] = ls
onto ls (m ∷ ms) = onto (m ∷ ls) ms

onto-reverse : (ls ms : List Link) → onto ls ms ≡ reverse ms ++ ls
onto-reverse ls [] = refl
onto-reverse ls (m ∷ ms) =
    onto-reverse (m ∷ ls) ms
    ∙ sym (append_assoc (reverse ms) (m ∷ []) ls)
    ∙ ap (λ (l : List Link). l ++ ls) (sym (reverse-cons m ms))

nothing_given : (o : Option Bool) → o ≡ None → effect_of o ≡ Gives → ⊥
nothing_given None is g = cc
nothing_given (Some b) is g = cc

module _ {P : Type 0} (p : P) where
  -- the links, the last one first, are the chain of what k holds by the entries
  record Held (h : List (Entry P)) (k : List ℕ) (links : List Link) : Type 0 where
    held : held_by false h k p ≡ true
    chain : IsChainBack h k p links

module _ {P O : Type 0} (same : P → P → Bool) (p : P) where
  init_gives : (signer : List ℕ) (r : EntryData P O) → is_init r ≡ true → IsGift same signer p signer r
  init_gives signer (EntryData.Shared (Init algorithm key)) is = refl
  init_gives signer (EntryData.Shared (GrantFlat key permissions)) is = absurd (true≢false (sym is))
  init_gives signer (EntryData.Shared (RevokeFlat id permissions)) is = absurd (true≢false (sym is))
  init_gives signer (EntryData.Own o) is = absurd (true≢false (sym is))

  grant_gives : (k signer : List ℕ) (r : EntryData P O) → IsGrantTo same p k r → IsGift same k p signer r
  grant_gives k signer (EntryData.Shared (Init algorithm key)) g = absurd g
  grant_gives k signer (EntryData.Shared (GrantFlat key permissions)) g = g
  grant_gives k signer (EntryData.Shared (RevokeFlat id permissions)) g = absurd g
  grant_gives k signer (EntryData.Own o) g = absurd g

  silent_one : (h : List (Entry P)) (k : List ℕ) (links : List Link) (x : PlacedEvent (EntryData P O)) → entry_on same k p x.event.signer x.event.entry ≡ None → Held p h k links → Held p (h ++ entry_of same x ∷ []) k links
  silent_one h k links x none c = record {
    held = held_by-append false h (entry_of same x ∷ []) k p ∙ ap (λ (o : Option Bool). held_after_effect (effect_of o) (held_by false h k p)) none ∙ c.held;
    chain = chain-kept h (entry_of same x) k p links (nothing_given (entry_on same k p x.event.signer x.event.entry) none) c.chain;
  }

  -- entries that are not on k and p leave its chain
  silent_all : (h : List (Entry P)) (k : List ℕ) (links : List Link) (xs : List (PlacedEvent (EntryData P O))) → AllByRecursion (λ (x : PlacedEvent (EntryData P O)). entry_on same k p x.event.signer x.event.entry ≡ None) xs → Held p h k links → Held p (h ++ map (entry_of same) xs) k links
  silent_all h k links [] silent c = subst (λ (l : List (Entry P)). Held p l k links) (sym (append-nil h)) c
  silent_all h k links (x ∷ xs) silent c =
      subst (λ (l : List (Entry P)). Held p l k links) (append_assoc h (entry_of same x ∷ []) (map (entry_of same) xs))
      (silent_all (h ++ entry_of same x ∷ []) k links xs silent.1 (silent_one h k links x silent.0 c))

  -- a grant makes its signer's chain longer
  granted : (h : List (Entry P)) (x : PlacedEvent (EntryData P O)) (k : List ℕ) (m : Link) (ms : List Link) → IsGrantTo same p k x.event.entry → Held p h x.event.signer (m ∷ ms) → Held p (h ++ entry_of same x ∷ []) k (place_of x ∷ m ∷ ms)
  granted h x k m ms grant c =
      let gives = (gift same x.event.signer k p x.event.entry).1 (grant_gives k x.event.signer x.event.entry grant) in
      record {
        held = held_by-append false h (entry_of same x ∷ []) k p ∙ ap (λ e. held_after_effect e (held_by false h k p)) gives;
        chain = chain-added h (entry_of same x) k p (place_of x) m ms gives refl c.held c.chain;
      }

  -- the grants of a history, one after another
  passed-back : (h : List (PlacedEvent (EntryData P O))) (giver : List ℕ) (es : List (PlacedEvent (EntryData P O))) (k : List ℕ) (front : List (Entry P)) (m : Link) (ms : List Link) → PassOn same p h giver es k → Held p front giver (m ∷ ms)
      → Held p (front ++ map (entry_of same) h) k (onto (m ∷ ms) (map place_of es))
  passed-back h giver [] k front m ms passed c =
      subst (λ (j : List ℕ). Held p (front ++ map (entry_of same) h) j (m ∷ ms)) passed.0
      (silent_all front giver (m ∷ ms) h (recursion_from_All (λ (x : PlacedEvent (EntryData P O)). entry_on same giver p x.event.signer x.event.entry ≡ None) h passed.1) c)
  passed-back h giver (e ∷ es) k front m ms passed c =
      let between = map (entry_of same) passed.0 in
      let after = map (entry_of same) passed.1 in
      let here = silent_all front giver (m ∷ ms) passed.0 (recursion_from_All (λ (x : PlacedEvent (EntryData P O)). entry_on same giver p x.event.signer x.event.entry ≡ None) passed.0 passed.3) c in
      let signed = subst (λ (j : List ℕ). Held p (front ++ between) j (m ∷ ms)) (sym passed.4) here in
      let whole : ((front ++ between) ++ entry_of same e ∷ []) ++ after ≡ front ++ map (entry_of same) h =
      append_assoc (front ++ between) (entry_of same e ∷ []) after
      ∙ append_assoc front between (entry_of same e ∷ after)
      ∙ ap (λ (l : List (Entry P)). front ++ l) (sym (map-join (entry_of same) passed.0 (e ∷ passed.1)) ∙ ap (map (entry_of same)) (sym passed.2)) in
      subst (λ (l : List (Entry P)). Held p l k (onto (place_of e ∷ m ∷ ms) (map place_of es))) whole
      (passed-back passed.1 passed.5.0 es k ((front ++ between) ++ entry_of same e ∷ []) (place_of e) (m ∷ ms) passed.5.2 (granted (front ++ between) e passed.5.0 m ms passed.5.1 signed))

  -- a chain of grants whose Init stands at the first place
  pub chain-back : (h : List (PlacedEvent (EntryData P O))) (k : List ℕ) (links : List Link) (c : IsChainOfGrants same p h k links) → place_of c.init ≡ first_place → IsAnswerOf (map (entry_of same) h) k p links
  chain-back h k links c first =
      let giver = c.init.event.signer in
      let gives = (gift same giver giver p c.init.event.entry).1 (init_gives giver c.init.event.entry c.first) in
      let begun : Held p (entry_of same c.init ∷ []) giver (place_of c.init ∷ []) = record {
        held = ap (λ e. held_after_effect e false) gives;
        chain = chain-begun [] (entry_of same c.init) giver p (place_of c.init) gives refl first;
      } in
      let back = passed-back c.later giver c.grants k (entry_of same c.init ∷ []) (place_of c.init) [] c.passed begun in
      let whole : entry_of same c.init ∷ map (entry_of same) c.later ≡ map (entry_of same) h = ap (map (entry_of same)) (sym c.begins) in
      let order : onto (place_of c.init ∷ []) (map place_of c.grants) ≡ reverse links =
      onto-reverse (place_of c.init ∷ []) (map place_of c.grants) ∙ sym (reverse-cons (place_of c.init) (map place_of c.grants)) ∙ ap (λ (l : List Link). reverse l) c.places in (
        ap (λ (l : List (Entry P)). held_by false l k p) (sym whole) ∙ back.held,
        subst (λ (l : List (Entry P)). IsChainBack l k p (reverse links)) whole (subst (λ (ls : List Link). IsChainBack (entry_of same c.init ∷ map (entry_of same) c.later) k p ls) order back.chain),
      )

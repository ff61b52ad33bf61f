-- How a key came to hold a permission, in the words of a log's history.
use Rattle.std.specs.Prelude.{◌≡◌, ◌⊎◌, ℕ, ◌<◌, List, [], ◌∷◌, ◌++◌, map, Bool, true, None, All, AllPairs}
use Rattle.warg_crypto.specs.NamedBytes.{fingerprint_of}
use Rattle.warg_permissions.specs.Permissions.{lists}
use Rattle.warg_log_records.specs.RecordData.{EntryData, Init, GrantFlat, RevokeFlat}
use Rattle.warg_replay.specs.declared.audited_log.link.Link.{Link}
use Rattle.warg_log.specs.Forms.{is_init}
use Rattle.warg_log.specs.History.{PlacedEvent, entry_on}

-- where an entry stands
abbrev pub place_of : {A : Type 0} → PlacedEvent A → Link
place_of e = record { record_index = e.record_place; entry_index = e.entry_place }

-- the one place comes before the other
abbrev pub IsBefore : Link → Link → Type 0
IsBefore l m = (l.record_index < m.record_index)
    ⊎ ((l.record_index ≡ m.record_index) × (l.entry_index < m.entry_index))

module _ {P O : Type 0} (same : P → P → Bool) (p : P) where
  -- the entry is a GrantFlat that lists p, to the key of k
  abbrev pub IsGrantTo : List ℕ → EntryData P O → Type 0
  IsGrantTo k (EntryData.Shared (Init algorithm key)) = ⊥
  IsGrantTo k (EntryData.Shared (GrantFlat key permissions)) =
      (fingerprint_of key ≡ k) × (lists same permissions p ≡ true)
  IsGrantTo k (EntryData.Shared (RevokeFlat id permissions)) = ⊥
  IsGrantTo k (EntryData.Own o) = ⊥

  -- no entry of h gives p to k or takes it
  abbrev pub AreSilentOn : List ℕ → List (PlacedEvent (EntryData P O)) → Type 0
  AreSilentOn k h = All (λ e. entry_on same k p e.event.signer e.event.entry ≡ None) h

  -- by the grants, in turn in h, p went from giver to k: each is signed by the key that the one before it is to, the
  -- first by giver, and no entry in between gives p to that key or takes it; nor does one after the last
  abbrev pub PassOn : List (PlacedEvent (EntryData P O)) → List ℕ → List (PlacedEvent (EntryData P O)) → List ℕ → Type 0
  PassOn h giver [] k = (giver ≡ k) × AreSilentOn giver h
  PassOn h giver (e ∷ es) k = (between : List (PlacedEvent (EntryData P O))) × (after : List (PlacedEvent (EntryData P O)))
      × (h ≡ between ++ e ∷ after) × AreSilentOn giver between × (e.event.signer ≡ giver)
      × ((taker : List ℕ) × IsGrantTo taker e.event.entry × PassOn after taker es k)

  -- at the links stand the Init that begins the history and the grants by which p went from its signer to k: each is
  -- the last entry before the next that gives p to its key or takes it
  pub record IsChainOfGrants (h : List (PlacedEvent (EntryData P O))) (k : List ℕ) (links : List Link) : Type 0 where
    pub init : PlacedEvent (EntryData P O)
    pub later : List (PlacedEvent (EntryData P O))
    pub grants : List (PlacedEvent (EntryData P O))
    pub places : map place_of (init ∷ grants) ≡ links
    pub rising : AllPairs IsBefore links
    pub begins : h ≡ init ∷ later
    pub first : is_init init.event.entry ≡ true
    pub passed : PassOn later init.event.signer grants k

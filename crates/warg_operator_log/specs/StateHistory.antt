-- What the envelopes of an operator log say, by the one list of all their entries, and a state that says so.
use Rattle.std.specs.Prelude.{◌≡◌, ◌≤◌, ℕ, List, length, map, None}
use Rattle.std.specs.List.{filter_map, last_or}
use Rattle.std.specs.Option.{option_map}
use Rattle.warg_envelope.specs.EnvelopeData.{EnvelopeData}
use Rattle.warg_log_records.specs.OperatorEntries.{OperatorOwnEntry}
use Rattle.warg_permissions.specs.OperatorPermissions.{same_permission}
use Rattle.warg_log_records.specs.OperatorReading.{operator_record_of}
use Rattle.warg_log_records.specs.RecordData.{EntryData}
use Rattle.warg_permissions.specs.declared.operator.Permission.{Permission}
use Rattle.warg_permissions.specs.KeyMaps.AuthorityData.{AuthorityData}
use Rattle.warg_log.specs.History.{PlacedEvent, history_of, holds, has_entry, key_of, algorithm_of, own_events}
use Rattle.warg_log.specs.Rules.{SignedRecord, head_of}
use Rattle.warg_log.specs.KindOfRules.{signed_record_of}
use Rattle.warg_log.specs.States.{State}
use Rattle.warg_operator_log.specs.Namespaces.{Namespace, Names, namespace_made_by_event, rules, record_id_of}
use Rattle.warg_operator_log.specs.State.{view_of}
use Rattle.warg_operator_log.specs.StateLaws.{listed_namespaces}

-- the envelopes as records
abbrev pub records_of : List EnvelopeData → List (SignedRecord Permission OperatorOwnEntry)
records_of es = map (signed_record_of rules same_permission operator_record_of) es

-- all entries in one list, each with its signer, its record's time and id, and its places
abbrev pub history : List EnvelopeData → List (PlacedEvent (EntryData Permission OperatorOwnEntry))
history es = history_of record_id_of (records_of es)

-- each name has one entry at most
abbrev pub OneEntryEach : List (PlacedEvent (EntryData Permission OperatorOwnEntry)) → Type 0
OneEntryEach h = (name : List ℕ) → length (filter_map (namespace_made_by_event name) (own_events h)) ≤ 1

-- the namespaces of a history by name: what the entry of that name makes of it
abbrev pub namespaces_of : List (PlacedEvent (EntryData Permission OperatorOwnEntry)) → Names
namespaces_of h = listed_namespaces (own_events h)

-- all that the state says is what the history says; above each line the look-up of `LogState` that answers it
pub record TellsHistory (s : State (AuthorityData Permission) (List (List ℕ × Namespace))) (es : List EnvelopeData) : Type 0 where
  -- `key_has_permission_to_sign_checkpoints`, for the permission to commit
  pub permissions : (k : List ℕ) (p : Permission)
      → (view_of s).state.authority.holds k p ≡ holds same_permission (history es) k p
  -- none
  pub entries : (k : List ℕ) → (view_of s).state.authority.has_entry k ≡ has_entry (history es) k
  -- `public_key`
  pub keys : (k : List ℕ) → (view_of s).state.authority.key k ≡ key_of (history es) k
  -- none
  pub algorithm : (view_of s).state.authority.algorithm ≡ algorithm_of (history es)
  -- `namespace_state`
  pub namespaces : (name : List ℕ) → (view_of s).state.own_state name ≡ namespaces_of (history es) name
  -- `head`: the id, the time and the version of the last record, if there is one
  pub head : (view_of s).head ≡ option_map (head_of record_id_of) (last_or None (records_of es))

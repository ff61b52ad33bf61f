-- What is wrong with a record is an offence that a record may have.
use Rattle.std.proofs.Common.{◌≡◌, ℕ, List, [], ◌∷◌, ◌++◌, Bool, true, false, Option, Some, None, refl}
use Rattle.std.specs.Prelude.{IfSome, ◌==◌, is_some, is_none, not, ◌||◌}
use Rattle.std.specs.Option.{option_map, option_or, option_map_or}
use Rattle.std.specs.Str.{bytes_eq}
use Rattle.warg_crypto.specs.NamedBytes.{NamedBytes, fingerprint_of}
use Rattle.warg_crypto.specs.Time.Times.{Time}
use Rattle.warg_crypto.specs.Signed.{signed_message}
use Rattle.warg_crypto.specs.declared.signing.error.SignatureError.TheVariants.{Refused}
use Rattle.warg_log_records.specs.RecordData.{EntryData, SharedEntry, Init, GrantFlat, RevokeFlat}
use Rattle.warg_log_records.specs.declared.record_id.RecordId.{RecordId}
use Rattle.warg_permissions.specs.KeyMaps.AuthorityData.{AccessView}
use Rattle.warg_log.specs.Rules.{Rules, LogOffence, StateView, View, SignedRecord, Event, state_view_after, record_events, entry_fault, entry_offence, events_offence, unsigned_offence, record_offence}
use Rattle.warg_log.specs.Offences.{Offence, unless, not_begun, empty_grant, required_offence, first_unauthorized, shared_entry_offence, InitialRecordDoesNotInit, KeyIDNotRecognized, UnauthorizedAction, PermissionNotFoundToRevoke, WrongSignature}
use Rattle.warg_log.specs.RecordOffences.{link_offence, version_offence, time_offence, same_id}
use Rattle.warg_permissions.specs.KeyMaps.Rights.{first_missing}
use Rattle.warg_log.specs.PossibleOffences.{is_possible_offence, IsPossible}
use Rattle.warg_log.specs.declared.head.Head.{Head}

module _ {P : Type 0} where
  abbrev MayBe : Option (Offence P) → Type 0
  MayBe o = IfSome o (λ x. is_possible_offence x ≡ true)

  either : (a b : Option (Offence P)) → MayBe a → MayBe b → MayBe (option_or a b)
  either None b h g = g
  either (Some x) b h g = h

  tested : (b : Bool) (x : Offence P) → is_possible_offence x ≡ true → MayBe (unless b x)
  tested true x h = tt
  tested false x h = h

  mapped : {A : Type 0} (f : A → Offence P) → ((a : A) → is_possible_offence (f a) ≡ true) → (o : Option A) → MayBe (option_map f o)
  mapped f h None = tt
  mapped f h (Some a) = h a

  required : (s : AccessView P) (k : List ℕ) (p : Option P) → MayBe (required_offence s k p)
  required s k None = tt
  required s k (Some p) = tested (s.holds k p) _ refl

  begun : (s : AccessView P) → MayBe (not_begun s)
  begun s = tested (is_some s.algorithm) _ refl

  listed : (s : AccessView P) (k : List ℕ) (ps : List P) → MayBe (first_unauthorized s k ps)
  listed s k ps = mapped (UnauthorizedAction k) (λ p. refl) _

  empty : (version : ℕ) (k : List ℕ) (ps : List P) → MayBe (empty_grant version k ps)
  empty version k [] = tested (version == 0) _ refl
  empty version k (p ∷ ps) = tt

  shared_entry : (by_own_key : Bool) (version : ℕ) (same : P → P → Bool) (s : AccessView P) (signer : List ℕ) (a : SharedEntry P) → MayBe (shared_entry_offence by_own_key version same s signer a)
  shared_entry by_own_key version same s signer (Init algorithm key) = either _ _ (tested (is_none s.algorithm) _ refl) (tested (not by_own_key || bytes_eq signer (fingerprint_of key)) _ refl)
  shared_entry by_own_key version same s signer (GrantFlat key ps) = either _ _ (begun s) (either _ _ (empty version (fingerprint_of key) ps) (listed s signer ps))
  shared_entry by_own_key version same s signer (RevokeFlat id ps) =
      either _ _ (begun s) (either _ _ (listed s signer ps) (mapped (λ p. PermissionNotFoundToRevoke p id) (λ p. refl) (first_missing same (s.holds id) [] ps)))

-- of the checks that name no permission
module _ (P : Type 0) where
  link : (head : Option Head) (prev : Option RecordId) → MayBe {P = P} (link_offence head prev)
  link None None = tt
  link None (Some prev) = refl
  link (Some head) None = refl
  link (Some head) (Some prev) = tested (same_id prev head.digest) _ refl

  version : (head : Option Head) (n : ℕ) → MayBe {P = P} (version_offence head n)
  version None n = tested _ _ refl
  version (Some head) n = tested _ _ refl

  time : (head : Option Head) (t : Time) → MayBe {P = P} (time_offence head t)
  time None t = tt
  time (Some head) t = tested _ _ refl

  signed : (belongs : NamedBytes → List ℕ → NamedBytes → Bool) (message : List ℕ) (signature : NamedBytes) (signer : List ℕ) (key : Option NamedBytes)
      → MayBe {P = P} (option_map_or (λ key. unless (belongs key message signature) (WrongSignature Refused)) key (Some (KeyIDNotRecognized signer)))
  signed belongs message signature signer None = refl
  signed belongs message signature signer (Some key) = tested (belongs key message signature) _ refl

module _ {P O V F : Type 0} (rules : Rules P O V F) (same : P → P → Bool) where
  abbrev Possible : Option (LogOffence P F) → Type 0
  Possible o = IfSome o IsPossible

  first : (a b : Option (LogOffence P F)) → Possible a → Possible b → Possible (option_or a b)
  first None b h g = g
  first (Some x) b h g = h

  shared : (o : Option (Offence P)) → MayBe o → Possible (option_map LogOffence.Shared o)
  shared None h = tt
  shared (Some x) h = h

  own : (o : Option F) → Possible (option_map LogOffence.Own o)
  own None = tt
  own (Some x) = tt

  fault : (n : ℕ) (w : StateView P V) (signer : List ℕ) (r : EntryData P O) → Possible (entry_fault rules same n w signer r)
  fault n w signer (EntryData.Shared a) = shared _ (shared_entry (rules.by_own_key n) n same w.authority signer a)
  fault n w signer (EntryData.Own o) = first _ _ (shared _ (begun w.authority)) (own (rules.offence w.own_state o))

  entry : (n : ℕ) (w : StateView P V) (signer : List ℕ) (r : EntryData P O) → Possible (entry_offence rules same n w signer r)
  entry n w signer r = first _ _ (shared _ (required w.authority signer (rules.required r))) (fault n w signer r)

  events : (n : ℕ) (w : StateView P V) (before es : List (Event (EntryData P O))) → Possible (events_offence rules same n w before es)
  events n w before [] = tt
  events n w before (e ∷ es) = first _ _ (entry n (state_view_after rules same w before) e.signer e.entry) (events n w (before ++ e ∷ []) es)

  unsigned : (v : View P V) (e : SignedRecord P O) → Possible (unsigned_offence rules same v e)
  unsigned v e =
      first _ _ (shared _ (link P v.head e.contents.prev))
      (first _ _ (shared _ (version P v.head e.contents.version))
      (first _ _ (shared _ (time P v.head e.contents.time))
      (first _ _ (events e.contents.version v.state [] (record_events rules.id_of e))
      (shared _ (tested (is_some (state_view_after rules same v.state (record_events rules.id_of e)).authority.algorithm) InitialRecordDoesNotInit refl)))))

  -- none is out of memory within another error, or a second algorithm, or a record that can't be read
  pub record-possible : (belongs : NamedBytes → List ℕ → NamedBytes → Bool) (v : View P V) (e : SignedRecord P O) → IfSome (record_offence rules same belongs v e) IsPossible
  record-possible belongs v e =
      first _ _ (unsigned v e)
      (shared _ (signed P belongs (signed_message rules.signing_prefix e.envelope.content) e.envelope.signature e.envelope.key_id
      ((state_view_after rules same v.state (record_events rules.id_of e)).authority.key e.envelope.key_id)))

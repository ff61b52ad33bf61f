-- What an entry does to the maps is what it does to who may do what.
use Rattle.std.proofs.Common.{◌≡◌, ℕ, List, [], ◌∷◌, Bool, true, false, ◌&&◌, ◌||◌, Option, Some, None, refl, sym, ap, ◌∙◌, if◌then◌else◌}
use Rattle.std.specs.Str.{bytes_eq}
use Rattle.std.specs.Option.{option_map, option_or}
use Rattle.indexmap.specs.IndexMap.{IndexMap}
use Rattle.warg_crypto.specs.NamedBytes.{NamedBytes, fingerprint_of}
use Rattle.warg_permissions.specs.Permissions.{lists}
use Rattle.warg_permissions.specs.KeyMaps.Rights.{value_over, held_over, has_entry_over, first_missing}
use Rattle.warg_log_records.specs.RecordData.{SharedEntry, Init, GrantFlat, RevokeFlat}
use Rattle.warg_log.specs.SignedEntries.{after}
use Rattle.warg_permissions.specs.KeyMaps.AuthorityData.{AuthorityData, access_view_over, authority_data}
use Rattle.warg_log.specs.Offences.{Offence, PermissionNotFoundToRevoke}
use Rattle.warg_permissions.proofs.KeyMapsLemmas.AccessLaws.{same_access_view}
use Rattle.warg_log.proofs.SignedEntryLaws.{latest-one, or-none}
use Rattle.warg_permissions.proofs.KeyMapsLemmas.AuthorityDataLemmas.{stands-over}
use Rattle.warg_crypto.specs.declared.hash.HashAlgorithm.{HashAlgorithm}

or-false : (a b : Bool) → (a || b) ≡ (a || (b || false))
or-false true b = refl
or-false false true = refl
or-false false false = refl

-- what an entry has done, where c is what stands beneath the changes
module _ {P Z X : Type 0} (same : P → P → Bool) (algorithm algorithm' : Option HashAlgorithm) (base old new : IndexMap (List ℕ) (List P) Z) (base_keys old_keys new_keys : IndexMap (List ℕ) NamedBytes X)
    (signer : List ℕ) (c d e : AuthorityData P) (base_is : authority_data algorithm base base_keys ≡ c) (old_is : authority_data algorithm' old old_keys ≡ d) where
  from_maps : (named : Option HashAlgorithm) → authority_data named new new_keys ≡ e → (entry : SharedEntry P)
      → access_view_over same (authority_data algorithm base base_keys) (authority_data named new new_keys)
      ≡ after same (access_view_over same (authority_data algorithm base base_keys) (authority_data algorithm' old old_keys)) (record { signer = signer; entry = entry } ∷ [])
      → access_view_over same c e ≡ after same (access_view_over same c d) (record { signer = signer; entry = entry } ∷ [])
  from_maps named new_is entry step = sym (stands-over same algorithm named base new base_keys new_keys c e base_is new_is) ∙ step
      ∙ ap (λ s. after same s (record { signer = signer; entry = entry } ∷ [])) (stands-over same algorithm algorithm' base old base_keys old_keys c d base_is old_is)

  pub grant-step : authority_data algorithm' new new_keys ≡ e → (key : NamedBytes) (permissions : List P)
      → ((k : List ℕ) → value_over base_keys.entries new_keys.entries k ≡ (if bytes_eq (fingerprint_of key) k then Some key else value_over base_keys.entries old_keys.entries k))
      → ((k : List ℕ) (p : P) → held_over same base new k p ≡ (if bytes_eq (fingerprint_of key) k && lists same permissions p then true else held_over same base old k p))
      → ((k : List ℕ) → has_entry_over base new k ≡ (has_entry_over base old k || bytes_eq (fingerprint_of key) k))
      → access_view_over same c e ≡ after same (access_view_over same c d) (record { signer = signer; entry = GrantFlat key permissions } ∷ [])
  grant-step new_is key permissions keyed gave entered =
      from_maps algorithm' new_is (GrantFlat key permissions) (same_access_view _ _ refl
      (λ k p. rw (gave k p) (sym (latest-one (bytes_eq (fingerprint_of key) k && lists same permissions p) true (held_over same base old k p))))
      (λ k. rw (entered k) (or-false (has_entry_over base old k) (bytes_eq (fingerprint_of key) k)))
      (λ k. rw (keyed k) (sym (latest-one (bytes_eq (fingerprint_of key) k) (Some key) (value_over base_keys.entries old_keys.entries k)))))

  pub init-step : (named : HashAlgorithm) → authority_data (Some named) new new_keys ≡ e → (key : NamedBytes) (id : List ℕ) → id ≡ fingerprint_of key
      → ((k : List ℕ) → value_over base_keys.entries new_keys.entries k ≡ (if bytes_eq id k then Some key else value_over base_keys.entries old_keys.entries k))
      → ((k : List ℕ) (p : P) → held_over same base new k p ≡ (if bytes_eq signer k then true else held_over same base old k p))
      → ((k : List ℕ) → has_entry_over base new k ≡ (has_entry_over base old k || bytes_eq signer k))
      → access_view_over same c e ≡ after same (access_view_over same c d) (record { signer = signer; entry = Init named key } ∷ [])
  init-step named new_is key id printed keyed gave entered =
      from_maps (Some named) new_is (Init named key) (same_access_view _ _ refl
      (λ k p. rw (gave k p) (sym (latest-one (bytes_eq signer k) true (held_over same base old k p))))
      (λ k. rw (entered k) (or-false (has_entry_over base old k) (bytes_eq signer k)))
      (λ k. rw (keyed k, printed) (sym (latest-one (bytes_eq (fingerprint_of key) k) (Some key) (value_over base_keys.entries old_keys.entries k)))))

  pub revoke-step : authority_data algorithm' new new_keys ≡ e → (id : List ℕ) (permissions : List P) → old_keys ≡ new_keys
      → ((k : List ℕ) (p : P) → held_over same base new k p ≡ (if bytes_eq id k && lists same permissions p then false else held_over same base old k p))
      → ((k : List ℕ) → has_entry_over base new k ≡ has_entry_over base old k)
      → access_view_over same c e ≡ after same (access_view_over same c d) (record { signer = signer; entry = RevokeFlat id permissions } ∷ [])
  revoke-step new_is id permissions kept took stayed =
      from_maps algorithm' new_is (RevokeFlat id permissions) (same_access_view _ _ refl
      (λ k p. rw (took k p) (sym (latest-one (bytes_eq id k && lists same permissions p) false (held_over same base old k p))))
      (λ k. rw (stayed k) (or-none (has_entry_over base old k)))
      (λ k. ap (λ (m : IndexMap (List ℕ) NamedBytes X). value_over base_keys.entries m.entries k) (sym kept)))

-- what is wrong with a revoke by a signer that holds all that it lists
pub revoke-offence : {P : Type 0} (same : P → P → Bool) (b u : Option (Offence P)) (f g : P → Bool) (id : List ℕ) (ps : List P) (m : Option P) → b ≡ None → u ≡ None → ((p : P) → g p ≡ f p)
    → m ≡ first_missing same f [] ps → option_or b (option_or u (option_map (λ p. PermissionNotFoundToRevoke p id) (first_missing same g [] ps))) ≡ option_map (λ p. PermissionNotFoundToRevoke p id) m
revoke-offence same b u f g id ps m begun lawful agree is =
    (λ i. option_or (begun i) (option_or (lawful i) (option_map (λ p. PermissionNotFoundToRevoke p id) (first_missing same (λ p. agree p i) [] ps))))
    ∙ ap (option_map (λ p. PermissionNotFoundToRevoke p id)) (sym is)

-- What words of entries say and lack.
use Rattle.std.proofs.Common.{◌≡◌, ◌⊎◌, inl, inr, ℕ, List, codes, false, refl, ap, subst, ◌∙◌, Option, Some, None, Ok, Err}
use Rattle.warg_crypto.specs.NamedBytes.{NamedBytes}
use Rattle.warg_permissions.specs.Permissions.{named_or}
use Rattle.warg_permissions.specs.declared.permission.InvalidPermission.{InvalidPermission}
use Rattle.tool_changes.specs.Make.Entries.{HasItsRest, Lacks, LacksByParts, Names, NamesNone, SaysByParts, SaysKey, Verbs, in_parts}
use Rattle.tool_changes.specs.Make.KeyWords.{IsKeyOf}
use Rattle.tool_changes.specs.Make.Words.{AreNamed, HasUnknown, behind_word, first_word, has_no_space}
use Rattle.tool_changes.specs.declared.make.error.EntryFault.{EntryFault}
use Rattle.tool_changes.specs.declared.make.error.EntryFault.TheVariants as fault
use Rattle.tool_changes.proofs.MakeLemmas.WordLemmas.{named_to, unknown_to}

-- ---- the parts of words

module _ (text verb rest subject object : List ℕ) (it : (has_no_space text ≡ false) × (verb ≡ first_word text) × (rest ≡ behind_word text))
    (named : subject ≡ first_word rest) (left : object ≡ behind_word rest) where
  -- what is so of the parts of words
  by_parts : (P : List ℕ → List ℕ → List ℕ → Type 0) → P verb subject object
      → P (first_word text) (first_word (behind_word text)) (behind_word (behind_word text))
  by_parts P h =
      subst (P (first_word text) (first_word (behind_word text))) (left ∙ ap behind_word it.2)
      (subst (λ (word : List ℕ). P (first_word text) word object) (named ∙ ap first_word it.2)
      (subst (λ (word : List ℕ). P word subject object) it.1 h))

  pub said_by_parts : (verbs : Verbs) {T : Type 0} (Says : List ℕ → List ℕ → List ℕ → T → Type 0) (entry : T) → HasItsRest verbs verb object
      → Says verb subject object entry → SaysByParts verbs Says text entry
  said_by_parts verbs Says entry fits h =
      record { spaced = it.0; rest = by_parts (λ v s o. HasItsRest verbs v o) fits; says = by_parts (λ v s o. Says v s o entry) h }

  pub lacks_by_parts : (verbs : Verbs) (Lacks : List ℕ → List ℕ → List ℕ → EntryFault → Type 0) (fault : EntryFault) → HasItsRest verbs verb object
      → Lacks verb subject object fault → LacksByParts verbs Lacks text fault
  lacks_by_parts verbs Lacks fault fits h =
      in_parts it.0 (by_parts (λ v s o. HasItsRest verbs v o) fits) (by_parts (λ v s o. Lacks v s o fault) h)

-- ---- permissions

some_named : {P : Type 0} (found : Option P) (item : P) → Ok item ≡ named_or found → found ≡ Some item
some_named (Some it) item e = let same : item ≡ it = cc in rw same
some_named None item e = cc

none_named : {P : Type 0} (found : Option P) (fault : InvalidPermission) → Err fault ≡ named_or found → found ≡ None
none_named (Some it) fault e = cc
none_named None fault e = refl

module _ {P : Type 0} (named : List ℕ → Option P) (text : List ℕ) where
  -- the words of a text name permissions
  pub permissions_named : (items : List P) → AreNamed (λ word item. Ok item ≡ named_or (named word)) text items → AreNamed (Names named) text items
  permissions_named items it =
      named_to (λ word item. Ok item ≡ named_or (named word)) (Names named) (λ word item e. some_named (named word) item e) text items it

  -- or one of them names none
  pub permission_unknown : HasUnknown (λ word. (fault : InvalidPermission) × (Err fault ≡ named_or (named word))) text → HasUnknown (NamesNone named) text
  permission_unknown it =
      unknown_to (λ word. (fault : InvalidPermission) × (Err fault ≡ named_or (named word))) (NamesNone named)
      (λ word unknown. none_named (named word) unknown.0 unknown.1) text it

-- ---- what parts lack

module _ {P : Type 0} (named : List ℕ → Option P) (verb subject object : List ℕ) where
  pub key_lacks : (it : EntryFault) → (verb ≡ codes "init") ⊎ (verb ≡ codes "grant")
      → (it ≡ fault.OutOfMemory) ⊎ ((it ≡ fault.BadKey) × ((key : NamedBytes) → IsKeyOf subject key → ⊥)) → Lacks named verb subject object it
  key_lacks it is (inl memory) = rw memory tt
  key_lacks it is (inr bad) = rw bad.0 (is, bad.1)

  pub permissions_lack : (it : EntryFault) → ((verb ≡ codes "grant") × SaysKey subject) ⊎ (verb ≡ codes "revoke")
      → (it ≡ fault.OutOfMemory) ⊎ ((it ≡ fault.BadPermission)
      × HasUnknown (λ word. (error : InvalidPermission) × (Err error ≡ named_or (named word))) object) → Lacks named verb subject object it
  permissions_lack it is (inl memory) = rw memory tt
  permissions_lack it is (inr bad) = rw bad.0 (is, permission_unknown named object bad.1)

-- Lawful events make no namespace twice.
use Rattle.std.proofs.Common.{◌≡◌, ℕ, ◌≤◌, List, [], ◌∷◌, Bool, true, false, length, Option, Some, None, refl, ap, ◌∙◌, if◌then◌else◌, arith}
use Rattle.std.specs.Prelude.{unwrap_or, is_none}
use Rattle.std.specs.List.{filter_map, cons_option, last_or}
use Rattle.std.specs.Str.{bytes_eq}
use Rattle.std.proofs.lemmas.Slice.Eq.{bytes_eq-Decides}
use Rattle.warg_log_records.specs.OperatorEntries.{OperatorOwnEntry, DefineNamespace, ImportNamespace}
use Rattle.warg_log_records.specs.Walks.{AllLawful}
use Rattle.warg_log.specs.Rules.{Event}
use Rattle.warg_log.proofs.Firsts.{or_second, unless_holds}
use Rattle.warg_operator_log.specs.Namespaces.{NamespaceAlreadyDefined, Namespace, Defined, Imported, Names, name_offence, own_offence, namespace_made_by_entry, namespace_made_by_event, names_after, own_after, event_offence}
use Rattle.warg_operator_log.proofs.ExtensionLaws.{lawful-kept}

taken : (o : Option Namespace) (s : Namespace) → o ≡ Some s → is_none o ≡ true → ⊥
taken None s there none = cc
taken (Some t) s there none = cc

module _ (v : Names) (k : List ℕ) (s : Namespace) (there : v k ≡ Some s) where
  silent_name : (n : List ℕ) (t : Namespace) → name_offence v n ≡ None → (b : Bool) → bytes_eq n k ≡ b → (if b then Some (Some t) else None) ≡ None
  silent_name n t h true e = absurd (taken (v n) s (ap v ((bytes_eq-Decides n k).0 e) ∙ there) (unless_holds (is_none (v n)) (NamespaceAlreadyDefined n) (or_second _ _ h)))
  silent_name n t h false e = refl

  -- a lawful entry is of no name that is taken
  silent : (o : OperatorOwnEntry) → own_offence v o ≡ None → namespace_made_by_entry k o ≡ None
  silent (DefineNamespace n) h = silent_name n Defined h (bytes_eq n k) refl
  silent (ImportNamespace n registry) h = silent_name n (Imported registry) h (bytes_eq n k) refl

-- no entry of a name follows where it is taken
none_more : (v : Names) (es : List (Event OperatorOwnEntry)) (k : List ℕ) (s : Namespace) → v k ≡ Some s → AllLawful own_after event_offence v es → filter_map (namespace_made_by_event k) es ≡ []
none_more v [] k s there h = refl
none_more v (e ∷ es) k s there h =
    ap (λ o. cons_option o (filter_map (namespace_made_by_event k) es)) (silent v k s there e.entry h.0)
    ∙ none_more (own_after v e) es k s (lawful-kept v (e ∷ []) (h.0, tt) k s there) h.1

-- what an entry says of a name is what the name is
said_name : (t : Namespace) (x : Option Namespace) (b : Bool) → (if b then Some (Some t) else None) ≡ Some x → (s : Namespace) × (x ≡ Some s)
said_name t x true h = (t, cc)
said_name t x false h = absurd (never h)
  where
    never : None ≡ Some x → ⊥
    never g = cc

said : (k : List ℕ) (o : OperatorOwnEntry) (x : Option Namespace) → namespace_made_by_entry k o ≡ Some x → (s : Namespace) × (x ≡ Some s)
said k (DefineNamespace n) x h = said_name Defined x (bytes_eq n k) h
said k (ImportNamespace n registry) x h = said_name (Imported registry) x (bytes_eq n k) h

-- a name has one entry at most
pub one-entry : (v : Names) (es : List (Event OperatorOwnEntry)) (k : List ℕ) → AllLawful own_after event_offence v es → length (filter_map (namespace_made_by_event k) es) ≤ 1
one-entry v [] k h = omega arith
one-entry v (e ∷ es) k h = by (one-entry (own_after v e) es k h.1) (namespace_made_by_event k e) refl
  where
    by : length (filter_map (namespace_made_by_event k) es) ≤ 1 → (o : Option (Option Namespace)) → namespace_made_by_event k e ≡ o → length (cons_option (namespace_made_by_event k e) (filter_map (namespace_made_by_event k) es)) ≤ 1
    by later None says = rw says later
    by later (Some x) says =
        let named = said k e.entry x says in
        let now : names_after v (e ∷ []) k ≡ Some named.0 = ap (λ o. unwrap_or (last_or None (cons_option o [])) (v k)) says ∙ named.1 in
        rw (says, none_more (own_after v e) es k named.0 now h.1) (omega arith)

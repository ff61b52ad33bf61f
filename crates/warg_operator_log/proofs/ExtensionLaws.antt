-- Lawful events keep the namespaces that stand before them.
use Rattle.std.proofs.Common.{◌≡◌, ℕ, List, [], ◌∷◌, Bool, true, false, Option, Some, None, refl, sym, ap, ◌∙◌, if◌then◌else◌}
use Rattle.std.specs.Prelude.{is_none}
use Rattle.std.specs.Option.{option_or}
use Rattle.std.specs.Str.{bytes_eq}
use Rattle.std.proofs.lemmas.Slice.Eq.{bytes_eq-Decides}
use Rattle.warg_registry.specs.KebabNames.{is_kebab_name}
use Rattle.warg_log_records.specs.OperatorEntries.{OperatorOwnEntry, DefineNamespace, ImportNamespace}
use Rattle.warg_log_records.specs.Walks.{view_after, AllLawful}
use Rattle.warg_log.specs.Rules.{Event}
use Rattle.warg_log.specs.Offences.{unless}
use Rattle.warg_log.proofs.SignedEntryLaws.{latest-one}
use Rattle.warg_operator_log.specs.Namespaces.{OwnOffence, InvalidNamespace, NamespaceAlreadyDefined, Namespace, Defined, Imported, Names, name_offence, own_offence, names_after, own_after, event_offence}

new_name : (b : Bool) (o : Option Namespace) (x y : OwnOffence) → option_or (unless b x) (unless (is_none o) y) ≡ None → o ≡ None
new_name true None x y h = refl
new_name true (Some s) x y h = cc
new_name false o x y h = cc

module _ (v : Names) (k : List ℕ) (s : Namespace) (there : v k ≡ Some s) where
  other : (n : List ℕ) (t : Namespace) (b : Bool) → bytes_eq n k ≡ b → v n ≡ None → (if b then Some t else v k) ≡ Some s
  other n t true e none =
      let here : v k ≡ None = ap v (sym ((bytes_eq-Decides n k).0 e)) ∙ none in
      cc
  other n t false e none = there

  name-kept : (n : List ℕ) (t : Namespace) → name_offence v n ≡ None → (if bytes_eq n k then Some t else v k) ≡ Some s
  name-kept n t h = other n t (bytes_eq n k) refl (new_name (is_kebab_name n) (v n) (InvalidNamespace n) (NamespaceAlreadyDefined n) h)

step-kept : (v : Names) (e : Event OperatorOwnEntry) → own_offence v e.entry ≡ None → (k : List ℕ) (s : Namespace) → v k ≡ Some s → names_after v (e ∷ []) k ≡ Some s
step-kept v e h k s there = by e.entry h
  where
    by : (o : OperatorOwnEntry) → own_offence v o ≡ None → names_after v (record e { entry = o } ∷ []) k ≡ Some s
    by (DefineNamespace n) g = latest-one (bytes_eq n k) (Some Defined) (v k) ∙ name-kept v k s there n Defined g
    by (ImportNamespace n registry) g = latest-one (bytes_eq n k) (Some (Imported registry)) (v k) ∙ name-kept v k s there n (Imported registry) g

-- lawful events keep what stands before them
pub lawful-kept : (v : Names) (es : List (Event OperatorOwnEntry)) → AllLawful own_after event_offence v es → (k : List ℕ) (s : Namespace) → v k ≡ Some s → view_after own_after v es k ≡ Some s
lawful-kept v [] h k s there = there
lawful-kept v (e ∷ es) h k s there = lawful-kept (own_after v e) es h.1 k s (step-kept v e h.0 k s there)

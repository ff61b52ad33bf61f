-- Namespaces of a saved state whose names are kebab names.
use Rattle.std.proofs.Common.{◌≡◌, ℕ, List, [], ◌∷◌, Bool, true, false, ◌||◌, not, None, refl}
use Rattle.std.specs.List.{list_any}
use Rattle.warg_registry.specs.KebabNames.{is_kebab_name}
use Rattle.warg_saved_states.proofs.Cases.{negated, no_case}
use Rattle.warg_operator_log.specs.NamespaceMap.{HasKebabNames}
use Rattle.warg_operator_log.specs.Namespaces.{Namespace}
use Rattle.warg_operator_log.specs.SavedState.{is_misnamed, namespaces_case}

neither : (a b : Bool) → (a || b) ≡ false → (a ≡ false) × (b ≡ false)
neither true b h = cc h
neither false b h = (refl, h)

all_kebab : (es : List (List ℕ × Namespace)) → list_any is_misnamed es ≡ false → HasKebabNames es
all_kebab [] h = tt
all_kebab (e ∷ es) h =
    let here = neither (not (is_kebab_name e.0)) _ h in
    (negated (is_kebab_name e.0) here.0, all_kebab es here.1)

pub kebab_names : (es : List (List ℕ × Namespace)) → namespaces_case es ≡ None → HasKebabNames es
kebab_names es h = all_kebab es (no_case _ _ h)

-- no namespace of a log has another name
pub none_misnamed : (es : List (List ℕ × Namespace)) → HasKebabNames es → list_any is_misnamed es ≡ false
none_misnamed [] all = refl
none_misnamed (e ∷ es) all = rw all.0 (none_misnamed es all.1)

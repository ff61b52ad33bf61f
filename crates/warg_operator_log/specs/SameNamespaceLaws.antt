-- Equal namespaces are one, and equal lists of them answer alike for every name.
use Rattle.std.proofs.Common.{◌≡◌, refl, sym, ap, ◌∙◌, true≢false}
use Rattle.std.specs.Prelude.{ℕ, List, true, Option, Some, None}
use Rattle.std.specs.Bool.{Decides, one_answer}
use Rattle.std.specs.Cmp.{IsEquivalence, on_equiv}
use Rattle.std.specs.Cmp.Lexicographic.{nat_list_eq_equiv}
use Rattle.std.specs.Option.{option_eq}
use Rattle.std.specs.Str.{bytes_eq}
use Rattle.std.proofs.lemmas.Slice.Eq.{bytes_eq-Decides}
use Rattle.warg_permissions.specs.KeyMaps.EqualLaws.{maps_from_get, get_from_maps}
use Rattle.warg_operator_log.specs.Namespaces.{Namespace, Defined, Imported, names}
use Rattle.warg_operator_log.specs.NamespaceMap.{namespace_view}
use Rattle.warg_operator_log.specs.SameNamespaces.{same_namespace, same_namespaces}
use Rattle.warg_operator_log.specs.declared.namespace.NamespaceState.{NamespaceState}

namespace_exact : (a b : Namespace) → same_namespace a b ≡ true → a ≡ b
namespace_exact Defined Defined h = refl
namespace_exact Defined (Imported registry) h = absurd (true≢false (sym h))
namespace_exact (Imported registry) Defined h = absurd (true≢false (sym h))
namespace_exact (Imported a) (Imported b) h = ap Imported ((bytes_eq-Decides a b).0 h)

namespace_same : (a : Namespace) → same_namespace a a ≡ true
namespace_same Defined = refl
namespace_same (Imported registry) = nat_list_eq_equiv.refl registry

-- the test calls two namespaces the same exactly if they are one
pub namespace_decides : (a b : Namespace) → Decides (same_namespace a b) (a ≡ b)
namespace_decides a b = (namespace_exact a b, λ h. ap (same_namespace a) (sym h) ∙ namespace_same a)

namespace_equiv : IsEquivalence same_namespace
namespace_equiv = record {
  refl = namespace_same;
  symm = λ a b. one_answer (same_namespace a b) (same_namespace b a) (namespace_decides a b) (λ h. sym (namespace_exact b a h), λ h. (namespace_decides b a).1 (sym h));
  congr = λ a b c h. ap (λ x. same_namespace x c) (namespace_exact a b h);
}

-- that two namespaces show the same is an equivalence
pub shown_equiv : IsEquivalence (λ (a b : NamespaceState). same_namespace (namespace_view a) (namespace_view b))
shown_equiv = on_equiv namespace_view namespace_equiv

options_exact : (p q : Option Namespace) → option_eq same_namespace p q ≡ true → p ≡ q
options_exact None None h = refl
options_exact None (Some y) h = absurd (true≢false (sym h))
options_exact (Some x) None h = absurd (true≢false (sym h))
options_exact (Some x) (Some y) h = ap Some (namespace_exact x y h)

options_same : (p : Option Namespace) → option_eq same_namespace p p ≡ true
options_same None = refl
options_same (Some x) = namespace_same x

-- equal lists of namespaces are those that answer alike for every name
pub namespaces_decide : (es fs : List (List ℕ × Namespace)) → Decides (same_namespaces es fs) (names es ≡ names fs)
namespaces_decide es fs = (
  λ h i k. options_exact (names es k) (names fs k) (get_from_maps bytes_eq same_namespace nat_list_eq_equiv es fs h k) i,
  λ h. maps_from_get bytes_eq same_namespace es fs (λ k. ap (λ (v : List ℕ → Option Namespace). option_eq same_namespace (names es k) (v k)) (sym h) ∙ options_same (names es k)),
)

-- that two lists of namespaces are the same is an equivalence
pub namespaces_equiv : IsEquivalence same_namespaces
namespaces_equiv = record {
  refl = λ es. (namespaces_decide es es).1 refl;
  symm = λ es fs. one_answer (same_namespaces es fs) (same_namespaces fs es) (namespaces_decide es fs) (λ h. sym ((namespaces_decide fs es).0 h), λ h. (namespaces_decide fs es).1 (sym h));
  congr = λ es fs gs e. one_answer (same_namespaces es gs) (same_namespaces fs gs) (namespaces_decide es gs) (λ h. (namespaces_decide es fs).0 e ∙ (namespaces_decide fs gs).0 h, λ h. (namespaces_decide fs gs).1 (sym ((namespaces_decide es fs).0 e) ∙ h));
}

-- What is asked of a saved namespace is enough for it.
use Rattle.std.specs.Prelude.{ℕ, ◌≡◌, List, [], ◌∷◌, Bool, true, false, codes, if◌then◌else◌, Option, Some, None, Result, Ok, Err, refl}
use Rattle.std.proofs.Common.{sym, ap, ◌∙◌}
use Rattle.serde_json.specs.Data.{Data, Members}
use Rattle.serde_json.specs.Find.{as_object, as_str, get_member}
use Rattle.warg_crypto.specs.Json.Json.{◌>>=◌, json_result, member_in, or_bad_text, some_or, text_in}
use Rattle.warg_crypto.specs.Json.Members.{SameOptions}
use Rattle.warg_crypto.specs.declared.json.error.JsonError.{JsonError}
use Rattle.warg_crypto.specs.declared.json.error.JsonError.TheVariants as fault
use Rattle.warg_saved_states.specs.Asked.{AreAskedOf, IsAskedOf, is_single}
use Rattle.warg_saved_states.specs.Next.{AsksFor}
use Rattle.warg_saved_states.proofs.AskedLaws.{member_asked, read_member_asked}
use Rattle.warg_operator_log.specs.NamespaceJson.{imported_in, namespace_in, namespace_of, saved_namespace_in}
use Rattle.warg_operator_log.specs.Namespaces.{Namespace, Imported}

-- the names that are asked for
abbrev pub namespace_names : List (List ℕ)
namespace_names = codes "state" ∷ codes "imported" ∷ codes "registry" ∷ []

registry_asked : AsksFor namespace_names 0 text_in
registry_asked d v like = rw like.text refl

-- what is read of the value of `imported`
abbrev registry_in : Data → Result Namespace JsonError
registry_in imported = member_in (codes "registry") imported >>= λ name. text_in name >>= λ registry. json_result (Imported registry)

inner_asked : AsksFor namespace_names 1 registry_in
inner_asked d v like = read_member_asked namespace_names 0 (codes "registry") d v text_in _ _ refl registry_asked like (λ registry. refl)

module _ (d v : Data) (a b : Members) (is_a : as_object d ≡ Some a) (is_b : as_object v ≡ Some b) (are : AreAskedOf namespace_names 2 a b) where
  found : (o p : Option Data) → SameOptions (λ x y. IsAskedOf namespace_names 1 x y) o p
      → (or_bad_text (some_or fault.Missing p) >>= registry_in) ≡ (or_bad_text (some_or fault.Missing o) >>= registry_in)
  found None None same = refl
  found (Some x) (Some y) like = inner_asked x y like
  found None (Some y) same = absurd same
  found (Some x) None same = absurd same

  abbrev in_object : Option Members → Result Data JsonError
  in_object o = some_or fault.WrongType o >>= λ ms. some_or fault.Missing (get_member (codes "imported") ms)

  member_same : (or_bad_text (member_in (codes "imported") v) >>= registry_in) ≡ (or_bad_text (member_in (codes "imported") d) >>= registry_in)
  member_same =
      ap (λ o. or_bad_text (in_object o) >>= registry_in) is_b
      ∙ found (get_member (codes "imported") a) (get_member (codes "imported") b) (are.same (codes "imported") refl)
      ∙ sym (ap (λ o. or_bad_text (in_object o) >>= registry_in) is_a)

  if_single : (s : Bool) → ((if s then or_bad_text (member_in (codes "imported") v) else Err fault.BadText) >>= registry_in)
      ≡ ((if s then or_bad_text (member_in (codes "imported") d) else Err fault.BadText) >>= registry_in)
  if_single true = member_same
  if_single false = refl

  imported_same : imported_in v b ≡ imported_in d a
  imported_same = ap (λ s. (if s then or_bad_text (member_in (codes "imported") v) else Err fault.BadText) >>= registry_in) are.single ∙ if_single (is_single a)

namespace_asked : AsksFor namespace_names 2 namespace_in
namespace_asked d v like = ap (λ t. namespace_of v t (as_object v)) like.text ∙ by (as_str d) (as_object d) (as_object v) refl refl like.object
  where
    by : (t : Option (List ℕ)) (o p : Option Members) → as_object d ≡ o → as_object v ≡ p → SameOptions (AreAskedOf namespace_names 2) o p → namespace_of v t p ≡ namespace_of d t o
    by (Some t) o p is_o is_p same = refl
    by None None None is_o is_p same = refl
    by None (Some a) (Some b) is_a is_b are = imported_same d v a b is_a is_b are
    by None None (Some b) is_o is_p same = absurd same
    by None (Some a) None is_o is_p same = absurd same

-- a saved namespace asks for the members of these names
pub saved_namespace_asked : AsksFor namespace_names 3 saved_namespace_in
saved_namespace_asked d v like = member_asked namespace_names 2 (codes "state") d v namespace_in namespace_in refl like namespace_asked

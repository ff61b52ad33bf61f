-- What was written of a namespace reads back.
use Rattle.std.specs.Prelude.{◌≡◌, List, [], ◌∷◌, length, Result, Ok, Err, IfOk, refl, suc, String}
use Rattle.std.proofs.Common.{subst, ap}
use Rattle.std.specs.declared.alloc.Global.{Global}
use Rattle.serde_json.specs.Data.{Data}
use Rattle.serde_json.specs.View.{members_view}
use Rattle.serde_json.specs.declared.value.Value.{Value}
use Rattle.warg_crypto.specs.Json.Json.{AreReadBack, ReturnsOrNoMemory, ReadsBack, json_result}
use Rattle.warg_crypto.specs.Json.Pairs.{names_of}
use Rattle.warg_crypto.specs.declared.json.error.JsonError.{JsonError}
use Rattle.warg_operator_log.specs.NamespaceJson.{namespace_in, namespace_json, saved_namespace_in, saved_namespace_json}
use Rattle.warg_operator_log.specs.Namespaces.{Namespace, Defined, Imported}

written : {A : Type 0} (x y : A) → json_result x ≡ Ok y → x ≡ y
written x y e = cc

namespace_again : (n : Namespace) (d : Data) → namespace_json n ≡ Ok d → namespace_in d ≡ Ok n
namespace_again Defined d e = subst (λ (x : Data). namespace_in x ≡ Ok Defined) (written _ _ e) refl
namespace_again (Imported registry) d e = subst (λ (x : Data). namespace_in x ≡ Ok (Imported registry)) (written _ _ e) refl

saved_again : (n : Namespace) (d : Data) → saved_namespace_json n ≡ Ok d → saved_namespace_in d ≡ Ok n
saved_again Defined d e = subst (λ (x : Data). saved_namespace_in x ≡ Ok Defined) (written _ _ e) refl
saved_again (Imported registry) d e = subst (λ (x : Data). saved_namespace_in x ≡ Ok (Imported registry)) (written _ _ e) refl

pub namespace_reads_back : (n : Namespace) {V : Type 0} (view : V → Data) (r : Result V JsonError) → ReturnsOrNoMemory view r (namespace_json n)
    → AreReadBack [] → IfOk r (λ v. ReadsBack namespace_in (λ a b. a ≡ b) n (view v))
namespace_reads_back n view (Err e) given h = tt
namespace_reads_back n view (Ok v) given h = record { again = n; is = namespace_again n (view v) given; equal = refl }

pub saved_reads_back : (n : Namespace) {V : Type 0} (view : V → Data) (r : Result V JsonError) → ReturnsOrNoMemory view r (saved_namespace_json n)
    → AreReadBack [] → IfOk r (λ v. ReadsBack saved_namespace_in (λ a b. a ≡ b) n (view v))
saved_reads_back n view (Err e) given h = tt
saved_reads_back n view (Ok v) given h = record { again = n; is = saved_again n (view v) given; equal = refl }

-- as many names as members
pub name_count : (es : List (String Global × Value)) → length (names_of (members_view es)) ≡ length es
name_count [] = refl
name_count (e ∷ es) = ap suc (name_count es)

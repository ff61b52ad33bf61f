-- What JSON says of permissions.
use Rattle.std.proofs.Common.{◌≡◌, ℕ, List, Option, Some, Result, Ok, Err, IfOk, refl}
use Rattle.serde_json.specs.Data.{string}
use Rattle.serde_json.specs.View.{view}
use Rattle.serde_json.specs.declared.value.Value.{Value}
use Rattle.warg_crypto.specs.Json.Json.{ReturnsOrNoMemory, ReadsBack, json_result}
use Rattle.warg_crypto.specs.Json.JsonLaws.{ok_same}
use Rattle.warg_crypto.specs.declared.json.error.JsonError.{JsonError}
use Rattle.warg_permissions.specs.PermissionJson.{permission_from}

pub permission_back : {P : Type 0} (text_of : P → List ℕ) (named : List ℕ → Option P) (p : P) (r : Result Value JsonError) → named (text_of p) ≡ Some p
    → ReturnsOrNoMemory view r (json_result (string (text_of p))) → IfOk r (λ v. ReadsBack (permission_from named) (λ a b. a ≡ b) p (view v))
permission_back text_of named p (Ok v) own given = record { again = p; is = rw (← ok_same _ _ given) (rw own refl); equal = refl }
permission_back text_of named p (Err e) own given = tt

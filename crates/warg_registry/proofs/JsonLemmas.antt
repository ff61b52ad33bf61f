-- What JSON says of package names.
use Rattle.std.proofs.Common.{◌≡◌, ℕ, List, true, Result, Ok, Err, IfOk}
use Rattle.serde_json.specs.Data.{string}
use Rattle.serde_json.specs.View.{view}
use Rattle.serde_json.specs.declared.value.Value.{Value}
use Rattle.warg_crypto.specs.Json.Json.{ReturnsOrNoMemory, ReadsBack, json_result}
use Rattle.warg_crypto.specs.declared.json.error.JsonError.{JsonError}
use Rattle.warg_registry.specs.KebabNames.{is_package_name}
use Rattle.warg_registry.specs.RegistryJson.{package_name_in}
use Rattle.warg_registry.proofs.RegistryJsonLaws.{package_name_reads_back}

pub name_back : (name : List ℕ) (r : Result Value JsonError) → is_package_name name ≡ true → ReturnsOrNoMemory view r (json_result (string name))
    → IfOk r (λ v. ReadsBack package_name_in (λ a b. a ≡ b) name (view v))
name_back name (Ok v) own given = package_name_reads_back name (view v) own given
name_back name (Err e) own given = tt

-- The names of what is wrong with the text of a saved state.
use Rattle.std.specs.Prelude.{ℕ, List, ◌++◌, codes}
use Rattle.warg_protocol.specs.Json.{JsonError, JsonTextError}
use Rattle.warg_crypto.specs.declared.json.error.Incoherence.{Incoherence}
use Rattle.warg_crypto.specs.declared.json.error.Incoherence.TheVariants as case
use Rattle.warg_crypto.specs.declared.json.error.JsonError.TheVariants as value
use Rattle.warg_saved_states.specs.declared.error.JsonTextError.TheVariants as text
use Rattle.warg_audit.specs.Printouts.{OutputData}

-- parts that do not fit together
abbrev pub case_name : Incoherence → List ℕ
case_name case.AlgorithmWithoutHead = codes "Value.Incoherent.AlgorithmWithoutHead"
case_name case.HeadWithoutAlgorithm = codes "Value.Incoherent.HeadWithoutAlgorithm"
case_name case.StateWithoutInit = codes "Value.Incoherent.StateWithoutInit"
case_name case.ReleaseUnderOtherVersion = codes "Value.Incoherent.ReleaseUnderOtherVersion"
case_name case.KeyUnderOtherFingerprint = codes "Value.Incoherent.KeyUnderOtherFingerprint"
case_name case.InvalidNamespace = codes "Value.Incoherent.InvalidNamespace"
case_name case.PermissionsWithoutKey = codes "Value.Incoherent.PermissionsWithoutKey"
case_name case.UnsupportedVersion = codes "Value.Incoherent.UnsupportedVersion"

-- a value that is none
abbrev pub value_name : JsonError → List ℕ
value_name value.WrongType = codes "Value.WrongType"
value_name value.Missing = codes "Value.Missing"
value_name value.BadText = codes "Value.BadText"
value_name value.TimeBeforeEpoch = codes "Value.TimeBeforeEpoch"
value_name value.TimeOutOfRange = codes "Value.TimeOutOfRange"
value_name (value.Incoherent it) = case_name it
value_name value.OutOfMemory = codes "OutOfMemory"

-- the name of a fault: its cases from the outside in
abbrev pub state_fault_name : JsonTextError → List ℕ
state_fault_name text.NotJson = codes "NotJson"
state_fault_name (text.Value fault) = value_name fault
state_fault_name text.OutOfMemory = codes "OutOfMemory"

-- what is printed of a file that holds no state
abbrev pub bad_state : JsonTextError → OutputData
bad_state fault = record { text = codes "bad state " ++ state_fault_name fault ++ codes "\n"; status = 2 }

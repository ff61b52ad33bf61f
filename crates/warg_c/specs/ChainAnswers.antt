-- By which entries keys came to hold permissions.
use Rattle.std.specs.Prelude.{◌≡◌, ◌⊎◌, List, ℕ, map, Option, Some, None, IsSome}
use Rattle.warg_replay.specs.AuditedLog.Chains.{IsChainAnswer}
use Rattle.warg_replay.specs.AuditedLog.Log.{StateAndRecords, envelopes}
use Rattle.warg_replay.specs.declared.audited_log.link.Link as whole
use Rattle.warg_operator_log.specs.StateLaws as operator_laws
use Rattle.warg_package_log.specs.StateLaws as package_laws
use Rattle.warg_permissions.specs.OperatorPermissions as operator_permission
use Rattle.warg_permissions.specs.PackagePermissions as package_permission
use Rattle.warg_log_records.specs.Effects.{Effects}
use Rattle.warg_c.specs.declared.exports.chains.Link.{Link}
use Rattle.warg_c.specs.declared.any_log.AnyLog.{AnyLog}
use Rattle.warg_c.specs.declared.any_log.AnyLog.TheVariants.{Package, Operator}
use Rattle.warg_c.specs.Keys.{IsNoPermission}
use Rattle.warg_c.specs.Logs.{whole_of}

-- the place of an entry, for the caller
abbrev pub shown_link : whole.Link → Link
shown_link link = record { record_index = link.record_index; entry_index = link.entry_index }

module _ {S C P : Type 0} (f : Effects P) (named : List ℕ → Option P) where
  -- the links are those of the chain by which the key id holds the permission of the text
  abbrev pub ChainIs : Option (StateAndRecords S C) → List ℕ → List ℕ → List Link → Type 0
  ChainIs (Some log) key text links = (p : P) × (found : List whole.Link) × (named text ≡ Some p) × IsChainAnswer f (envelopes log.records) key p (Some found) × (links ≡ map shown_link found)
  ChainIs None key text links = ⊥

  -- the key id does not hold it
  abbrev pub NoChain : Option (StateAndRecords S C) → List ℕ → List ℕ → Type 0
  NoChain (Some log) key text = (p : P) × (named text ≡ Some p) × IsChainAnswer f (envelopes log.records) key p None
  NoChain None key text = ⊥

abbrev pub chain_tells : AnyLog → List ℕ → List ℕ → List Link → Type 0
chain_tells (Package log) = ChainIs package_laws.effects package_permission.permission_in (whole_of log)
chain_tells (Operator log) = ChainIs operator_laws.effects operator_permission.permission_in (whole_of log)

-- the log has records, and logs of the kind have a permission of this name
abbrev pub chain_takes : AnyLog → List ℕ → Type 0
chain_takes (Package log) text = IsSome (whole_of log) × IsSome (package_permission.permission_in text)
chain_takes (Operator log) text = IsSome (whole_of log) × IsSome (operator_permission.permission_in text)

abbrev pub chain_lacks : AnyLog → List ℕ → List ℕ → Type 0
chain_lacks (Package log) = NoChain package_laws.effects package_permission.permission_in (whole_of log)
chain_lacks (Operator log) = NoChain operator_laws.effects operator_permission.permission_in (whole_of log)

-- the log was resumed, or the texts are no key id and permission
abbrev pub chain_bad : AnyLog → List ℕ → List ℕ → Type 0
chain_bad (Package log) key text = (whole_of log ≡ None) ⊎ IsNoPermission package_permission.permission_in key text
chain_bad (Operator log) key text = (whole_of log ≡ None) ⊎ IsNoPermission operator_permission.permission_in key text

-- The words that take a kind's rules say of package logs and of operator logs what each kind's own words say.
use Rattle.std.proofs.Common.{◌≡◌, ℕ, List, refl}
use Rattle.warg_envelope.specs.EnvelopeData.{EnvelopeData}
use Rattle.warg_log_records.specs.OperatorEntries.{OperatorOwnEntry}
use Rattle.warg_log_records.specs.PackageEntries.{PackageOwnEntry}
use Rattle.warg_log_records.specs.RecordData.{EntryData}
use Rattle.warg_log.specs.History.{PlacedEvent, holds}
use Rattle.warg_log.specs.Rules.{StateView}
use Rattle.warg_log_laws.specs.EntryByEntry as entries
use Rattle.warg_log_laws.specs.GrantChains as grants
use Rattle.warg_log_laws.specs.OperatorKind as operators
use Rattle.warg_log_laws.specs.PackageKind as packages
use Rattle.warg_log_laws.specs.RuledLogs as word
use Rattle.warg_operator_log.specs.Namespaces.{Names}
use Rattle.warg_operator_log.specs.Namespaces as names
use Rattle.warg_operator_log.specs.StateHistory as of_operator
use Rattle.warg_operator_log.specs.StateLaws as operator_laws
use Rattle.warg_package_log.specs.ListedReleases.{listed_releases}
use Rattle.warg_package_log.specs.Releases.{ReleaseView}
use Rattle.warg_package_log.specs.Releases as releases
use Rattle.warg_package_log.specs.StateHistory as of_package
use Rattle.warg_package_log.specs.StateLaws as package_laws
use Rattle.warg_permissions.specs.OperatorPermissions as operator_permissions
use Rattle.warg_permissions.specs.PackagePermissions as package_permissions
use Rattle.warg_permissions.specs.declared.operator.Permission.{Permission as OperatorPermission}
use Rattle.warg_permissions.specs.declared.package.Permission.{Permission as PackagePermission}
use Rattle.warg_replay.specs.declared.audited_log.link.Link.{Link}

-- ---- package logs

pub package_kind-same : word.kind packages.ruled ≡ package_laws.kind
package_kind-same = refl

pub package_effects-same : word.effects packages.ruled ≡ package_laws.effects
package_effects-same = refl

pub package_records_of-same : (es : List EnvelopeData) → word.records_of packages.ruled es ≡ of_package.records_of es
package_records_of-same es = refl

pub package_history-same : (es : List EnvelopeData) → word.history packages.ruled es ≡ of_package.history es
package_history-same es = refl

pub package_is_held-same : (es : List EnvelopeData) (k : List ℕ) (p : PackagePermission)
    → word.is_held packages.ruled es k p ≡ holds package_permissions.same_permission (of_package.history es) k p
package_is_held-same es k p = refl

pub package_IsChainOfGrants-same : (es : List EnvelopeData) (k : List ℕ) (p : PackagePermission) (links : List Link)
    → word.IsChainOfGrants packages.ruled es k p links
    ≡ grants.IsChainOfGrants package_permissions.same_permission p (of_package.history es) k links
package_IsChainOfGrants-same es k p links = refl

pub package_state_view_of-same : (h : List (PlacedEvent (EntryData PackagePermission PackageOwnEntry)))
    → word.state_view_of packages.ruled h
    ≡ entries.state_view_of package_permissions.same_permission listed_releases h
package_state_view_of-same h = refl

pub package_entry_offence-same : (version : ℕ) (w : StateView PackagePermission (List ReleaseView))
    (e : PlacedEvent (EntryData PackagePermission PackageOwnEntry))
    → word.entry_offence packages.ruled version w e
    ≡ entries.entry_offence releases.rules package_permissions.same_permission version w e
package_entry_offence-same version w e = refl

-- ---- operator logs

pub operator_kind-same : word.kind operators.ruled ≡ operator_laws.kind
operator_kind-same = refl

pub operator_effects-same : word.effects operators.ruled ≡ operator_laws.effects
operator_effects-same = refl

pub operator_records_of-same : (es : List EnvelopeData) → word.records_of operators.ruled es ≡ of_operator.records_of es
operator_records_of-same es = refl

pub operator_history-same : (es : List EnvelopeData) → word.history operators.ruled es ≡ of_operator.history es
operator_history-same es = refl

pub operator_is_held-same : (es : List EnvelopeData) (k : List ℕ) (p : OperatorPermission)
    → word.is_held operators.ruled es k p ≡ holds operator_permissions.same_permission (of_operator.history es) k p
operator_is_held-same es k p = refl

pub operator_IsChainOfGrants-same : (es : List EnvelopeData) (k : List ℕ) (p : OperatorPermission) (links : List Link)
    → word.IsChainOfGrants operators.ruled es k p links
    ≡ grants.IsChainOfGrants operator_permissions.same_permission p (of_operator.history es) k links
operator_IsChainOfGrants-same es k p links = refl

pub operator_state_view_of-same : (h : List (PlacedEvent (EntryData OperatorPermission OperatorOwnEntry)))
    → word.state_view_of operators.ruled h
    ≡ entries.state_view_of operator_permissions.same_permission operator_laws.listed_namespaces h
operator_state_view_of-same h = refl

pub operator_entry_offence-same : (version : ℕ) (w : StateView OperatorPermission Names)
    (e : PlacedEvent (EntryData OperatorPermission OperatorOwnEntry))
    → word.entry_offence operators.ruled version w e
    ≡ entries.entry_offence names.rules operator_permissions.same_permission version w e
operator_entry_offence-same version w e = refl

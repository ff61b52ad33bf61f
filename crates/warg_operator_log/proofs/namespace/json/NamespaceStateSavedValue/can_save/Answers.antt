use Rattle.std.specs.Prelude.{◌≡◌, Ok, refl}
use Rattle.serde_json.specs.Data.{Data}
use Rattle.warg_operator_log.specs.NamespaceJson.{saved_namespace_json}
use Rattle.warg_operator_log.specs.NamespaceMap.{namespace_view}
use Rattle.warg_operator_log.specs.Namespaces.{Namespace, Defined, Imported}
use Rattle.warg_operator_log.proofs.NamespaceJsonLaws.{saved_reads_back}
use Rattle.warg_operator_log.proofs.namespace.json.NamespaceStateSavedValue.can_save.Goals as goal

written : (n : Namespace) → (d : Data) × (saved_namespace_json n ≡ Ok d)
written Defined = (_, refl)
written (Imported registry) = (_, refl)

pub returns-clause-ok : goal.returns-clause-ok
returns-clause-ok c = written (namespace_view c.args.self.now)

pub returns-clause-back : goal.returns-clause-back
returns-clause-back c = λ none d is. saved_reads_back (namespace_view c.args.self.now) (λ d. d) (Ok d) is none

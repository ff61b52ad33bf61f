use Rattle.std.proofs.Common.{subst}
use Rattle.std.specs.List.{IsDistinct}
use Rattle.std.specs.Map.{keys_of}
use Rattle.std.specs.Str.{bytes_eq}
use Rattle.warg_operator_log.specs.NamespaceMap.{HasKebabNames}
use Rattle.warg_operator_log.proofs.NamespaceListLemmas.{distinct_names}
use Rattle.warg_operator_log.proofs.namespace_map.NamespaceMap.namespaces.Goals as goal

pub returns-clause-distinct : goal.returns-clause-distinct
returns-clause-distinct c = subst (λ es. IsDistinct bytes_eq (keys_of es)) c.self.view_is (distinct_names c.self.inside.map.entries c.iter.ensures.unique)

pub returns-clause-kebabs : goal.returns-clause-kebabs
returns-clause-kebabs c = subst HasKebabNames c.self.view_is c.self.invariant

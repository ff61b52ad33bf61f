use Rattle.std.proofs.Common.{◌≡◌, [], ◌∷◌, ◌++◌, sym, ap, ◌∙◌, subst, None, is_some}
use Rattle.std.specs.Prelude.{string_bytes}
use Rattle.std.specs.String.{string_eq}
use Rattle.indexmap.specs.IndexMap.{get}
use Rattle.indexmap.proofs.CallerLemmas.{insert_entry-new}
use Rattle.warg_operator_log.specs.NamespaceMap.{namespace_entries, namespace_view, HasKebabNames}
use Rattle.warg_operator_log.proofs.NamespaceLemmas.{named-push, kebabs-insert, new-name, nothing}
use Rattle.warg_operator_log.proofs.namespace_map.NamespaceMap.put.Goals as goal

pub invariant_of-self-2 : goal.invariant_of-self-2
invariant_of-self-2 c = subst (λ es. HasKebabNames (namespace_entries es)) (sym c.in_ok-before.ensures.entries) (kebabs-insert c.args.name c.args.state c.self.inside.map.entries c.self.invariant c.requires.kebab)

pub returns-clause-new : goal.returns-clause-new
returns-clause-new c = new-name c.args.name c.args.self.now c.self.inside.map.entries c.is_none.result c.self.view_is (ap is_some (sym c.in_ok-before.ensures.old) ∙ c.is_none.ensures)

pub returns-clause-added : goal.returns-clause-added
returns-clause-added c = λ new.
    let none : get string_eq c.self.inside.map c.args.name ≡ None = sym c.in_ok-before.ensures.old ∙ nothing c.in_ok-before.before c.is_none.result c.is_none.ensures new in
    ap namespace_entries (c.in_ok-before.ensures.entries ∙ insert_entry-new string_eq c.self.inside.map c.args.name c.args.state none)
    ∙ named-push c.args.name c.args.state c.self.inside.map.entries
    ∙ ap (λ rs. rs ++ (string_bytes c.args.name, namespace_view c.args.state) ∷ []) c.self.view_is

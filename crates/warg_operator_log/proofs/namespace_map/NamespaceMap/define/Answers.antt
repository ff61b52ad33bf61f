use Rattle.std.proofs.Common.{◌≡◌, sym, ap, ◌∙◌, rules, true, false, not}
use Rattle.std.specs.Prelude.{string_bytes, Some, None, is_none}
use Rattle.std.specs.Option.{option_map, option_or}
use Rattle.warg_log.specs.Rules.{LogOffence}
use Rattle.warg_log.specs.Offences.{unless}
use Rattle.warg_registry.specs.KebabNames.{is_kebab_name}
use Rattle.warg_operator_log.specs.Namespaces.{NamespaceAlreadyDefined, InvalidNamespace, names, names_over}
use Rattle.warg_operator_log.specs.NamespaceMap.{namespace_view}
use Rattle.warg_operator_log.proofs.NamespaceLemmas.{known-as, over-there, over-noted, over-missing}
use Rattle.warg_operator_log.proofs.namespace_map.NamespaceMap.define.Goals as goal
use Rattle.warg_operator_log.proofs.namespace_map.NamespaceMap.define.Goals.{then-is_some-via-then-is_some, then-is_some-via-else-is_some+in_ok-clone-2+in_ok-put+then-not-branch}

pub returns-then-is_some-clause-judges : goal.returns-then-is_some-clause-judges
returns-then-is_some-clause-judges c =
    let n = string_bytes c.args.name.now in
    let self = c.args.self.now in
    let changes = c.args.changes.now in
    let kebab : is_kebab_name n ≡ true = search rules in
    let stood = known-as (λ x. x.now) namespace_view c.get.result (names self n) (c.get.ensures.value ∙ ap (names self) c.as_str-2.ensures.value) ∙ ap not (sym c.is_some.ensures) in
    let known : is_none (names_over self changes n) ≡ false = elim c.then-is_some.branch [
      | then-is_some-via-then-is_some w ↦ over-there n self changes (stood ∙ ap not w.if-is_some.true)
      | then-is_some-via-else-is_some+in_ok-clone-2+in_ok-put+then-not-branch w ↦ over-noted n self changes (ap (λ m. is_none (names changes m)) (sym w.in_ok-clone-2.ensures.cases) ∙ sym w.in_ok-put.ensures.new ∙ w.if-not-branch.true)
    ] in
    (λ i. option_map LogOffence.Own (option_or (unless (kebab i) (InvalidNamespace n)) (unless (known i) (NamespaceAlreadyDefined n))))
    ∙ ap (λ m. Some (LogOffence.Own (NamespaceAlreadyDefined m))) (sym c.in_ok-clone-3.ensures.cases)

pub returns-clause-judges : goal.returns-clause-judges
returns-clause-judges c =
    let n = string_bytes c.args.name.now in
    let self = c.args.self.now in
    let changes = c.args.changes.now in
    let kebab : is_kebab_name n ≡ true = search rules in
    let stood = known-as (λ x. x.now) namespace_view c.get.result (names self n) (c.get.ensures.value ∙ ap (names self) c.as_str-2.ensures.value) ∙ ap not (sym c.is_some.ensures ∙ c.if-is_some.false) in
    let noted = ap (λ m. is_none (names changes m)) (sym c.in_ok-clone-2.ensures.cases) ∙ sym c.in_ok-put.ensures.new ∙ c.if-not-branch.false in
    let none : names_over self changes n ≡ None = over-missing n self changes stood noted in
    λ i. option_map LogOffence.Own (option_or (unless (kebab i) (InvalidNamespace n)) (unless (is_none (none i)) (NamespaceAlreadyDefined n)))

use Rattle.std.proofs.Common.{ap, append_assoc, ◌++◌, ◌∙◌, refl, string_bytes, subst}
use Rattle.std.proofs.lemmas.Result.{on_ok_weaker}
use Rattle.warg_protocol.specs.Operator.{View, permission_text, view_of}
use Rattle.tool_answers.specs.ShownWords.{ShowsNamespaces, key_lines, namespace_lines}
use Rattle.tool_answers.proofs.operator_log.LogStateToolLog.push_state.Goals as goal

pub returns : goal.returns
returns c = λ records stands.
    let keys = key_lines permission_text c.keys.result in
    let names = namespace_lines c.namespaces.result in
    let text = keys ++ names in
    let shown : ShowsNamespaces (view_of c.args.self.now) text = record {
      keys = c.keys.result;
      are_keys = c.keys.ensures;
      namespaces = c.namespaces.result;
      named = c.namespaces.ensures.named;
      once = c.namespaces.ensures.distinct;
      is = refl;
    } in
    on_ok_weaker c.push_namespace_lines.result
    (λ is. (
      text,
      subst (λ (view : View). ShowsNamespaces view text) stands shown,
      is ∙ ap (λ text. text ++ names) c.in_ok-push_key_lines.ensures ∙ append_assoc (string_bytes c.args.text.now) keys names,
    ))
    c.push_namespace_lines.ensures

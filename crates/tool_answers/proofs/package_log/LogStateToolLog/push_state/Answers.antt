use Rattle.std.proofs.Common.{List, ap, append_assoc, ◌++◌, ◌∙◌, refl, string_bytes, subst}
use Rattle.std.proofs.lemmas.Result.{on_ok_weaker}
use Rattle.warg_protocol.specs.Package.{ReleaseView, View, permission_text, view_of}
use Rattle.tool_answers.specs.ShownWords.{AreReleaseLines, ShowsReleases, key_lines}
use Rattle.tool_answers.proofs.package_log.LogStateToolLog.push_state.Goals as goal

pub returns : goal.returns
returns c = λ records stands.
    let keys = key_lines permission_text c.keys.result in
    on_ok_weaker c.push_release_lines.result
    (λ more.
    let text = keys ++ more.0 in
    let shown : ShowsReleases (view_of c.args.self.now) text = record {
      keys = c.keys.result;
      are_keys = c.keys.ensures;
      releases = more.0;
      are_releases = subst (λ (list : List ReleaseView). AreReleaseLines list more.0) c.releases.ensures.list more.1;
      is = refl;
    } in (
      text,
      subst (λ (view : View). ShowsReleases view text) stands shown,
      more.2 ∙ ap (λ text. text ++ more.0) c.in_ok-push_key_lines.ensures ∙ append_assoc (string_bytes c.args.text.now) keys more.0,
    ))
    c.push_release_lines.ensures

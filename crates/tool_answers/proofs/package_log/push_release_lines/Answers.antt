use Rattle.std.proofs.Common.{◌≡◌, List, [], ap, append-nil, append_assoc, ◌++◌, ◌∙◌, refl, rules, string_bytes, subst, sym}
use Rattle.warg_protocol.specs.Package.{ReleaseView}
use Rattle.tool_answers.specs.ShownWords.{AreReleaseLines}
use Rattle.tool_answers.proofs.ShownWordLemmas.{release_end, release_more}
use Rattle.tool_answers.proofs.package_log.push_release_lines.Goals as goal

pub loop-release-init : goal.loop-release-init
loop-release-init c =
    let same : c.into_iter-release-iterator.result ≡ c.args.releases = search rules in
    ([], λ rest are. subst (λ (list : List ReleaseView). AreReleaseLines list rest) same are, sym (append-nil (string_bytes c.args.text.now)))

pub loop-release-preserved : goal.loop-release-preserved
loop-release-preserved c =
    let so_far = c.loop-release.invariant in
    let line = string_bytes c.in_ok-line.line in (
      so_far.0 ++ line,
      release_more _ _ c.args.releases _ so_far.0 line _ c.in-Some.ensures.steps c.in_ok-line.ensures refl so_far.1,
      c.in_ok-push_str.ensures.bytes ∙ ap (λ line. string_bytes c.loop-release.text ++ line) c.as_str.ensures.value
          ∙ ap (λ text. text ++ line) so_far.2 ∙ append_assoc (string_bytes c.args.text.now) so_far.0 line,
    )

pub returns : goal.returns
returns c =
    let all = c.loop-release.invariant in
    (all.0, release_end _ c.args.releases all.0 c.in-None.ensures.steps.0 all.1, all.2)

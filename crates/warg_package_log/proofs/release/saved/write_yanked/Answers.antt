use Rattle.std.proofs.Common.{◌++◌, ap, ◌∙◌, string_bytes}
use Rattle.warg_saved_states.specs.Writes.{tokens_of}
use Rattle.warg_package_log.proofs.ReleaseTokens.{yanked_object, yanked_whole}
use Rattle.warg_saved_states.specs.WriteLaws.{after, nothing}
use Rattle.warg_package_log.proofs.release.saved.write_yanked.Goals as goal

pub returns : goal.returns
returns c =
    let out = c.args.out.now in
    let by = c.args.by.now in
    let time = string_bytes c.in_ok-time.time in
    let a = after out _ _ _ _ _ (nothing out) c.in_ok-begin_object.ensures in
    let b = after out _ _ _ _ _ a c.in_ok-key.ensures in
    let d = after out _ _ _ _ _ b c.in_ok-string.ensures in
    let e = after out _ _ _ _ _ d c.in_ok-key-2.ensures in
    let f = after out _ _ _ _ _ e c.in_ok-string-2.ensures in
    let h = after out _ _ _ _ _ f c.in_ok-key-3.ensures in
    let i = after out _ _ _ _ _ h c.in_ok-string-3.ensures in
    let j = after out _ _ _ _ _ i c.in_ok-end_object.ensures in (
      yanked_object by time,
      yanked_whole by c.args.timestamp.now time c.in_ok-time.ensures.text,
      (
        j.0,
        j.1 ∙ ap (λ id. out.tokens ++ tokens_of (yanked_object id c.as_str-2.result.now)) c.as_str.ensures
            ∙ ap (λ text. out.tokens ++ tokens_of (yanked_object by text)) c.as_str-2.ensures.value,
      ),
    )

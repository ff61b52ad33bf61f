use Rattle.std.proofs.Common.{◌++◌, ap, ◌∙◌, string_bytes}
use Rattle.semver.specs.Identifiers.{parts_text}
use Rattle.warg_crypto.specs.HashText.{hash_text}
use Rattle.warg_saved_states.specs.WriteLaws.{after, after_all, nothing}
use Rattle.warg_saved_states.specs.Writes.{tokens_of}
use Rattle.warg_package_log.specs.ReleaseMap.{release_view}
use Rattle.warg_package_log.proofs.ReleaseTokens.{release_object, release_whole}
use Rattle.warg_package_log.proofs.release.saved.write_release.Goals as goal

pub returns : goal.returns
returns c =
    let out = c.args.out.now in
    let release = release_view c.args.release.now in
    let time = string_bytes c.in_ok-time.time in
    let state = c.in_ok-write_state.ensures in
    let a = after out _ _ _ _ _ (nothing out) c.in_ok-begin_object.ensures in
    let b = after out _ _ _ _ _ a c.in_ok-key.ensures in
    let d = after out _ _ _ _ _ b c.in_ok-string.ensures in
    let e = after out _ _ _ _ _ d c.in_ok-key-2.ensures in
    let f = after out _ _ _ _ _ e c.in_ok-string-2.ensures in
    let h = after out _ _ _ _ _ f c.in_ok-key-3.ensures in
    let inner = c.write_state.new.out in
    let i = after inner _ _ _ _ _ (nothing inner) c.in_ok-key-4.ensures in
    let j = after inner _ _ _ _ _ i c.in_ok-string-3.ensures in
    let k = after inner _ _ _ _ _ j c.in_ok-key-5.ensures in
    let l = after inner _ _ _ _ _ k c.in_ok-string-4.ensures in
    let m = after inner _ _ _ _ _ l c.in_ok-end_object.ensures in
    let last = c.end_object.new.self in
    let whole = after_all out c.key-3.new.self last _ _ h (after_all c.key-3.new.self inner last _ _ state.2 m) in
    let by = c.as_str.result.now in
    let id = c.write_text.result.now in
    let at = c.as_str-2.result.now in
    let number = c.as_str-3.result.now in
    let record_id = hash_text release.record_id.hash in
    let version = parts_text release.version in (
      release_object release.by record_id state.0 time version,
      release_whole release time state.0 c.in_ok-time.ensures.text state.1,
      (
        whole.0,
        whole.1
            ∙ ap (λ t. out.tokens ++ tokens_of (release_object t id state.0 at number)) c.as_str.ensures
            ∙ ap (λ t. out.tokens ++ tokens_of (release_object release.by t state.0 at number)) (c.write_text.ensures ∙ ap hash_text c.from.ensures)
            ∙ ap (λ t. out.tokens ++ tokens_of (release_object release.by record_id state.0 t number)) c.as_str-2.ensures.value
            ∙ ap (λ t. out.tokens ++ tokens_of (release_object release.by record_id state.0 time t)) (c.as_str-3.ensures.value ∙ c.in_ok-version.ensures.ok),
      ),
    )

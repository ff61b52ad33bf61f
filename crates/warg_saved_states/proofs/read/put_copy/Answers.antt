use Rattle.std.proofs.Common.{◌≡◌, string_bytes, ap, ◌∙◌, rules}
use Rattle.serde_json.specs.Data.{put}
use Rattle.serde_json.specs.View.{members_view, view}
use Rattle.serde_json.proofs.Views.{members_view-insert_entry}
use Rattle.warg_saved_states.proofs.read.put_copy.Goals as goal

pub returns-clause-ok : goal.returns-clause-ok
returns-clause-ok c =
    let old = c.args.found.now.entries in
    let copied : string_bytes c.in_ok-name.name ≡ c.args.name.now = search rules in
    ap members_view c.in_ok-insert.ensures.entries ∙ members_view-insert_entry old c.in_ok-name.name c.args.value ∙ ap (λ n. put n (view c.args.value) (members_view old)) copied

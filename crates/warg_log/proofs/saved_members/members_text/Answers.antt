use Rattle.std.proofs.Common.{refl, sym, ◌∙◌, List, ℕ, subst, string_bytes}
use Rattle.std.proofs.lemmas.Result.{err_from_is_err_and}
use Rattle.std.specs.Option.{option_map}
use Rattle.warg_crypto.specs.Json.Pairs.{plain_pairs}
use Rattle.warg_saved_states.specs.Backs.{AreBack}
use Rattle.warg_saved_states.specs.MapNames.{text_name, text_named}
use Rattle.warg_saved_states.specs.SavedPermissions.{permissions_in, permissions_json}
use Rattle.warg_saved_states.proofs.CanonicalTexts.{gives_reads}
use Rattle.warg_saved_states.proofs.MapsBack.{always, no_versions}
use Rattle.warg_saved_states.proofs.Optional.{same_option}
use Rattle.warg_saved_states.proofs.TextSteps.{gives_text}
use Rattle.warg_saved_states.specs.CanonicalLaws.{texts_canonical}
use Rattle.warg_log.specs.SavedMembers.{saved_json}
use Rattle.warg_log.proofs.SavedMembers as saved
use Rattle.warg_log.proofs.saved_members.members_text.Goals as goal

pub returns-in_err-put_optional-clause-written : goal.returns-in_err-put_optional-clause-written
returns-in_err-put_optional-clause-written g c =
    let s = c.args.log.now in
    let p = err_from_is_err_and c.from_residual.result c.from_residual.ensures.1 in
    rw (p.1, p.2) (saved.moved
    (saved.same_json (permissions_json g.M.Permission.LogPermission.text_of) c.args.first.now g.K.SavedName.name_of g.V.SavedValue.writes c.args.second.now g.L.SavedName.name_of g.W.SavedValue.writes (plain_pairs g.K.SavedName.plain g.V.SavedValue.plain c.args.firsts.now.entries) (plain_pairs g.L.SavedName.plain g.W.SavedValue.plain c.args.seconds.now.entries)
    (same_option c.algorithm.result.now ∙ c.algorithm.ensures) (refl {a = s.head}) (refl {a = s.authority.rights})) _
    (saved.algorithm_fault (permissions_json g.M.Permission.LogPermission.text_of) c.args.first.now g.K.SavedName.name_of g.V.SavedValue.writes c.args.second.now g.L.SavedName.name_of g.W.SavedValue.writes
    (option_map (λ a. a) c.algorithm.result.now) s.head s.authority.rights (plain_pairs g.K.SavedName.plain g.V.SavedValue.plain c.args.firsts.now.entries) (plain_pairs g.L.SavedName.plain g.W.SavedValue.plain c.args.seconds.now.entries)
    _ c.new-members.ensures _ c.in_err-put_optional.ensures.written))

pub returns-in_err-put_head_text-clause-written : goal.returns-in_err-put_head_text-clause-written
returns-in_err-put_head_text-clause-written g c =
    let s = c.args.log.now in
    let p = err_from_is_err_and c.from_residual-in_err-put_head_text.result c.from_residual-in_err-put_head_text.ensures.1 in
    rw (p.1, p.2) (saved.moved
    (saved.same_json (permissions_json g.M.Permission.LogPermission.text_of) c.args.first.now g.K.SavedName.name_of g.V.SavedValue.writes c.args.second.now g.L.SavedName.name_of g.W.SavedValue.writes (plain_pairs g.K.SavedName.plain g.V.SavedValue.plain c.args.firsts.now.entries) (plain_pairs g.L.SavedName.plain g.W.SavedValue.plain c.args.seconds.now.entries)
    (same_option c.algorithm.result.now ∙ c.algorithm.ensures) c.head.ensures.value (refl {a = s.authority.rights})) _
    (saved.head_fault (permissions_json g.M.Permission.LogPermission.text_of) c.args.first.now g.K.SavedName.name_of g.V.SavedValue.writes c.args.second.now g.L.SavedName.name_of g.W.SavedValue.writes
    (option_map (λ a. a) c.algorithm.result.now) c.head.result.now s.authority.rights (plain_pairs g.K.SavedName.plain g.V.SavedValue.plain c.args.firsts.now.entries) (plain_pairs g.L.SavedName.plain g.W.SavedValue.plain c.args.seconds.now.entries)
    _ c.new-members.ensures _ c.in_ok-put_optional.ensures.written _ c.in_err-put_head_text.ensures.written))

pub returns-in_err-put_map-clause-written : goal.returns-in_err-put_map-clause-written
returns-in_err-put_map-clause-written g c =
    let s = c.args.log.now in
    let p = err_from_is_err_and c.from_residual-in_err-put_map.result c.from_residual-in_err-put_map.ensures.1 in
    rw (p.1, p.2) (saved.moved
    (saved.same_json (permissions_json g.M.Permission.LogPermission.text_of) c.args.first.now g.K.SavedName.name_of g.V.SavedValue.writes c.args.second.now g.L.SavedName.name_of g.W.SavedValue.writes (plain_pairs g.K.SavedName.plain g.V.SavedValue.plain c.args.firsts.now.entries) (plain_pairs g.L.SavedName.plain g.W.SavedValue.plain c.args.seconds.now.entries)
    (same_option c.algorithm.result.now ∙ c.algorithm.ensures) c.head.ensures.value c.permissions.ensures.plain) _
    (saved.rights_fault (permissions_json g.M.Permission.LogPermission.text_of) c.args.first.now g.K.SavedName.name_of g.V.SavedValue.writes c.args.second.now g.L.SavedName.name_of g.W.SavedValue.writes
    (option_map (λ a. a) c.algorithm.result.now) c.head.result.now (plain_pairs (λ id. id) (λ set. set) c.permissions.result.now.entries) (plain_pairs g.K.SavedName.plain g.V.SavedValue.plain c.args.firsts.now.entries) (plain_pairs g.L.SavedName.plain g.W.SavedValue.plain c.args.seconds.now.entries)
    _ c.new-members.ensures _ c.in_ok-put_optional.ensures.written _ c.in_ok-put_head_text.ensures.written _ c.in_err-put_map.ensures.written))

pub returns-in_err-put_map-2-clause-written : goal.returns-in_err-put_map-2-clause-written
returns-in_err-put_map-2-clause-written g c =
    let s = c.args.log.now in
    let p = err_from_is_err_and c.from_residual-in_err-put_map-2.result c.from_residual-in_err-put_map-2.ensures.1 in
    rw (p.1, p.2) (saved.moved
    (saved.same_json (permissions_json g.M.Permission.LogPermission.text_of) c.args.first.now g.K.SavedName.name_of g.V.SavedValue.writes c.args.second.now g.L.SavedName.name_of g.W.SavedValue.writes (plain_pairs g.K.SavedName.plain g.V.SavedValue.plain c.args.firsts.now.entries) (plain_pairs g.L.SavedName.plain g.W.SavedValue.plain c.args.seconds.now.entries)
    (same_option c.algorithm.result.now ∙ c.algorithm.ensures) c.head.ensures.value c.permissions.ensures.plain) _
    (saved.first_fault (permissions_json g.M.Permission.LogPermission.text_of) c.args.first.now g.K.SavedName.name_of g.V.SavedValue.writes c.args.second.now g.L.SavedName.name_of g.W.SavedValue.writes
    (option_map (λ a. a) c.algorithm.result.now) c.head.result.now (plain_pairs (λ id. id) (λ set. set) c.permissions.result.now.entries) (plain_pairs g.K.SavedName.plain g.V.SavedValue.plain c.args.firsts.now.entries) (plain_pairs g.L.SavedName.plain g.W.SavedValue.plain c.args.seconds.now.entries)
    _ c.new-members.ensures _ c.in_ok-put_optional.ensures.written _ c.in_ok-put_head_text.ensures.written _ c.in_ok-put_map.ensures.written _ c.in_err-put_map-2.ensures.written))

pub returns-in_err-put_map-3-clause-written : goal.returns-in_err-put_map-3-clause-written
returns-in_err-put_map-3-clause-written g c =
    let s = c.args.log.now in
    let p = err_from_is_err_and c.from_residual-in_err-put_map-3.result c.from_residual-in_err-put_map-3.ensures.1 in
    rw (p.1, p.2) (saved.moved
    (saved.same_json (permissions_json g.M.Permission.LogPermission.text_of) c.args.first.now g.K.SavedName.name_of g.V.SavedValue.writes c.args.second.now g.L.SavedName.name_of g.W.SavedValue.writes (plain_pairs g.K.SavedName.plain g.V.SavedValue.plain c.args.firsts.now.entries) (plain_pairs g.L.SavedName.plain g.W.SavedValue.plain c.args.seconds.now.entries)
    (same_option c.algorithm.result.now ∙ c.algorithm.ensures) c.head.ensures.value c.permissions.ensures.plain) _
    (saved.second_fault (permissions_json g.M.Permission.LogPermission.text_of) c.args.first.now g.K.SavedName.name_of g.V.SavedValue.writes c.args.second.now g.L.SavedName.name_of g.W.SavedValue.writes
    (option_map (λ a. a) c.algorithm.result.now) c.head.result.now (plain_pairs (λ id. id) (λ set. set) c.permissions.result.now.entries) (plain_pairs g.K.SavedName.plain g.V.SavedValue.plain c.args.firsts.now.entries) (plain_pairs g.L.SavedName.plain g.W.SavedValue.plain c.args.seconds.now.entries)
    _ c.new-members.ensures _ c.in_ok-put_optional.ensures.written _ c.in_ok-put_head_text.ensures.written _ c.in_ok-put_map.ensures.written _ c.in_ok-put_map-2.ensures.written _ c.in_err-put_map-3.ensures.written))

pub returns-clause-written : goal.returns-clause-written
returns-clause-written g c =
    let s = c.args.log.now in
    let all = saved.all_put (permissions_json g.M.Permission.LogPermission.text_of) c.args.first.now g.K.SavedName.name_of g.V.SavedValue.writes c.args.second.now g.L.SavedName.name_of g.W.SavedValue.writes
    (option_map (λ a. a) c.algorithm.result.now) c.head.result.now (plain_pairs (λ id. id) (λ set. set) c.permissions.result.now.entries) (plain_pairs g.K.SavedName.plain g.V.SavedValue.plain c.args.firsts.now.entries) (plain_pairs g.L.SavedName.plain g.W.SavedValue.plain c.args.seconds.now.entries)
    _ c.new-members.ensures _ c.in_ok-put_optional.ensures.written _ c.in_ok-put_head_text.ensures.written _ c.in_ok-put_map.ensures.written _ c.in_ok-put_map-2.ensures.written _ c.in_ok-put_map-3.ensures.written in
    let same = saved.same_json (permissions_json g.M.Permission.LogPermission.text_of) c.args.first.now g.K.SavedName.name_of g.V.SavedValue.writes c.args.second.now g.L.SavedName.name_of g.W.SavedValue.writes (plain_pairs g.K.SavedName.plain g.V.SavedValue.plain c.args.firsts.now.entries) (plain_pairs g.L.SavedName.plain g.W.SavedValue.plain c.args.seconds.now.entries)
    (same_option c.algorithm.result.now ∙ c.algorithm.ensures) c.head.ensures.value c.permissions.ensures.plain in
    gives_text c.text.result _ _ all.members c.text.ensures.ok c.text.ensures.err (sym same ∙ all.is) all.are

pub returns-clause-read : goal.returns-clause-read
returns-clause-read g c =
    let s = c.args.log.now in
    let json = saved_json (permissions_json g.M.Permission.LogPermission.text_of) c.args.first.now g.K.SavedName.name_of g.V.SavedValue.writes c.args.second.now g.L.SavedName.name_of g.W.SavedValue.writes s.authority.algorithm s.head s.authority.rights (plain_pairs g.K.SavedName.plain g.V.SavedValue.plain c.args.firsts.now.entries) (plain_pairs g.L.SavedName.plain g.W.SavedValue.plain c.args.seconds.now.entries) in
    gives_reads string_bytes c.text.result json
    (saved.saved_canonical (permissions_json g.M.Permission.LogPermission.text_of) c.args.first.now g.K.SavedName.name_of g.V.SavedValue.writes c.args.second.now g.L.SavedName.name_of g.W.SavedValue.writes s.authority.algorithm s.head s.authority.rights (plain_pairs g.K.SavedName.plain g.V.SavedValue.plain c.args.firsts.now.entries) (plain_pairs g.L.SavedName.plain g.W.SavedValue.plain c.args.seconds.now.entries)
    c.head.ensures.coherent.versioned (λ ps. texts_canonical 124 g.M.Permission.LogPermission.text_of ps) g.V.SavedValue.canonical g.W.SavedValue.canonical)
    (returns-clause-written g c)

pub returns-clause-coherent : goal.returns-clause-coherent
returns-clause-coherent g c = always c.text.result c.head.ensures.coherent

pub returns-clause-head : goal.returns-clause-head
returns-clause-head g c = always c.text.result (λ h at. c.in_ok-put_head_text.ensures.back h (c.head.ensures.value ∙ at))

pub returns-clause-rights : goal.returns-clause-rights
returns-clause-rights g c = always c.text.result
    (subst (λ (es : List (List ℕ × List _)). AreBack text_name text_named (permissions_json g.M.Permission.LogPermission.text_of) (permissions_in g.M.Permission.PartialEq.eq g.M.Permission.LogPermission.permission_named) es)
    c.permissions.ensures.plain (c.in_ok-put_map.ensures.back (no_versions _)))

pub returns-clause-firsts : goal.returns-clause-firsts
returns-clause-firsts g c = always c.text.result c.in_ok-put_map-2.ensures.back

pub returns-clause-seconds : goal.returns-clause-seconds
returns-clause-seconds g c = always c.text.result c.in_ok-put_map-3.ensures.back

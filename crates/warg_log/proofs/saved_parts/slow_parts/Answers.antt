use Rattle.std.proofs.lemmas.Result.{err_from_is_err_and}
use Rattle.warg_crypto.specs.Json.Pairs.{plain_pairs}
use Rattle.warg_saved_states.specs.SavedPermissions.{permissions_in}
use Rattle.warg_log.proofs.SavedTexts.{begun_fault, firsts_fault, parts_read, rights_fault, seconds_fault}
use Rattle.warg_log.proofs.saved_parts.slow_parts.Goals as goal

pub returns-in_err-algorithm : goal.returns-in_err-algorithm
returns-in_err-algorithm g c =
    let p = err_from_is_err_and c.from_residual.result c.from_residual.ensures.1 in
    rw (p.1, p.2) (begun_fault (permissions_in g.P.PartialEq.eq g.P.LogPermission.permission_named) c.args.first.now g.K.SavedName.key_named g.V.SavedValue.reads c.args.second.now g.L.SavedName.key_named g.W.SavedValue.reads c.args.text.now
    c.in_err-algorithm.field-0.0 c.in_err-algorithm.ensures)

pub returns-in_err-rights : goal.returns-in_err-rights
returns-in_err-rights g c =
    let p = err_from_is_err_and c.from_residual-in_err-rights.result c.from_residual-in_err-rights.ensures.1 in
    rw (p.1, p.2) (rights_fault (permissions_in g.P.PartialEq.eq g.P.LogPermission.permission_named) c.args.first.now g.K.SavedName.key_named g.V.SavedValue.reads c.args.second.now g.L.SavedName.key_named g.W.SavedValue.reads c.args.text.now
    (c.in_ok-algorithm.algorithm, c.in_ok-algorithm.head) c.in_ok-algorithm.ensures
    c.in_err-rights.field-0.0 c.in_err-rights.ensures)

pub returns-in_err-firsts : goal.returns-in_err-firsts
returns-in_err-firsts g c =
    let p = err_from_is_err_and c.from_residual-in_err-firsts.result c.from_residual-in_err-firsts.ensures.1 in
    rw (p.1, p.2) (firsts_fault (permissions_in g.P.PartialEq.eq g.P.LogPermission.permission_named) c.args.first.now g.K.SavedName.key_named g.V.SavedValue.reads c.args.second.now g.L.SavedName.key_named g.W.SavedValue.reads c.args.text.now
    (c.in_ok-algorithm.algorithm, c.in_ok-algorithm.head) c.in_ok-algorithm.ensures
    (plain_pairs (λ id. id) (λ set. set) c.in_ok-rights.rights.entries) c.in_ok-rights.ensures
    c.in_err-firsts.field-0.0 c.in_err-firsts.ensures)

pub returns-in_err-seconds : goal.returns-in_err-seconds
returns-in_err-seconds g c =
    let p = err_from_is_err_and c.from_residual-in_err-seconds.result c.from_residual-in_err-seconds.ensures.1 in
    rw (p.1, p.2) (seconds_fault (permissions_in g.P.PartialEq.eq g.P.LogPermission.permission_named) c.args.first.now g.K.SavedName.key_named g.V.SavedValue.reads c.args.second.now g.L.SavedName.key_named g.W.SavedValue.reads c.args.text.now
    (c.in_ok-algorithm.algorithm, c.in_ok-algorithm.head) c.in_ok-algorithm.ensures
    (plain_pairs (λ id. id) (λ set. set) c.in_ok-rights.rights.entries) c.in_ok-rights.ensures
    (plain_pairs g.K.SavedName.plain g.V.SavedValue.plain c.in_ok-firsts.firsts.entries) c.in_ok-firsts.ensures
    c.in_err-seconds.field-0.0 c.in_err-seconds.ensures)

pub returns : goal.returns
returns g c =
    parts_read (permissions_in g.P.PartialEq.eq g.P.LogPermission.permission_named) c.args.first.now g.K.SavedName.key_named g.V.SavedValue.reads c.args.second.now g.L.SavedName.key_named g.W.SavedValue.reads c.args.text.now
    (c.in_ok-algorithm.algorithm, c.in_ok-algorithm.head) c.in_ok-algorithm.ensures
    (plain_pairs (λ id. id) (λ set. set) c.in_ok-rights.rights.entries) c.in_ok-rights.ensures
    (plain_pairs g.K.SavedName.plain g.V.SavedValue.plain c.in_ok-firsts.firsts.entries) c.in_ok-firsts.ensures
    (plain_pairs g.L.SavedName.plain g.W.SavedValue.plain c.in_ok-seconds.seconds.entries) c.in_ok-seconds.ensures

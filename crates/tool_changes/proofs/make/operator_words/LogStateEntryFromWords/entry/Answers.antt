use Rattle.std.proofs.Common.{inl, inr}
use Rattle.std.proofs.lemmas.Result.{err_from_is_err_and}
use Rattle.warg_protocol.specs.Operator.{permission_in}
use Rattle.tool_changes.specs.Make.Entries.{SaysOperatorParts, operator_verbs}
use Rattle.tool_changes.proofs.MakeLemmas.EntryLemmas.{key_lacks, lacks_by_parts, permissions_lack, permissions_named, said_by_parts}
use Rattle.tool_changes.proofs.make.operator_words.LogStateEntryFromWords.entry.Goals as goal

pub returns-in_err-key-in-init-clause-err : goal.returns-in_err-key-in-init-clause-err
returns-in_err-key-in-init-clause-err c =
    let p = err_from_is_err_and c.from_residual-in_err-key-in-init.result c.from_residual-in_err-key-in-init.ensures.1 in
    rw (p.1, p.2)
    (lacks_by_parts c.args.words.now c.in_ok-verb.verb.now c.in_ok-verb.rest.now c.word_and_rest.result.0.now c.word_and_rest.result.1.now
    c.in_ok-verb.ensures c.word_and_rest.ensures.word c.word_and_rest.ensures.rest operator_verbs _ c.in_err-key-in-init.field-0.0
    c.in_ok-check_rest.ensures.ok
    (key_lacks permission_in _ _ c.word_and_rest.result.1.now _ (inl c.in-init.is) c.in_err-key-in-init.ensures.err))

pub returns-in_err-key-in-grant-clause-err : goal.returns-in_err-key-in-grant-clause-err
returns-in_err-key-in-grant-clause-err c =
    let p = err_from_is_err_and c.from_residual-in_err-key-in-grant.result c.from_residual-in_err-key-in-grant.ensures.1 in
    rw (p.1, p.2)
    (lacks_by_parts c.args.words.now c.in_ok-verb.verb.now c.in_ok-verb.rest.now c.word_and_rest.result.0.now c.word_and_rest.result.1.now
    c.in_ok-verb.ensures c.word_and_rest.ensures.word c.word_and_rest.ensures.rest operator_verbs _ c.in_err-key-in-grant.field-0.0
    c.in_ok-check_rest.ensures.ok
    (key_lacks permission_in _ _ c.word_and_rest.result.1.now _ (inr c.in-grant.is) c.in_err-key-in-grant.ensures.err))

pub returns-in_err-permissions-in-revoke-clause-err : goal.returns-in_err-permissions-in-revoke-clause-err
returns-in_err-permissions-in-revoke-clause-err c =
    let p = err_from_is_err_and c.from_residual-in_err-permissions-in-revoke.result c.from_residual-in_err-permissions-in-revoke.ensures.1 in
    rw (p.1, p.2)
    (lacks_by_parts c.args.words.now c.in_ok-verb.verb.now c.in_ok-verb.rest.now c.word_and_rest.result.0.now c.word_and_rest.result.1.now
    c.in_ok-verb.ensures c.word_and_rest.ensures.word c.word_and_rest.ensures.rest operator_verbs _ c.in_err-permissions-in-revoke.field-0.0
    c.in_ok-check_rest.ensures.ok
    (permissions_lack permission_in _ _ c.word_and_rest.result.1.now _ (inr c.in-revoke.is) c.in_err-permissions-in-revoke.ensures.err))

pub returns-in_ok-permissions-in-grant-clause-ok : goal.returns-in_ok-permissions-in-grant-clause-ok
returns-in_ok-permissions-in-grant-clause-ok c =
    said_by_parts c.args.words.now c.in_ok-verb.verb.now c.in_ok-verb.rest.now c.word_and_rest.result.0.now c.word_and_rest.result.1.now
    c.in_ok-verb.ensures c.word_and_rest.ensures.word c.word_and_rest.ensures.rest operator_verbs SaysOperatorParts _ c.in_ok-check_rest.ensures.ok
    (c.in-grant.is, c.in_ok-key-in-grant.ensures.ok, permissions_named permission_in _ _ c.in_ok-permissions-in-grant.ensures.ok)

pub returns-in_ok-permissions-in-revoke-clause-ok : goal.returns-in_ok-permissions-in-revoke-clause-ok
returns-in_ok-permissions-in-revoke-clause-ok c =
    said_by_parts c.args.words.now c.in_ok-verb.verb.now c.in_ok-verb.rest.now c.word_and_rest.result.0.now c.word_and_rest.result.1.now
    c.in_ok-verb.ensures c.word_and_rest.ensures.word c.word_and_rest.ensures.rest operator_verbs SaysOperatorParts _ c.in_ok-check_rest.ensures.ok
    (c.in-revoke.is, c.in_ok-key_id-in-revoke.ensures, permissions_named permission_in _ _ c.in_ok-permissions-in-revoke.ensures.ok)

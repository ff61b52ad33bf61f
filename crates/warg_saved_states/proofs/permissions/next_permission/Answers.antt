use Rattle.std.proofs.Common.{◌≡◌, ◌∷◌, ◌∙◌, ap, refl, arith}
use Rattle.std.specs.Prelude.{ok_or}
use Rattle.json.specs.Token.{Token}
use Rattle.json.specs.Reads.{token_of}
use Rattle.warg_crypto.specs.declared.json.error.JsonError.TheVariants.{BadText}
use Rattle.warg_saved_states.specs.SavedPermissions.{permission_in}
use Rattle.warg_saved_states.proofs.FirstTokens.{begins_no_text, empty_refused, no_text, passed_refused, string_next, wrong_next}
use Rattle.warg_saved_states.proofs.PermissionItems.{named_or_bad}
use Rattle.warg_saved_states.proofs.permissions.next_permission.Goals as goal

pub returns-in_default : goal.returns-in_default
returns-in_default g c same = empty_refused c.args.depth c.args.reader.now (grind arith)

pub returns-in-String : goal.returns-in-String
returns-in-String g c =
    let text = c.in-String.text.now in
    let first : c.args.reader.now ≡ token_of c.in-Some.token ∷ c.next.new.self = grind arith in
    let is : c.args.reader.now ≡ Token.string text ∷ c.next.new.self = grind (arith, first) in
    string_next (λ p. p) (permission_in g.P.PartialEq.eq g.P.LogPermission.permission_named) c.args.depth c.args.reader.now c.next.new.self text c.ok_or.result is
    (named_or_bad (g.P.LogPermission.permission_named text) c.ok_or.result (c.ok_or.ensures.value ∙ ap (λ o. ok_or o BadText) c.from_text.ensures))

pub returns-in-Ok : goal.returns-in-Ok
returns-in-Ok g c =
    let first : c.args.reader.now ≡ token_of c.in-Some.token ∷ c.next.new.self = grind arith in
    wrong_next (λ p. p) (permission_in g.P.PartialEq.eq g.P.LogPermission.permission_named) c.args.depth 3 c.args.reader.now c.next.new.self c.pass_from.new.reader (token_of c.in-Some.token)
    (λ d other. rw (no_text d other) refl) (begins_no_text c.in-Some.token c.in_default-token.not-String) first c.in-Ok.ensures.value c.in-Ok.ensures.shorter

pub returns-in-Err : goal.returns-in-Err
returns-in-Err g c same =
    let first : c.args.reader.now ≡ token_of c.in-Some.token ∷ c.next.new.self = grind arith in
    passed_refused c.args.depth c.args.reader.now c.next.new.self (token_of c.in-Some.token) first c.in-Err.ensures.value

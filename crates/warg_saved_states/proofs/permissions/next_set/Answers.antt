use Rattle.std.proofs.Common.{◌≡◌, ◌∷◌, ◌∙◌, ap, refl, arith}
use Rattle.json.specs.Token.{Token}
use Rattle.json.specs.Reads.{token_of}
use Rattle.warg_saved_states.specs.SavedPermissions.{permissions_in}
use Rattle.warg_saved_states.proofs.FirstTokens.{array_too_deep, begins_no_array, empty_refused, no_array, passed_refused, wrong_next}
use Rattle.warg_saved_states.proofs.OneMember.{array_whole}
use Rattle.warg_saved_states.proofs.permissions.next_set.Goals as goal

pub returns-in_default : goal.returns-in_default
returns-in_default g c same = empty_refused c.args.depth c.args.reader.now (grind arith)

pub returns-then-depth-eq0 : goal.returns-then-depth-eq0
returns-then-depth-eq0 g c same =
    let first : c.args.reader.now ≡ token_of c.in-Some.token ∷ c.next.new.self = grind arith in
    array_too_deep c.args.depth c.args.reader.now c.next.new.self (omega arith) (first ∙ ap (λ t. token_of t ∷ c.next.new.self) c.in-BeginArray.is)

pub returns-in-BeginArray : goal.returns-in-BeginArray
returns-in-BeginArray g c =
    let first : c.args.reader.now ≡ token_of c.in-Some.token ∷ c.next.new.self = grind arith in
    array_whole (λ s. s.keys) (permissions_in g.P.PartialEq.eq g.P.LogPermission.permission_named) c.args.depth c.args.reader.now c.next.new.self c.next_permissions.new.reader c.next_permissions.result
    (omega arith) (first ∙ ap (λ t. token_of t ∷ c.next.new.self) c.in-BeginArray.is) c.next_permissions.ensures

pub returns-in-Ok : goal.returns-in-Ok
returns-in-Ok g c =
    let first : c.args.reader.now ≡ token_of c.in-Some.token ∷ c.next.new.self = grind arith in
    wrong_next (λ s. s.keys) (permissions_in g.P.PartialEq.eq g.P.LogPermission.permission_named) c.args.depth 4 c.args.reader.now c.next.new.self c.pass_from.new.reader (token_of c.in-Some.token)
    (λ d other. rw (no_array d other) refl) (begins_no_array c.in-Some.token c.in_default-token.not-BeginArray) first c.in-Ok.ensures.value c.in-Ok.ensures.shorter

pub returns-in-Err : goal.returns-in-Err
returns-in-Err g c same =
    let first : c.args.reader.now ≡ token_of c.in-Some.token ∷ c.next.new.self = grind arith in
    passed_refused c.args.depth c.args.reader.now c.next.new.self (token_of c.in-Some.token) first c.in-Err.ensures.value

use Rattle.std.proofs.Common.{◌≡◌, ◌∷◌, ◌∙◌, ap, refl, arith}
use Rattle.json.specs.Token.{Token}
use Rattle.json.specs.Reads.{token_of}
use Rattle.warg_crypto.specs.Json.Pairs.{pairs_in, plain_pairs}
use Rattle.warg_saved_states.proofs.FirstTokens.{begins_no_object, empty_refused, no_object, object_too_deep, passed_refused, wrong_next}
use Rattle.warg_saved_states.proofs.OneMember.{object_whole}
use Rattle.warg_saved_states.proofs.read_map.next_map.Goals as goal

pub returns-in_default : goal.returns-in_default
returns-in_default g c same = empty_refused c.args.depth c.args.reader.now (grind arith)

pub returns-then-depth-eq0 : goal.returns-then-depth-eq0
returns-then-depth-eq0 g c same =
    let first : c.args.reader.now ≡ token_of c.in-Some.token ∷ c.next.new.self = grind arith in
    object_too_deep c.args.depth c.args.reader.now c.next.new.self (omega arith) (first ∙ ap (λ t. token_of t ∷ c.next.new.self) c.in-BeginObject.is)

pub returns-in-BeginObject : goal.returns-in-BeginObject
returns-in-BeginObject g c =
    let first : c.args.reader.now ≡ token_of c.in-Some.token ∷ c.next.new.self = grind arith in
    object_whole (λ m. plain_pairs g.K.SavedName.plain g.V.SavedValue.plain m.entries) (pairs_in g.K.SavedName.key_named g.V.SavedValue.reads) c.args.depth c.args.reader.now
    c.next.new.self c.next_map_members.new.reader c.next_map_members.result (omega arith) (first ∙ ap (λ t. token_of t ∷ c.next.new.self) c.in-BeginObject.is) c.next_map_members.ensures

pub returns-in-Ok : goal.returns-in-Ok
returns-in-Ok g c =
    let first : c.args.reader.now ≡ token_of c.in-Some.token ∷ c.next.new.self = grind arith in
    wrong_next (λ m. plain_pairs g.K.SavedName.plain g.V.SavedValue.plain m.entries) (pairs_in g.K.SavedName.key_named g.V.SavedValue.reads) c.args.depth 5 c.args.reader.now
    c.next.new.self c.pass_from.new.reader (token_of c.in-Some.token)
    (λ d other. rw (no_object d other) refl) (begins_no_object c.in-Some.token c.in_default-token.not-BeginObject) first c.in-Ok.ensures.value c.in-Ok.ensures.shorter

pub returns-in-Err : goal.returns-in-Err
returns-in-Err g c same =
    let first : c.args.reader.now ≡ token_of c.in-Some.token ∷ c.next.new.self = grind arith in
    passed_refused c.args.depth c.args.reader.now c.next.new.self (token_of c.in-Some.token) first c.in-Err.ensures.value

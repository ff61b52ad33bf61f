use Rattle.std.specs.Prelude.{Ok, Err, Result, ⊤}
use Rattle.std.proofs.Common.{subst, sym}
use Rattle.warg_crypto.specs.Json.Json.{Returns}
use Rattle.warg_crypto.specs.Time.Times.{Time}
use Rattle.warg_crypto.specs.declared.json.error.JsonError.{JsonError}
use Rattle.warg_crypto.proofs.TimeLemmas.NumberTexts.{left_bad, number_of-parsed, right_bad, sides_read}
use Rattle.warg_crypto.proofs.time.timestamp_text.sides_time.Goals as goal

pub returns-in_default : goal.returns-in_default
returns-in_default c = left_bad _ _ (number_of-parsed 64 c.args.left.now (Err c.in_default.field-0) c.in_default.ensures.value.0)

pub returns-in_default-parse : goal.returns-in_default-parse
returns-in_default-parse c =
    right_bad _ _ c.in-Ok.seconds (number_of-parsed {E = ⊤} 64 c.args.left.now (Ok c.in-Ok.seconds) c.in-Ok.ensures.value.0)
    (number_of-parsed 32 c.args.right.now (Err c.in_default-parse.field-0) c.in_default-parse.ensures.value.0)

pub returns : goal.returns
returns c =
    let left = number_of-parsed {E = ⊤} 64 c.args.left.now (Ok c.in-Ok.seconds) c.in-Ok.ensures.value.0 in
    let right = number_of-parsed {E = ⊤} 32 c.args.right.now (Ok c.in-Ok-parse.nanos) c.in-Ok-parse.ensures.value.0 in
    subst (λ (want : Result Time JsonError). Returns (λ t. t) c.carried.result want) (sym (sides_read _ _ c.in-Ok.seconds c.in-Ok-parse.nanos left right)) c.carried.ensures

use Rattle.std.proofs.Common.{◌≡◌, ◌≤◌, ◌<◌, length, arith}
use Rattle.warg_crypto.specs.Json.Pairs.{names_of}
use Rattle.serde_json.specs.View.{members_view}
use Rattle.warg_saved_states.proofs.AskedMembers.{names_len}
use Rattle.warg_saved_states.proofs.read.count_name.Goals as goal

pub returns-then-len-ge2-clause-few : goal.returns-then-len-ge2-clause-few
returns-then-len-ge2-clause-few c few =
    let es = c.args.found.now.entries in
    let two : 2 ≤ length es = grind arith in
    absurd (omega (arith, names_len es, few, two))

pub returns-clause-many : goal.returns-clause-many
returns-clause-many c many =
    let es = c.args.found.now.entries in
    let few : length es < 2 = grind arith in
    absurd (omega (arith, names_len es, many, few))

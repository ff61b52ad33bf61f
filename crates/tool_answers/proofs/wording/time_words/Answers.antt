use Rattle.std.proofs.Common.{◌<◌, ◌^◌, ◌∙◌, arith, refl, rules}
use Rattle.std.specs.Int.{w32, w64}
use Rattle.std.specs.Prelude.{FitsSigned}
use Rattle.std.proofs.Math.IntN.{+ℤ_idr}
use Rattle.std.proofs.lemmas.Int.{to_z-of_z, to_z_pos}
use Rattle.std.proofs.lemmas.Result.{IfOk-weaker}
use Rattle.tool_answers.specs.ShownWords.{in_utc}
use Rattle.tool_answers.proofs.wording.time_words.Goals as goal

pub returns-in-Ok : goal.returns-in-Ok
returns-in-Ok c =
    let long : FitsSigned w64 c.seconds.result = search rules in
    let small : c.nanos.result < 2 ^ 31 = omega (arith, c.nanos.ensures.value, c.nanos.ensures.below) in
    let shown = c.to_datetime.ensures ∙ +ℤ_idr c.in-Ok.instant.nanosecond ∙ c.in-Ok.ensures.value in
    let reached = c.in-Ok.ensures.succeeds.0 refl in
    IfOk-weaker c.utc_words.result _ _
    (λ text is. in_utc
    (rw (to_z-of_z w64 c.seconds.result long, to_z_pos w32 c.nanos.result small, c.seconds.ensures, c.nanos.ensures.value) at reached)
    c.to_datetime.result
    (rw (to_z-of_z w64 c.seconds.result long, to_z_pos w32 c.nanos.result small, c.seconds.ensures, c.nanos.ensures.value) at shown) is)
    c.utc_words.ensures

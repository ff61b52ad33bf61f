use Rattle.std.proofs.Common.{rules, ℕ, ◌<◌, ◌≡◌, ◌^◌, pos, arith, Ok, string_bytes, ◌∙◌, w64}
use Rattle.std.proofs.Math.Facts.{to_z-of_z}
use Rattle.warg_crypto.specs.Time.TimeText.{time_text}
use Rattle.warg_crypto.specs.Time.TimeTextLaws.{time_of-seconds_text}
use Rattle.warg_crypto.proofs.time.time.Timestamp.to_text.Goals as goal

pub returns-clause-back : goal.returns-clause-back
returns-clause-back c =
    let text : time_text c.args.self.now ≡ Ok (string_bytes c.in_ok-format.field-0) = search rules in
    let nanos : c.args.self.now.nanos < 1_000_000_000 = omega arith in
    let fits : (n : ℕ) → c.args.self.now.seconds ≡ pos n → n < 2 ^ 63 = λ n e. c.signed_range.ensures n (to_z-of_z {w = w64} (record { sfits = c.seconds-seconds.type_inv }) ∙ (c.seconds-seconds.ensures ∙ e)) in
    time_of-seconds_text c.args.self.now.seconds c.args.self.now.nanos _ nanos fits text

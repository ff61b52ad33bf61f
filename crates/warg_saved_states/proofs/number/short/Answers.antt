use Rattle.std.proofs.Common.{◌≡◌, ◌==◌, Some, ap, false, refl, sym, ◌∙◌}
use Rattle.std.specs.Prelude.{slice_index}
use Rattle.std.specs.Str.Parse.{without_leading_plus}
use Rattle.serde_json.specs.Data.{unsigned}
use Rattle.warg_saved_states.proofs.ShortNumbers.{short_number}
use Rattle.warg_saved_states.proofs.number.short.Goals as goal

pub returns-in-Ok : goal.returns-in-Ok
returns-in-Ok c =
    let text = c.args.text.now in
    let no_plus : (slice_index text 0 == 43) ≡ false = ap (λ bytes. slice_index bytes 0 == 43) (sym c.as_bytes.ensures.value) ∙ sym c.has_plus.ensures ∙ c.if-has_plus.false in
    let whole : without_leading_plus text ≡ text = rw no_plus refl in
    let read = rw whole at c.in-Ok.ensures.value in
    short_number text read.0.0.0 read.0.0.1 ∙ ap (λ n. Some (unsigned n)) (sym read.0.1) ∙ ap Some (sym c.from.ensures)

use Rattle.std.proofs.Common.{inl, inr, refl, sym, subst}
use Rattle.warg_c.specs.Texts.{IsErrorLine, IsNameOrLine}
use Rattle.warg_c.proofs.Sentences.{text-given}
use Rattle.warg_c.proofs.error_text.tell_text.Goals as goal

pub returns-in-Ok-clause-text : goal.returns-in-Ok-clause-text
returns-in-Ok-clause-text g c =
    let printed = g.E.Display.output c.args.error.now in
    text-given (IsNameOrLine c.args.name.now printed) c.give_if_room.new.used c.give_if_room.new.text c.as_str.result.now c.give_if_room.ensures.text (inr (subst (λ l. IsErrorLine c.args.name.now printed l) (sym c.as_str.ensures.value) c.in-Ok.ensures))

pub returns-in-Err-clause-text : goal.returns-in-Err-clause-text
returns-in-Err-clause-text g c =
    let printed = g.E.Display.output c.args.error.now in
    text-given (IsNameOrLine c.args.name.now printed) c.give_if_room-in-Err.new.used c.give_if_room-in-Err.new.text c.args.name.now c.give_if_room-in-Err.ensures.text (inl refl)

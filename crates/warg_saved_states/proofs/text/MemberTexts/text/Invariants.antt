use Rattle.std.proofs.Common.{◌≡◌, false, ◌∷◌, ◌++◌, string_bytes}
use Rattle.warg_saved_states.specs.Texts.{object_rest, texts_view}
use Rattle.warg_saved_states.proofs.text.MemberTexts.text.Given as goal

-- what is written, and then what is left, is the whole
abbrev pub invariant-members : goal.invariant-members
invariant-members l =
    string_bytes l.text ++ object_rest l.later (texts_view l.name-iterator) ≡ 123 ∷ object_rest false l.fn.self

use Rattle.std.proofs.Common.{◌≡◌, false, [], ◌∷◌, ◌++◌, ap, sym, ◌∙◌, rules, string_bytes}
use Rattle.warg_saved_states.specs.Texts.{object_rest, texts_view}
use Rattle.warg_saved_states.proofs.TextLaws.{joined_text}
use Rattle.warg_saved_states.proofs.text.MemberTexts.text.Goals as goal

pub returns-clause-ok : goal.returns-clause-ok
returns-clause-ok c = λ ms are.
    let closed : string_bytes c.push-2.new.self ≡ string_bytes c.members.text ++ 125 ∷ [] = search rules in
    let whole : string_bytes c.members.text ++ 125 ∷ [] ≡ 123 ∷ object_rest false c.args.self.now =
    ap (λ es. string_bytes c.members.text ++ object_rest c.members.later (texts_view es)) (sym c.in-None.ensures.steps.0) ∙ c.members.invariant in
    closed ∙ whole ∙ ap (λ es. 123 ∷ object_rest false es) are ∙ ap (λ bs. 123 ∷ bs) (joined_text false ms)

use Rattle.std.proofs.Common.{◌≡◌, ℕ, false, List, [], ◌∷◌, ◌++◌, rules, ap, ◌∙◌}
use Rattle.std.proofs.Output.{has_written_styled_append, has_written_styled_of_eq}
use Rattle.std.specs.Fmt.{WritesInCalls, digits}
use Rattle.std.specs.Fmt.InlineText.{AppendsIfIntact}
use Rattle.warg_printable.proofs.InlineLemmas.{appended_in_calls}
use Rattle.warg_printable.specs.Characters.{number_escape}
use Rattle.warg_printable.proofs.shown.write_number.Goals as goal

joined : (c : ℕ) (text : List ℕ) → text ≡ digits 16 false c → (92 ∷ 117 ∷ 123 ∷ []) ++ (text ++ (125 ∷ [])) ≡ number_escape c
joined c text e = ap (λ (l : List ℕ). 92 ∷ 117 ∷ 123 ∷ (l ++ (125 ∷ []))) e

pub returns-clause-styled : goal.returns-clause-styled
returns-clause-styled g c = λ flush ok.
    let wrote : WritesInCalls AppendsIfIntact c.new-digits.result (digits 16 false c.args.c) c.write.new.self = search rules in
    let both = appended_in_calls c.new-digits.result (digits 16 false c.args.c) c.write.new.self wrote c.new-digits.ensures.intact in
    let text : c.as_str.result.now ≡ digits 16 false c.args.c = c.as_str.ensures.value ∙ both.1 ∙ ap (λ (l : List ℕ). l ++ digits 16 false c.args.c) c.new-digits.ensures.text in
    let front = c.write_str.ensures.styled flush (search rules) in
    let middle = c.write_str-2.ensures.styled front.flush (search rules) in
    let brace = c.write_str-3.ensures.styled middle.flush ok in
    has_written_styled_of_eq _ _ _ _ _ (joined c.args.c c.as_str.result.now text)
    (has_written_styled_append _ _ _ _ _ _ front (has_written_styled_append _ _ _ _ _ _ middle brace))

pub returns-clause-writes : goal.returns-clause-writes
returns-clause-writes g c = λ plain ok.
    let styled = returns-clause-styled g c plain.flush ok in
    record { wrote = styled.wrote; plain = record { bare = rw styled.spec plain.bare; flush = styled.flush } }

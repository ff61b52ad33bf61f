use Rattle.std.proofs.Common.{◌≡◌, ◌∙◌, true, ap, arith, sym}
use Rattle.tool_answers.specs.IdWords.{is_id_word}
use Rattle.tool_questions.proofs.AskedLemmas.{among, asked_whole, asked_none, asked_only, asked_several}
use Rattle.tool_questions.proofs.asked.asked_of.Goals as goal

pub returns-then-contains : goal.returns-then-contains
returns-then-contains c = λ has_key listed.
    let is = c.from-key_id.ensures ∙ c.in_ok-from_str.ensures.ok in
    asked_whole has_key c.args.ids.now listed c.args.word.now c.from-key_id.result
    (ap (λ word. among word c.args.ids.now) (sym is) ∙ sym c.contains.ensures.value ∙ c.if-contains.true) is

pub returns-in-empty : goal.returns-in-empty
returns-in-empty c = λ has_key listed.
    let is = c.from-key_id.ensures ∙ c.in_ok-from_str.ensures.ok in
    asked_none has_key c.args.ids.now listed c.args.word.now c.from-key_id.result
    (ap (λ word. among word c.args.ids.now) (sym is) ∙ sym c.contains.ensures.value ∙ c.if-contains.false)
    c.as_slice.result.now (c.as_slice.ensures.value ∙ c.in_ok-begun.ensures) (omega arith) is

pub returns-in_ok-key_id-in-len1 : goal.returns-in_ok-key_id-in-len1
returns-in_ok-key_id-in-len1 c = λ has_key listed.
    let is = c.from-key_id.ensures ∙ c.in_ok-from_str.ensures.ok in
    let said : is_id_word c.args.word.now ≡ true = sym c.is_id_word.ensures ∙ c.if-not-is_id_word.false in
    asked_only has_key c.args.ids.now listed c.args.word.now c.in_ok-key_id-in-len1.key_id
    (ap (λ word. among word c.args.ids.now) (sym is) ∙ sym c.contains.ensures.value ∙ c.if-contains.false)
    c.as_slice.result.now c.only-item.result said (c.as_slice.ensures.value ∙ c.in_ok-begun.ensures) (omega arith) (omega arith)
    c.only-item.is c.in_ok-key_id-in-len1.ensures

pub returns-in_default : goal.returns-in_default
returns-in_default c = λ has_key listed.
    let is = c.from-key_id.ensures ∙ c.in_ok-from_str.ensures.ok in
    let said : is_id_word c.args.word.now ≡ true = sym c.is_id_word.ensures ∙ c.if-not-is_id_word.false in
    asked_several has_key c.args.ids.now listed c.args.word.now c.from-key_id.result
    (ap (λ word. among word c.args.ids.now) (sym is) ∙ sym c.contains.ensures.value ∙ c.if-contains.false)
    c.as_slice.result.now said (c.as_slice.ensures.value ∙ c.in_ok-begun.ensures) (omega arith) is

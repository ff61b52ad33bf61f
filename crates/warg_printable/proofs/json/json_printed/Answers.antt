use Rattle.std.proofs.Common.{◌++◌, List, ℕ, sym, ap, ◌∙◌, append-nil, rules, string_bytes}
use Rattle.std.proofs.lemmas.Str.{IsUtf8-past_char}
use Rattle.std.specs.Str.Iter.{chars_rest}
use Rattle.warg_printable.specs.Json.{json_printable}
use Rattle.warg_printable.proofs.JsonLemmas.{json_empty, json_more}
use Rattle.warg_printable.proofs.json.json_printed.Goals as goal

pub loop-c-init : goal.loop-c-init
loop-c-init c = (
  search rules,
  ap (λ (l : List ℕ). l ++ json_printable (chars_rest c.chars-rest.result)) c.new-json.ensures.bytes ∙ ap json_printable c.chars-rest.ensures.rest,
)

pub loop-c-preserved : goal.loop-c-preserved
loop-c-preserved c =
    let held = c.loop-c.invariant in
    let parts = c.in-Some.ensures.steps.0 in (
      IsUtf8-past_char _ _ c.in-Some.c held.0 parts,
      json_more (string_bytes c.loop-c.json) _ _ _ _ c.in-Some.c held.0 parts c.in_ok-push_char.ensures held.1,
    )

pub returns : goal.returns
returns c =
    let none = json_empty _ c.in_default.ensures.steps.0.0 in
    sym (ap (λ (l : List ℕ). string_bytes c.loop-c.json ++ l) none ∙ append-nil (string_bytes c.loop-c.json)) ∙ c.loop-c.invariant.1

use Rattle.std.proofs.Common.{◌≡◌, [], ◌∷◌, None, Some, ap, ◌∙◌, subst, arith}
use Rattle.std.proofs.lemmas.Result.{err_from_is_err_and}
use Rattle.json.specs.Lex.{tokens}
use Rattle.json.specs.Json.{value}
use Rattle.serde_json.specs.Read.{converted, of_json}
use Rattle.warg_saved_states.proofs.TextReading.{whole_and_more, whole_read, whole_refused}
use Rattle.warg_saved_states.proofs.read_map.read_member.Goals as goal

pub returns-in_err-found : goal.returns-in_err-found
returns-in_err-found g c =
    let is : c.in-Ok.reader ≡ tokens c.args.text.now = grind arith in
    let p = err_from_is_err_and c.from_residual.result c.from_residual.ensures.1 in
    rw (p.1, p.2) (λ same. whole_refused (value 127 (tokens c.args.text.now)) (subst (λ ts. converted of_json (value 127 ts) ≡ None) is (c.in_err-found.ensures same)))

pub returns : goal.returns
returns g c =
    let n = c.in_ok-found.ensures in
    let is : tokens c.args.text.now ≡ c.in-Ok.reader = grind arith in
    let end : c.next_object.new.reader ≡ [] = grind arith in (
      n.json,
      whole_read (value 127 (tokens c.args.text.now)) n.json (ap (λ ts. converted of_json (value 127 ts)) is ∙ n.text ∙ ap (λ ts. Some (n.json, ts)) end),
      n.read,
    )

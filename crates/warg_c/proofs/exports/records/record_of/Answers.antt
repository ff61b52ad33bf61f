use Rattle.std.proofs.Common.{Some, ap, sym, ◌∙◌, subst}
use Rattle.std.specs.List.{slice_get}
use Rattle.std.proofs.lemmas.Option.{slice_get-get_or}
use Rattle.warg_c.specs.Lookups.{IsRecordAt}
use Rattle.warg_c.proofs.exports.records.record_of.Goals as goal

pub returns-in-Ok-clause-ok : goal.returns-in-Ok-clause-ok
returns-in-Ok-clause-ok g c =
    let e = c.in-Some-get.envelope.now in let found = c.in-Some-get.ensures.lookup in
    let there = ap (λ l. slice_get l c.args.place) (sym c.records.ensures.records) ∙ slice_get-get_or c.records.result.now c.args.place e found.3.0 ∙ ap (λ x. Some x) (sym found.1) in
    subst (λ o. IsRecordAt g.L.Validator.kind o c.args.place c.in-Ok.spelled.1 c.in-Ok.spelled.0.items) c.in-Some.ensures (e, there, c.in-Ok.ensures)

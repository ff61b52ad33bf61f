use Rattle.std.proofs.Common.{string_bytes}
use Rattle.std.specs.Option.{option_map}
use Rattle.tool_answers.proofs.PartingLemmas.{parts_within}
use Rattle.tool_changes.proofs.BesideLemmas.{beside_answers}
use Rattle.tool_changes.proofs.beside.beside_older.Goals as goal

pub parted-requires : goal.parted-requires
parted-requires g c =
    rw (c.records-here.ensures.records, c.records-there.ensures.records) (parts_within _ _ _ _ _ c.compare-comparison.ensures.answer)

pub returns : goal.returns
returns g c = λ fault_name offence_name shown reports before inputs olds news counted.
    beside_answers _ before inputs _ _ _ (g.L.Validator.view c.args.log.now.state) _ c.compare-comparison.result c.args.count _
    (option_map string_bytes c.in_ok-line.line) c.line_or_verdict.result olds news
    (rw c.records-here.ensures.records at c.records-here.ensures.audited.stands)
    (rw c.records-there.ensures.records at c.records-there.ensures.audited.stands)
    c.head.ensures.head counted (reports.lines c.args.log.now.state) c.compare-comparison.ensures.answer
    (rw (c.records-here.ensures.records, c.records-there.ensures.records) at c.in_ok-line.ensures)
    (rw c.state.ensures.state at c.line_or_verdict.ensures)

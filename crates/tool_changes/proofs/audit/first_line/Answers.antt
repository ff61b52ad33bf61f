use Rattle.std.proofs.Common.{ap, string_bytes}
use Rattle.std.specs.Option.{option_copied, option_map}
use Rattle.warg_audit.specs.Files.Answers.{output_data}
use Rattle.tool_changes.specs.Audits.{records_alone}
use Rattle.tool_changes.proofs.DemandLemmas.{line_of_unmet, verdict_of_met}
use Rattle.tool_changes.proofs.audit.first_line.Goals as goal

pub returns-in-Some : goal.returns-in-Some
returns-in-Some c =
    line_of_unmet _ c.records_alone-demands.result (records_alone c.args.allows_empty) c.args.count (option_copied c.args.head) _
    (string_bytes c.in-Some.text) (output_data c.new.result) c.in_ok-text.ensures c.records_alone-demands.ensures
    (ap (option_map string_bytes) c.in-Some.is) c.new.ensures

pub returns-in_ok-line-in-None : goal.returns-in_ok-line-in-None
returns-in_ok-line-in-None c =
    verdict_of_met c.records_alone-demands.result (records_alone c.args.allows_empty) c.args.count (option_copied c.args.head) _
    _ _ 0 (output_data c.new-in-None.result) c.in_ok-text.ensures c.records_alone-demands.ensures
    (ap (option_map string_bytes) c.in-None.is) c.in_ok-line-in-None.ensures c.new-in-None.ensures

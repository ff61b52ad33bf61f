use Rattle.warg_permissions.specs.OperatorPermissions.{same_permission}
use Rattle.warg_log_records.specs.OperatorEntries.{record_data}
use Rattle.warg_log_records.specs.OperatorReading.{operator_record_of}
use Rattle.warg_log.proofs.AskingLaws.{asks-honest, refused-honest}
use Rattle.warg_operator_log.specs.Namespaces.{rules}
use Rattle.warg_operator_log.specs.State.{view_of, offence_of}
use Rattle.warg_operator_log.specs.StateLaws.{listed_namespaces}
use Rattle.warg_operator_log.proofs.externally_verified.LogStateExternallyVerified.ask.Goals as goal

pub returns-clause-asks : goal.returns-clause-asks
returns-clause-asks c = λ honest. asks-honest rules same_permission operator_record_of listed_namespaces (view_of c.args.self.now) c.args.envelope.now.envelope (record_data c.args.envelope.now.contents) honest c.ask.result c.ask.ensures.asks

pub returns-clause-refused : goal.returns-clause-refused
returns-clause-refused c = λ honest. refused-honest rules same_permission operator_record_of listed_namespaces (view_of c.args.self.now) c.args.envelope.now.envelope (record_data c.args.envelope.now.contents) honest c.ask.result offence_of c.ask.ensures.refused

use Rattle.std.proofs.Common.{refl}
use Rattle.warg_log_records.specs.OperatorReading.{operator_record_of}
use Rattle.warg_log_records.specs.OperatorWriting.{operator_content_of}
use Rattle.warg_log_records.proofs.WrittenRecords.{operator_back}
use Rattle.warg_log_records.proofs.operator.OperatorEntryLogEntry.laws.Goals as goal

pub returns-clause-says : goal.returns-clause-says
unfolding operator_record_of
returns-clause-says c = λ content. refl

pub returns-clause-computes : goal.returns-clause-computes
returns-clause-computes c = c.record_reading_computes.ensures.of_operator

pub returns-clause-spelled : goal.returns-clause-spelled
unfolding operator_content_of
returns-clause-spelled c = λ s. refl

pub returns-clause-back : goal.returns-clause-back
returns-clause-back c = operator_back

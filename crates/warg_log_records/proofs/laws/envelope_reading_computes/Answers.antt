use Rattle.warg_protobuf.specs.OperatorRecord.{IsOperatorRecord, operator_record_table}
use Rattle.warg_protobuf.specs.PackageRecord.{IsPackageRecord, package_record_table}
use Rattle.warg_log_records.specs.OperatorReading.{operator_entry_of, operator_record_of}
use Rattle.warg_log_records.specs.PackageReading.{package_entry_of, package_record_of}
use Rattle.warg_log_records.specs.Relations.{IsRecord, HasRecordFault}
use Rattle.warg_envelope.proofs.EnvelopeReading.{reads_envelope}
use Rattle.warg_log_records.proofs.laws.envelope_reading_computes.Goals as goal

pub returns-clause-of_package : goal.returns-clause-of_package
returns-clause-of_package c =
    let of = c.record_reading_computes.ensures.of_package in
    reads_envelope (IsRecord package_record_table IsPackageRecord package_entry_of) (HasRecordFault package_record_table IsPackageRecord package_entry_of) package_record_of
    (record {
      value = λ b m h. (of b).value m h;
      value_converse = λ b m h. (of b).value_converse m h;
      fault = λ b f h. (of b).fault f h;
      fault_converse = λ b f h. (of b).fault_converse f h;
    })
    c.decoding_computes.ensures.envelope

pub returns-clause-of_operator : goal.returns-clause-of_operator
returns-clause-of_operator c =
    let of = c.record_reading_computes.ensures.of_operator in
    reads_envelope (IsRecord operator_record_table IsOperatorRecord operator_entry_of) (HasRecordFault operator_record_table IsOperatorRecord operator_entry_of) operator_record_of
    (record {
      value = λ b m h. (of b).value m h;
      value_converse = λ b m h. (of b).value_converse m h;
      fault = λ b f h. (of b).fault f h;
      fault_converse = λ b f h. (of b).fault_converse f h;
    })
    c.decoding_computes.ensures.envelope

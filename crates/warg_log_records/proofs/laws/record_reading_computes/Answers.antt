use Rattle.warg_protobuf.specs.OperatorRecord.{IsOperatorRecord, operator_record_table}
use Rattle.warg_protobuf.specs.OperatorRecord as operator_message
use Rattle.warg_protobuf.specs.PackageRecord.{IsPackageRecord, package_record_table}
use Rattle.warg_protobuf.specs.PackageRecord as package_message
use Rattle.warg_log_records.specs.OperatorReading.{operator_entry_of, operator_record_of}
use Rattle.warg_log_records.specs.PackageReading.{package_entry_of, package_record_of}
use Rattle.warg_log_records.proofs.Relations.{reads_record}
use Rattle.warg_log_records.proofs.laws.record_reading_computes.Goals as goal

pub returns-clause-of_package : goal.returns-clause-of_package
unfolding package_record_of
returns-clause-of_package c = reads_record package_record_table IsPackageRecord package_entry_of package_message.package_record_of c.decoding_computes.ensures.package_record

pub returns-clause-of_operator : goal.returns-clause-of_operator
unfolding operator_record_of
returns-clause-of_operator c = reads_record operator_record_table IsOperatorRecord operator_entry_of operator_message.operator_record_of c.decoding_computes.ensures.operator_record

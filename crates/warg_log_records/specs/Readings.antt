-- How bytes are read as records of each kind of log.
use Rattle.warg_envelope.specs.Faults.{fault_of}
use Rattle.warg_envelope.specs.Readings.{Reading}
use Rattle.warg_log_records.specs.OperatorEntries as of_operator
use Rattle.warg_log_records.specs.OperatorReading.{operator_record_of}
use Rattle.warg_log_records.specs.PackageEntries as of_package
use Rattle.warg_log_records.specs.PackageReading.{package_record_of}

abbrev pub package_reading : Reading package_record_of of_package.record_data fault_of
package_reading = record {}

abbrev pub operator_reading : Reading operator_record_of of_operator.record_data fault_of
operator_reading = record {}

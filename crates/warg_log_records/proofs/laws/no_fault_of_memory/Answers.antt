use Rattle.warg_protobuf.specs.Envelope.{envelope_table}
use Rattle.warg_protobuf.specs.OperatorRecord.{operator_record_table}
use Rattle.warg_protobuf.specs.PackageRecord.{package_record_table}
use Rattle.warg_log_records.specs.OperatorReading.{operator_record_of}
use Rattle.warg_log_records.specs.PackageReading.{package_record_of}
use Rattle.warg_log_records.proofs.OfBytes.{envelope_within, operator_within, package_within}
use Rattle.warg_log_records.proofs.laws.no_fault_of_memory.Goals as goal

pub returns-clause-of_package : goal.returns-clause-of_package
unfolding package_record_of
returns-clause-of_package c = λ content. package_within content (c.decoding_computes.ensures.package_record content) (c.exactly_one.ensures package_record_table content).no_memory

pub returns-clause-of_package_envelope : goal.returns-clause-of_package_envelope
unfolding package_record_of
returns-clause-of_package_envelope c =
    λ bytes. envelope_within package_record_of (λ content. package_within content (c.decoding_computes.ensures.package_record content) (c.exactly_one.ensures package_record_table content).no_memory)
    bytes (c.decoding_computes.ensures.envelope bytes) (c.exactly_one.ensures envelope_table bytes).no_memory

pub returns-clause-of_operator : goal.returns-clause-of_operator
unfolding operator_record_of
returns-clause-of_operator c = λ content. operator_within content (c.decoding_computes.ensures.operator_record content) (c.exactly_one.ensures operator_record_table content).no_memory

pub returns-clause-of_operator_envelope : goal.returns-clause-of_operator_envelope
unfolding operator_record_of
returns-clause-of_operator_envelope c =
    λ bytes. envelope_within operator_record_of (λ content. operator_within content (c.decoding_computes.ensures.operator_record content) (c.exactly_one.ensures operator_record_table content).no_memory)
    bytes (c.decoding_computes.ensures.envelope bytes) (c.exactly_one.ensures envelope_table bytes).no_memory

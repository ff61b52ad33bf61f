-- A registry's names, ids and checkpoints.
-- names of packages and namespaces
pub use Rattle.warg_registry.specs.KebabNames.{IsPackageName, IsPackageText, is_package_name, is_kebab_name, namespace_of, name_of}
pub use Rattle.warg_registry.specs.PackageNames.{Refuses, refused_name}
-- what the ids of records and logs are hashes of
pub use Rattle.warg_log_records.specs.RecordHashes.{package_record_message, operator_record_message}
pub use Rattle.warg_registry.specs.LogIds.{package_log_message, operator_log_message, id_of_text}
-- what JSON of ids, checkpoints and leaves is read as
pub use Rattle.warg_log_records.specs.RecordIdJson.{record_id_in}
pub use Rattle.warg_registry.specs.RegistryJson.{checkpoint_in, log_id_in, log_leaf_in, package_name_in, timestamped_checkpoint_in}
-- checkpoints, and that no encoding is a beginning of another
pub use Rattle.warg_registry.specs.Checkpoints.{timestamped_checkpoint_of}
pub use Rattle.warg_registry.specs.PrefixEncodings.{IsPrefixCode}

-- Keys, signatures, times, and the prefix encoding that is signed and hashed.
-- names, keys and signatures by their texts
pub use Rattle.warg_crypto.specs.NamedBytes.{NamedBytes, IsName, HasName, IsKeyText, named_bytes_text, fingerprint_of}
pub use Rattle.warg_crypto.specs.Keys.{public_key_of, signature_of}
pub use Rattle.warg_crypto.specs.Signed.{signed_message}
-- times and their texts
pub use Rattle.warg_crypto.specs.Time.Times.{Time, time_from, shown_time, time_hash_input}
pub use Rattle.warg_crypto.specs.Time.TimeText.{IsTime, time_of, time_text}
-- prefix encoding, what a visit that stops gives, and what is fed to a hasher
pub use Rattle.warg_crypto.specs.Prefix.{IsLeb128, unsigned_of, str_of}
pub use Rattle.warg_crypto.specs.Visits.{Stops}
pub use Rattle.warg_crypto.specs.SameNamedBytes.{named_bytes_hash_input}

-- A checkpoint at a time.
use Rattle.std.specs.Prelude.{ℤ, pos, negsuc, Result, Ok, Err}
use Rattle.warg_crypto.specs.Time.Times.{Time}
use Rattle.warg_crypto.specs.declared.time.time.TimeError.{TimeError}
use Rattle.warg_crypto.specs.declared.time.time.TimeError.TheVariants.{TimeBeforeEpoch}
use Rattle.warg_registry.specs.declared.checkpoint.Checkpoint.{Checkpoint}
use Rattle.warg_registry.specs.declared.checkpoint.TimestampedCheckpoint.{TimestampedCheckpoint}

-- at seconds since the epoch
abbrev pub checkpoint_at : Checkpoint → ℤ → Result TimestampedCheckpoint TimeError
checkpoint_at checkpoint (pos seconds) = Ok (record { checkpoint = checkpoint; timestamp = seconds })
checkpoint_at checkpoint (negsuc seconds) = Err TimeBeforeEpoch

-- at the whole seconds of a time
abbrev pub timestamped_checkpoint_of : Checkpoint → Time → Result TimestampedCheckpoint TimeError
timestamped_checkpoint_of checkpoint time = checkpoint_at checkpoint time.seconds

-- The cases of `RunCause`.
pub use Rattle.warg_replay.specs.declared.replay.RunCause.TheVariants.{Parse, Validation}

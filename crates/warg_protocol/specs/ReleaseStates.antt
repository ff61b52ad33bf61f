-- The cases of `ReleaseState`.
pub use Rattle.warg_package_log.specs.declared.release.ReleaseState.TheVariants.{Released, Yanked}

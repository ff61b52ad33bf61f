-- The lines that are printed of releases.
use Rattle.std.specs.Prelude.{ℕ, List, [], ◌∷◌, ◌++◌, codes}
use Rattle.semver.specs.Identifiers.{parts_text}
use Rattle.warg_crypto.specs.HashText.{hash_text}
use Rattle.warg_package_log.specs.Releases.{ReleaseView}
use Rattle.warg_package_log.specs.declared.release.ReleaseState.{ReleaseState}
use Rattle.warg_package_log.specs.declared.release.ReleaseState.TheVariants.{Released, Yanked}

-- what a line says of a release's state: released, with its content's hash, or yanked
abbrev pub release_state_text : ReleaseState → List ℕ
release_state_text (Released content) = codes " released " ++ hash_text content
release_state_text (Yanked by timestamp) = codes " yanked"

-- the line that is printed of a release: its version and its state
abbrev pub release_line : ReleaseView → List ℕ
release_line release = parts_text release.version ++ (release_state_text release.state ++ codes "\n")

-- one after another
abbrev pub release_lines : List ReleaseView → List ℕ
release_lines [] = []
release_lines (release ∷ more) = release_line release ++ release_lines more

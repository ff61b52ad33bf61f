-- What the program says of the content that it prints.
use Rattle.std.specs.Prelude.{◌≡◌, List, true, false, Contains, Some}
use Rattle.semver.specs.declared.Comparator.{Comparator}
use Rattle.warg_protocol.specs.Logs.{EnvelopeData}
use Rattle.warg_protocol.specs.Records.{AnyHash}
use Rattle.warg_protocol.specs.Package.{ReleaseView, content_of, history, is_yanked, releases_of, shows_candidate}

-- the content of a release of the log's history that meets the requirement and is not yanked
pub record IsOffered (log : List EnvelopeData) (requirement : List Comparator) (content : AnyHash) : Type 0 where
  pub release : ReleaseView
  pub in_history : Contains (releases_of (history log)) release
  pub not_yanked : is_yanked release.state ≡ false
  pub meets : shows_candidate requirement release ≡ true
  pub of_release : content_of release.state ≡ Some content

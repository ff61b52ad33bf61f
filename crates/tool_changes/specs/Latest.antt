-- What is printed of the release that meets a requirement best.
use Rattle.std.specs.Prelude.{◌≡◌, ℕ, List, ◌++◌, map, codes, Option, Some, None, Ok}
use Rattle.warg_protocol.specs.Records.{hash_text, parts_text, AnyHash}
use Rattle.warg_protocol.specs.Package.{ReleaseView, content_of, IsGreatest, shows_candidate, shown_cmp}
use Rattle.warg_audit.specs.Printouts.{OutputData}
use Rattle.semver.specs.Identifiers.{comparator_view}
use Rattle.semver.specs.Parse.{req_of}
use Rattle.semver.specs.declared.Comparator.{Comparator}
use Rattle.warg_audit.specs.LogKinds.{package_log}
use Rattle.warg_audit.specs.Files.Texts.{yes, no}
use Rattle.tool_answers.specs.Verdicts.{envelopes_of}

-- the word is a requirement of versions: all of these comparators are to be met
abbrev pub IsRequirement : List ℕ → List Comparator → Type 0
IsRequirement word wanted = req_of word ≡ Ok (map comparator_view wanted)

-- a release's version and its content
abbrev pub content_text : List ℕ → Option AnyHash → OutputData
content_text version None = no (codes "none\n")
content_text version (Some content) = yes (version ++ (codes " " ++ (hash_text content ++ codes "\n")))

-- the version and the content of the release that meets a requirement best, or `none`
abbrev pub latest_text : Option ReleaseView → OutputData
latest_text None = no (codes "none\n")
latest_text (Some release) = content_text (parts_text release.version) (content_of release.state)

-- the greatest release after the inputs of a package log that meets the requirement and is not yanked
pub record IsLatestText (releases : List ReleaseView) (requirement : List Comparator) (printed : OutputData) : Type 0 where
  pub release : Option ReleaseView
  pub greatest : IsGreatest (shows_candidate requirement) shown_cmp releases release
  pub is : printed ≡ latest_text release

-- the same of the inputs of a package log
abbrev pub IsLatestOf : List Comparator → List (List ℕ) → OutputData → Type 0
IsLatestOf requirement inputs printed = IsLatestText (package_log.kind.view_of (envelopes_of package_log inputs)).state.own_state requirement printed

-- When two versions are the same.
use Rattle.std.specs.Prelude.{Bool, ◌&&◌, ◌==◌}
use Rattle.std.specs.Str.{bytes_eq}
use Rattle.semver.specs.declared.Version.{Version}
use Rattle.semver.specs.Identifiers.{parts_of}
use Rattle.warg_log_records.specs.PackageEntries.{VersionParts}

-- whether the numbers and the texts are equal
abbrev pub same_parts : VersionParts → VersionParts → Bool
same_parts a b = (a.0 == b.0) && ((a.1 == b.1) && ((a.2 == b.2) && (bytes_eq a.3 b.3 && bytes_eq a.4 b.4)))

-- the same of versions: what `==` answers
abbrev pub same_version : Version → Version → Bool
same_version a b = same_parts (parts_of a) (parts_of b)

-- The names that keys of maps have in an object.
use Rattle.std.specs.Prelude.{ℕ, List, Result}
use Rattle.semver.specs.Identifiers.{parts_text}
use Rattle.semver.specs.Parse.{version_parts}
use Rattle.warg_crypto.specs.declared.json.error.JsonError.{JsonError}
use Rattle.warg_crypto.specs.Json.Json.{Version, or_bad_text, json_result}

-- any text
abbrev pub text_name : List ℕ → List ℕ
text_name text = text

-- the text that a name is, which may be any
abbrev pub text_named : List ℕ → Result (List ℕ) JsonError
text_named name = json_result name

-- the text of a version
abbrev pub version_name : Version → List ℕ
version_name parts = parts_text parts

-- the version that a name says; any other name is a bad text
abbrev pub version_named : List ℕ → Result Version JsonError
version_named name = or_bad_text (version_parts name)

-- The text of a log, laid out for people: its releases are a table.
use Rattle.std.specs.Prelude.{ℕ, ◌-◌, ◌&&◌, if◌then◌else◌, nat_le, nat_lt, List, [], ◌∷◌, ◌++◌, codes, drop, length, map, max, Option, Some, None}
use Rattle.std.specs.List.{after_first, before_first, fold, position_or_len, repeat}
use Rattle.std.specs.Str.{bytes_eq}
use Rattle.std.specs.Str.Lines.{lines}
use Rattle.warg_printable.specs.Lines.{with_ends}
use Rattle.tool_layout.specs.Layouts.{laid_line}
use Rattle.tool_layout.specs.Names.{is_space}
use Rattle.tool_layout.specs.declared.look.Look.{Look}

-- what stands behind `release` and a space, where a line begins so
abbrev pub behind_release : List ℕ → Option (List ℕ)
behind_release line =
    if nat_lt (position_or_len is_space line) (length line) && bytes_eq (before_first is_space line) (codes "release") then Some (after_first is_space line)
    else None

-- how wide a version is, which is its length; a version of more than 24 bytes counts as nothing
abbrev pub version_width : List ℕ → ℕ
version_width version = if nat_le (length version) 24 then length version else 0

-- how wide the version is behind `release`, if it stands there
abbrev pub width_behind : Option (List ℕ) → ℕ
width_behind (Some rest) = version_width (before_first is_space rest)
width_behind None = 0

-- how wide the widest version is among lines of releases
abbrev pub widest : List (List ℕ) → ℕ
widest text_lines = fold (λ width line. max width (width_behind (behind_release line))) 0 text_lines

-- spaces
abbrev pub spaces : ℕ → List ℕ
spaces count = repeat count (32 ∷ [])

-- the line of a release, of which this stands behind `release`: with spaces behind the version, if that is narrower than the width
abbrev pub padded_release : ℕ → List ℕ → List ℕ
padded_release width rest =
    let version = before_first is_space rest in
    codes "release " ++ (version ++ (spaces (width - length version) ++ drop (length version) rest))

-- the line of a release, if this stands behind `release`; else the line as it is
abbrev pub padded_by : ℕ → List ℕ → Option (List ℕ) → List ℕ
padded_by width line (Some rest) = padded_release width rest
padded_by width line None = line

-- any line with its version padded, if it is one of a release
abbrev pub padded : ℕ → List ℕ → List ℕ
padded width line = padded_by width line (behind_release line)

module _ (look : Look) where
  -- the lines of a log, each laid out, with their versions padded to one width
  abbrev pub log_lines : List (List ℕ) → List (List ℕ)
  log_lines text_lines = map (λ line. laid_line look (padded (widest text_lines) line)) text_lines

  -- the text of a log, laid out
  abbrev pub log_layout : List ℕ → List ℕ
  log_layout text = with_ends (log_lines (lines text))

-- The sentences on standard error that name a file.
use Rattle.std.specs.Prelude.{ℕ, List, ◌++◌, codes, if◌then◌else◌}
use Rattle.std.specs.Fmt.{decimal}
use Rattle.std.specs.Str.{bytes_eq}
use Rattle.warg_printable.specs.Printable.{printable}
use Rattle.warg_audit.specs.Files.Texts.{line}

-- the file's name: its path, but for standard input
abbrev pub shown_path : List ℕ → List ℕ
shown_path path = if bytes_eq path (codes "-") then codes "standard input" else path

-- the file, and what is wrong with it, as it is printed
abbrev pub sentence : List ℕ → List ℕ → List ℕ
sentence path fault = line (printable (codes "weoldrin: " ++ (shown_path path ++ (codes ": " ++ fault))))

-- the same of a line of the file, by its number
abbrev pub line_sentence : List ℕ → ℕ → List ℕ → List ℕ
line_sentence path number fault =
    line (printable (codes "weoldrin: " ++ (shown_path path ++ (codes ":" ++ (decimal number ++ (codes ": " ++ fault))))))

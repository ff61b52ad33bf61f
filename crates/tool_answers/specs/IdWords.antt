-- Words that say how an id begins.
use Rattle.std.specs.Prelude.{ℕ, Bool, ◌&&◌, List, length, drop, map, codes, nat_eq, nat_le}
use Rattle.std.specs.Char.{is_ascii_hexdigit, to_ascii_lowercase}
use Rattle.std.specs.List.{list_all, starts_with}

-- the word is `sha256:` and eight to 64 hex digits of either case
abbrev pub is_id_word : List ℕ → Bool
is_id_word word =
    nat_le 15 (length word) && nat_le (length word) 71 && starts_with nat_eq word (codes "sha256:") && list_all is_ascii_hexdigit (drop 7 word)

-- the text of an id begins with the word, whose case does not count
abbrev pub begins_as_said : List ℕ → List ℕ → Bool
begins_as_said word text = starts_with nat_eq text (map to_ascii_lowercase word)

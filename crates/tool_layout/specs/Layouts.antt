-- Words and lines, laid out for people.
use Rattle.std.specs.Prelude.{ℕ, ◌-◌, ◌==◌, Bool, if◌then◌else◌, List, ◌++◌, codes, length, map, slice_index, take, Option, Some, None}
use Rattle.std.specs.List.{join_with_byte, slice_split}
use Rattle.tool_layout.specs.Digests.{is_digest}
use Rattle.tool_layout.specs.KeyNames.{name_of}
use Rattle.tool_layout.specs.Names.{is_space}
use Rattle.tool_layout.specs.declared.look.Look.{Look}

-- a digest with its first twelve digits alone; any other text as it is
abbrev pub short : List ℕ → List ℕ
short text = if is_digest text then take 19 text else text

-- the name, where there is one; else the text, shortened unless whole ids are wanted
abbrev pub laid_by : Option (List ℕ) → Bool → List ℕ → List ℕ
laid_by (Some name) full text = name
laid_by None full text = if full then text else short text

-- what stands before the comma at the end of a word, if one is there
abbrev pub before_comma : List ℕ → Option (List ℕ)
before_comma word = if slice_index word (length word - 1) == 44 then Some (take (length word - 1) word) else None

module _ (look : Look) where
  -- a text that may be an id: the name of the key of this id, if it has one; else the text, shortened unless whole ids are wanted
  abbrev pub laid_id : List ℕ → List ℕ
  laid_id text = laid_by (name_of look.names text) look.full text

  -- the same of what stands before a comma, which stays; or of the word, where there is none
  abbrev pub laid_before : Option (List ℕ) → List ℕ → List ℕ
  laid_before (Some id) word = laid_id id ++ codes ","
  laid_before None word = laid_id word

  -- a word laid out: what stands before the comma at its end, if one is there
  abbrev pub laid_word : List ℕ → List ℕ
  laid_word word = laid_before (before_comma word) word

  -- each word of a line laid out
  abbrev pub laid_line : List ℕ → List ℕ
  laid_line line = join_with_byte 32 (map laid_word (slice_split is_space line))

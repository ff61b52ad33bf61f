-- What is read of a state's members, as plain data.
use Rattle.std.specs.Prelude.{List}
use Rattle.warg_crypto.specs.Json.Pairs.{plain_pairs}
use Rattle.warg_log.specs.SavedMembers.{SavedParts}
use Rattle.warg_log.specs.declared.saved_parts.SavedParts.{SavedParts as SavedMaps}

-- what was read of a state, with its maps as lists, and their names and values as plain data
abbrev pub parts_view : {P K V L W A B C D : Type 0} → (K → A) → (V → B) → (L → C) → (W → D) → SavedMaps P K V L W
    → SavedParts (List P) A B C D
parts_view first_name first_value second_name second_value p = record {
  algorithm = p.algorithm;
  head = p.head;
  rights = plain_pairs (λ id. id) (λ set. set) p.rights.entries;
  firsts = plain_pairs first_name first_value p.firsts.entries;
  seconds = plain_pairs second_name second_value p.seconds.entries;
}

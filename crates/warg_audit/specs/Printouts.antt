-- What may be printed.
use Rattle.std.specs.Prelude.{ℕ, List, ◌++◌, codes}
use Rattle.std.specs.Fmt.{decimal}
use Rattle.warg_crypto.specs.HashText.{hash_text}
use Rattle.warg_log_records.specs.declared.record_id.RecordId.{RecordId}
pub use Rattle.warg_audit.specs.Files.OutputData.{OutputData}

-- what is printed where the words ask for nothing that the program knows
abbrev pub usage : OutputData
usage = record { text = codes "usage: warg_audit [id] package|operator\n"; status = 2 }

-- what is printed where the input is over the limit
abbrev pub too_long : OutputData
too_long = record { text = codes "too long\n"; status = 2 }

-- what is printed where the line at this index spells no bytes, is missing, or is one too many
abbrev pub bad_line : ℕ → OutputData
bad_line index = record { text = codes "bad line " ++ decimal index ++ codes "\n"; status = 2 }

-- what is printed of the record whose id was asked
abbrev pub record_id : RecordId → OutputData
record_id id = record { text = hash_text id.hash ++ codes "\n"; status = 0 }

-- what is printed where the input at this index is refused, with the name of what is wrong
abbrev pub refused_line : ℕ → List ℕ → OutputData
refused_line index name = record { text = codes "refused " ++ decimal index ++ codes " " ++ name ++ codes "\n"; status = 1 }

-- what is printed in place of an answer where a read failed
abbrev pub read_error : OutputData
read_error = record { text = codes "read fault\n"; status = 3 }

-- what is printed in place of an answer where memory ran out
abbrev pub out_of_memory : OutputData
out_of_memory = record { text = codes "out of memory\n"; status = 3 }

-- What the options of a command say.
use Rattle.std.proofs.Common.{◌≡◌, ℕ, ◌+◌, ◌==◌, ◌^◌, true, false, cond, List, slice_index, Option}
use Rattle.std.proofs.lemmas.List.Folds.{fold-map}
use Rattle.std.specs.Borrow.{Bor}
use Rattle.std.specs.List.{count_by}
use Rattle.warg_crypto.specs.Time.TimeText.{number_of}
use Rattle.tool_words.specs.Requests.{texts}
use Rattle.tool_words.specs.Rules.{is_stdin, number}

-- digits behind no plus
pub number_plain : (digits : List ℕ) (said : Option ℕ) → (slice_index digits 0 == 43) ≡ false → number_of (2 ^ 64) digits ≡ said → number digits ≡ said
number_plain digits said plain is = rw plain (rw plain at is)

-- how many paths are standard input
pub stdin_texts : (paths : List (Bor (List ℕ))) → count_by is_stdin (texts paths) ≡ count_by (λ (path : Bor (List ℕ)). is_stdin path.now) paths
stdin_texts paths =
    fold-map (λ (count : ℕ) (path : List ℕ). count + cond (is_stdin path) 1 0) (λ (path : Bor (List ℕ)). path.now) 0 paths

-- A value's JSON as the tokens of its text.
use Rattle.std.specs.Prelude.{◌≡◌, ◌⊎◌, List, ◌++◌, Result, Ok, Err, MatchResult}
use Rattle.json.specs.Token.{Token}
use Rattle.json.specs.Tree.{json_tokens}
use Rattle.json.specs.Written.{Written}
use Rattle.serde_json.specs.Data.{Data}
use Rattle.serde_json.specs.Written.{outline}
use Rattle.warg_crypto.specs.declared.json.error.JsonError.{JsonError}
use Rattle.warg_crypto.specs.declared.json.error.JsonError.TheVariants.{OutOfMemory}

-- the tokens of the text of a value that has no float
abbrev pub tokens_of : Data → List Token
tokens_of d = json_tokens (outline d)

-- these tokens were put behind those that stood
abbrev pub Appends : Written → Written → List Token → Type 0
Appends old new ts = (new.before ≡ old.before) × (new.tokens ≡ old.tokens ++ ts)

-- What a call wrote is the text of want, behind what stood, unless memory ran out.
abbrev pub WritesText : {X : Type 0} → Result X JsonError → Written → Written → Result Data JsonError → Type 0
WritesText result old new want =
    MatchResult result (λ _. (d : Data) × (want ≡ Ok d) × Appends old new (tokens_of d)) (λ e. (e ≡ OutOfMemory) ⊎ (want ≡ Err e))

-- The texts of errors.
use Rattle.std.proofs.Common.{◌≡◌, ℕ, List, ◌∷◌, ◌++◌, Option, Result, Ok, Err}
use Rattle.std.specs.Prelude.{IfOk, IfSome}
use Rattle.warg_c.specs.Texts.{IsErrorLine, IsErrorText, IsGiven}

-- a line whose sentence is what is printed
pub line-said : {V A : Type 0} (bytes : V → List ℕ) (name sentence : List ℕ) (printed : Option (List ℕ)) (r : Result V A) → IfSome printed (λ said. sentence ≡ said) → IfOk r (λ told. bytes told ≡ name ++ 58 ∷ 32 ∷ sentence) → IfOk r (λ told. IsErrorLine name printed (bytes told))
line-said bytes name sentence printed (Ok told) known line = record { sentence = sentence; line = line; known = known }
line-said bytes name sentence printed (Err e) known line = tt

-- a text that is given says what it says
pub text-given : (Says : List ℕ → Type 0) (used : ℕ) (out text : List ℕ) → IsGiven text used out → Says text → IsErrorText Says used out
text-given Says used out text given said = (text, said, given)

-- Tokens put behind those that stood, one after another.
use Rattle.std.specs.Prelude.{List, [], ◌∷◌, ◌++◌, Ok}
use Rattle.std.proofs.Common.{refl, sym, ap, ◌∙◌, append_assoc, append-nil}
use Rattle.json.specs.Token.{Token}
use Rattle.json.specs.Written.{Written, Writes}
use Rattle.warg_saved_states.specs.Writes.{Appends}

-- nothing was put yet
pub nothing : (a : Written) → Appends a a []
nothing a = (refl, sym (append-nil a.tokens))

-- a token more
pub after : {E : Type 0} (a b c : Written) (ts : List Token) (t : Token) (u : Unit {0}) → Appends a b ts
    → Writes {E = E} (Ok u) b c t → Appends a c (ts ++ t ∷ [])
after a b c ts t u h w = (w.room.0 ∙ h.0, w.ok ∙ ap (λ us. us ++ t ∷ []) h.1 ∙ append_assoc a.tokens ts (t ∷ []))

-- tokens more
pub after_all : (a b c : Written) (ts us : List Token) → Appends a b ts → Appends b c us → Appends a c (ts ++ us)
after_all a b c ts us h w = (w.0 ∙ h.0, w.1 ∙ ap (λ vs. vs ++ us) h.1 ∙ append_assoc a.tokens ts us)

-- Pieces that follow one another.
use Rattle.std.proofs.Common.{◌≡◌, ◌++◌, ◌∙◌, List, ℕ, append_assoc}

pub pieces_3 : (m a b c : List ℕ) → ((m ++ a) ++ b) ++ c ≡ m ++ (a ++ (b ++ c))
pieces_3 m a b c = append_assoc (m ++ a) b c ∙ append_assoc m a (b ++ c)

pub pieces_4 : (m a b c d : List ℕ) → (((m ++ a) ++ b) ++ c) ++ d ≡ m ++ (a ++ (b ++ (c ++ d)))
pieces_4 m a b c d = append_assoc ((m ++ a) ++ b) c d ∙ pieces_3 m a b (c ++ d)

pub pieces_5 : (m a b c d e : List ℕ) → ((((m ++ a) ++ b) ++ c) ++ d) ++ e ≡ m ++ (a ++ (b ++ (c ++ (d ++ e))))
pieces_5 m a b c d e = append_assoc (((m ++ a) ++ b) ++ c) d e ∙ pieces_4 m a b c (d ++ e)

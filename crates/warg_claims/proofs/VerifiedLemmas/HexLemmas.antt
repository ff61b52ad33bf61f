-- Hex digits, piece by piece.
use Rattle.std.proofs.Common.{◌≡◌, ℕ, ◌/◌, ◌%◌, List, [], ◌∷◌, ◌++◌, slice_index, refl, sym, ap, ◌∙◌}
use Rattle.hex.specs.Hex.{encode_lower, encode_with, lower_digits}

encode_with-append : (t a b : List ℕ) → encode_with t (a ++ b) ≡ encode_with t a ++ encode_with t b
unfolding encode_with
encode_with-append t [] b = refl
encode_with-append t (x ∷ a) b = ap (λ (l : List ℕ). slice_index t (x / 16) ∷ slice_index t (x % 16) ∷ l) (encode_with-append t a b)

-- nothing has no digits
pub encode_lower-nil : encode_lower [] ≡ []
unfolding encode_with
encode_lower-nil = refl

-- the digits of a piece, and then those of the rest
pub piece_first : (all piece rest : List ℕ) → all ≡ piece ++ rest → encode_lower piece ++ encode_lower rest ≡ encode_lower all
piece_first all piece rest parts = sym (encode_with-append lower_digits piece rest) ∙ ap encode_lower (sym parts)

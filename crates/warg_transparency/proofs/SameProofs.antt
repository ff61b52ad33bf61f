-- Proofs on a map are equal exactly if their short forms are.
use Rattle.std.proofs.Common.{◌≡◌, refl, sym, ap, ◌∙◌}
use Rattle.std.specs.Prelude.{ℕ, List, Result, Ok}
use Rattle.std.specs.Bool.{one_answer}
use Rattle.std.specs.Cmp.Lexicographic.{pointwise, pointwise_decides}
use Rattle.std.specs.Str.{bytes_eq}
use Rattle.std.proofs.lemmas.Slice.Eq.{bytes_eq-Decides}
use Rattle.sha2.specs.Sha256.{sha256}
use Rattle.warg_merkle.specs.MapProof.ShortForms.{path_in, short_form_of}
use Rattle.warg_merkle.specs.declared.map_proof.error.MapProofError.{MapProofError}

path_same : (p q : List (List ℕ)) (r : Result (List (List ℕ)) MapProofError) → r ≡ Ok p → r ≡ Ok q → p ≡ q
path_same p q r h k = cc (h, k)

pub same_forms : (x y : List ℕ) (p q : List (List ℕ)) → x ≡ short_form_of sha256 p → y ≡ short_form_of sha256 q
    → path_in sha256 x ≡ Ok p → path_in sha256 y ≡ Ok q → bytes_eq x y ≡ pointwise bytes_eq p q
same_forms x y p q form_p form_q path_p path_q =
    one_answer (bytes_eq x y) (pointwise bytes_eq p q) (
      λ h. path_same p q (path_in sha256 x) path_p (ap (path_in sha256) ((bytes_eq-Decides x y).0 h) ∙ path_q),
      λ h. (bytes_eq-Decides x y).1 (form_p ∙ ap (short_form_of sha256) h ∙ sym form_q),
    )
    (pointwise_decides bytes_eq-Decides p q)

-- The objects of lines, one after another.
use Rattle.std.proofs.Common.{◌≡◌, ◌<◌, ℕ, true, length, arith, List, [], ◌∷◌, ◌++◌, map, sym, ap, ◌∙◌, append_assoc, append-nil, Bor}
use Rattle.std.specs.Prelude.{◌==◌}
use Rattle.std.specs.List.{concat}
use Rattle.std.proofs.lemmas.Bool.Decides.{nat_tests}
use Rattle.std.proofs.lemmas.List.{map-append}
use Rattle.tool_layout.specs.Members.Objects.{line_object}
use Rattle.tool_changes.specs.JsonLines.{line_objects}
use Rattle.tool_changes.specs.LineForms.{line_forms}

concat-append : (xs : List (List ℕ)) (x : List ℕ) → concat (xs ++ x ∷ []) ≡ concat xs ++ x
concat-append [] x = append-nil x
concat-append (y ∷ ys) x = ap (λ t. y ++ t) (concat-append ys x) ∙ sym (append_assoc y (concat ys) x)

-- a text that is tested to be empty has no byte
pub none_left : (text : List ℕ) → true ≡ (length text == 0) → 0 < length text → ⊥
none_left text e h = grind (arith, nat_tests)

-- one line more
pub objects_more : (command : List ℕ) (status : ℕ) (done : List (Bor (List ℕ))) (line : Bor (List ℕ)) (text new : List ℕ)
    → text ≡ line_objects command status (map (λ it. it.now) done) → new ≡ text ++ line_object (line_forms command) command status line.now
    → new ≡ line_objects command status (map (λ it. it.now) (done ++ line ∷ []))
objects_more command status done line text new so_far more =
    let f : List ℕ → List ℕ = line_object (line_forms command) command status in
    let lines = map (λ (it : Bor (List ℕ)). it.now) done in
    more ∙ ap (λ t. t ++ f line.now) so_far ∙ sym (concat-append (map f lines) (f line.now))
    ∙ ap concat (sym (map-append f lines (line.now ∷ []))
    ∙ ap (map f) (sym (map-append (λ (it : Bor (List ℕ)). it.now) done (line ∷ []))))

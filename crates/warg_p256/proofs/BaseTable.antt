use Rattle.std.proofs.Common.{◌≡◌, ℕ, ◌+◌, ◌-◌, ◌<◌, Bool, true, ◌&&◌, nat_lt, map, get_or, slice_index_or, ap, sym, ◌∙◌, refl, arith}
use Rattle.std.specs.List.{list_all}
use Rattle.std.proofs.lemmas.Bool.{and_parts, ltb-true}
use Rattle.std.proofs.lemmas.List.Recursion.{and_at}
use Rattle.std.proofs.lemmas.List.{get_or-map}
use Rattle.warg_modular.specs.Value.{value}
use Rattle.warg_curve.specs.Field.{prime}
use Rattle.warg_curve.specs.Curve.{Point, at, infinity, base}
use Rattle.warg_curve.specs.Group.{multiple}
use Rattle.warg_curve.proofs.BaseSlopes.{base_slopes}
use Rattle.warg_curve.proofs.BaseMultiples.{base_multiples, base_multiple, points}
use Rattle.warg_p256.specs.Elements.{number, shrink}
use Rattle.warg_p256.specs.declared.base_table.Row.{Row}
use Rattle.warg_p256.specs.declared.base_table.TheConstants.{ROWS}

-- the point of a row
abbrev pub point_of : Row → Point
point_of row = at (number row.x) (number row.y)

-- a row's words are below the prime
abbrev pub is_reduced : Row → Bool
is_reduced row = nat_lt (value row.x) prime && nat_lt (value row.y) prime

-- the rows are the multiples, and their words are below the prime, by computing
rows_are_multiples : map point_of ROWS ≡ base_multiples
unfolding number value shrink prime base_multiples points base_slopes
rows_are_multiples = refl

rows_are_reduced : list_all is_reduced ROWS ≡ true
unfolding value prime
rows_are_reduced = refl

-- so are those of each row
row_is_reduced : (i : ℕ) (d : Row) → 0 < i → i < 256 →
    let row = slice_index_or ROWS (i - 1) d in (nat_lt (value row.x) prime ≡ true) × (nat_lt (value row.y) prime ≡ true)
row_is_reduced i d h k =
    let b : i - 1 < 255 = omega arith in
    let row = slice_index_or ROWS (i - 1) d in
    and_parts (nat_lt (value row.x) prime) (nat_lt (value row.y) prime)
    (and_at (list_all is_reduced) is_reduced refl (λ x xs. refl) ROWS (i - 1) d b rows_are_reduced)

-- row i - 1 has i times the base point
pub row_is_multiple : (i : ℕ) (d : Row) → 0 < i → i < 256 → point_of (slice_index_or ROWS (i - 1) d) ≡ multiple i base
row_is_multiple i d h k =
    let b : i - 1 < 255 = omega arith in
    let e : (i - 1) + 1 ≡ i = omega arith in
    sym (get_or-map point_of ROWS (i - 1) d infinity b)
    ∙ ap (λ points. get_or points (i - 1) infinity) rows_are_multiples
    ∙ sym (base_multiple (i - 1) infinity b) ∙ ap (λ n. multiple n base) e

-- its words are below the prime
pub x_is_reduced : (i : ℕ) (d : Row) → 0 < i → i < 256 → value (slice_index_or ROWS (i - 1) d).x < prime
x_is_reduced i d h k = ltb-true _ prime (row_is_reduced i d h k).0

pub y_is_reduced : (i : ℕ) (d : Row) → 0 < i → i < 256 → value (slice_index_or ROWS (i - 1) d).y < prime
y_is_reduced i d h k = ltb-true _ prime (row_is_reduced i d h k).1

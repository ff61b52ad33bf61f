-- The names of an object's members.
use Rattle.std.specs.Prelude.{◌≡◌, List, [], ◌∷◌, String, string_bytes}
use Rattle.std.specs.declared.alloc.Global.{Global}
use Rattle.std.specs.declared.cmp.Ordering.TheVariants.{Less}
use Rattle.std.specs.Cmp.Lexicographic.{slice_cmp}
use Rattle.std.specs.List.{AllByRecursion}
use Rattle.std.specs.List.Sorted.{IsStrictlySortedBy}
use Rattle.std.specs.Map.{keys_of}
use Rattle.std.specs.Ordering.{nat_cmp}
use Rattle.std.specs.String.{string_cmp}
use Rattle.serde_json.specs.View.{members_view}
use Rattle.serde_json.specs.declared.value.Value.{Value}
use Rattle.warg_crypto.specs.Json.Pairs.{AreAscending, names_of}

abbrev Entry : Type 0
Entry = String Global × Value

above_all : (first : String Global) (es : List Entry) → AllByRecursion (λ y. string_cmp first y ≡ Less) (keys_of es)
    → AllByRecursion (λ name. slice_cmp nat_cmp (string_bytes first) name ≡ Less) (names_of (members_view es))
above_all first [] h = tt
above_all first (e ∷ es) h = (h.0, above_all first es h.1)

-- the names of an object's members ascend
pub ascending : (es : List Entry) → IsStrictlySortedBy string_cmp (keys_of es) → AreAscending (names_of (members_view es))
unfolding IsStrictlySortedBy
ascending [] h = tt
ascending (e ∷ es) h = (above_all e.0 es h.0, ascending es h.1)

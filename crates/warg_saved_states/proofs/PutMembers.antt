-- Members that were put one after another, each where there is something, are found.
use Rattle.std.specs.Prelude.{ℕ, ◌≡◌, List, [], ◌∷◌, Bool, true, false, ◌||◌, ⊤, Option, Some, None, refl}
use Rattle.std.specs.List.{AllByRecursion, list_any}
use Rattle.std.specs.Str.{bytes_eq}
use Rattle.std.proofs.Common.{sym, ◌∙◌, true≢false}
use Rattle.std.proofs.lemmas.Slice.Eq.{bytes_eq-Decides}
use Rattle.serde_json.specs.Data.{Data, Members, no_members}
use Rattle.serde_json.specs.Find.{get_member}
use Rattle.serde_json.proofs.Views.{get_member-put, get_member-put_other}
use Rattle.warg_crypto.specs.Json.Members.{put_some}

-- the member that was put last is found
found : (name : List ℕ) (o : Option Data) (ms : Members) → get_member name ms ≡ None
    → get_member name (put_some name o ms) ≡ o
found name None ms h = h
found name (Some d) ms h = get_member-put name d ms

-- and it hides no other
passed : (q name : List ℕ) (o : Option Data) (ms : Members) → bytes_eq q name ≡ false
    → get_member q (put_some name o ms) ≡ get_member q ms
passed q name None ms h = refl
passed q name (Some d) ms h =
    get_member-put_other q name d ms (λ e. true≢false (sym ((bytes_eq-Decides q name).1 e) ∙ h))

pub one_fails : (a b : Bool) → (a || b) ≡ false → (a ≡ false) × (b ≡ false)
one_fails true b h = cc h
one_fails false b h = (refl, h)

-- the members, of which the first was put last
abbrev pub put_each : List (List ℕ × Option Data) → Members
put_each [] = no_members
put_each (e ∷ es) = put_some e.0 e.1 (put_each es)

-- no two have one name
abbrev pub AreApart : List (List ℕ × Option Data) → Type 0
AreApart [] = ⊤
AreApart (e ∷ es) =
    (list_any (λ f. bytes_eq e.0 f.0) es ≡ false) × (list_any (λ f. bytes_eq f.0 e.0) es ≡ false) × AreApart es

absent : (q : List ℕ) (es : List (List ℕ × Option Data)) → list_any (λ f. bytes_eq q f.0) es ≡ false
    → get_member q (put_each es) ≡ None
absent q [] h = refl
absent q (e ∷ es) h =
    let other = one_fails (bytes_eq q e.0) _ h in
    passed q e.0 e.1 (put_each es) other.0 ∙ absent q es other.1

still_found : (e : List ℕ × Option Data) (ms : Members) (es : List (List ℕ × Option Data))
    → list_any (λ f. bytes_eq f.0 e.0) es ≡ false → AllByRecursion (λ f. get_member f.0 ms ≡ f.1) es
    → AllByRecursion (λ f. get_member f.0 (put_some e.0 e.1 ms) ≡ f.1) es
still_found e ms [] h all = tt
still_found e ms (f ∷ es) h all =
    let other = one_fails (bytes_eq f.0 e.0) _ h in
    (passed f.0 e.0 e.1 ms other.0 ∙ all.0, still_found e ms es other.1 all.1)

-- each that was put is found
pub each_found : (es : List (List ℕ × Option Data)) → AreApart es
    → AllByRecursion (λ f. get_member f.0 (put_each es) ≡ f.1) es
each_found [] apart = tt
each_found (e ∷ es) apart =
    (found e.0 e.1 (put_each es) (absent e.0 es apart.0), still_found e (put_each es) es apart.1 (each_found es apart.2))

-- A head that may be missing is plain data as it is.
use Rattle.std.specs.Prelude.{◌≡◌, ℕ, List, OnOk, Option, Some, None, Result, Ok, Err, refl}
use Rattle.std.specs.Option.{option_map}
use Rattle.std.proofs.Common.{ap, sym, subst, ◌∙◌}
use Rattle.serde_json.specs.Data.{Data, Members, put}
use Rattle.serde_json.specs.Find.{get_member}
use Rattle.serde_json.proofs.Views.{get_member-put}
use Rattle.warg_crypto.specs.declared.json.error.JsonError.{JsonError}
use Rattle.warg_crypto.specs.Json.Json.{ReturnsOrNoMemory, IsReadBack, ReadsBack}
use Rattle.warg_crypto.specs.Json.Members.{put_json}
use Rattle.warg_crypto.specs.Json.JsonLaws.{bind_ok, ok_same}

same_option : {A : Type 0} (o : Option A) → option_map (λ x. x) o ≡ o
same_option None = refl
same_option (Some x) = refl

pub gives_itself : {A : Type 0} (r : Result (Option A) JsonError) (want : Result (Option A) JsonError) → ReturnsOrNoMemory (option_map (λ x. x)) r want → ReturnsOrNoMemory (λ x. x) r want
gives_itself (Ok o) want h = h ∙ ap Ok (same_option o)
gives_itself (Err e) want h = h

some_same : {A : Type 0} (x y : A) → Some x ≡ Some y → x ≡ y
some_same x y e = cc

-- what was put of a value reads back, so whatever is written of it does
pub put_back : {A R : Type 0} (writes : A → Result Data JsonError) (reads : Data → Result A JsonError) (name : List ℕ) (x : A) (o : Option A) (r : Result R JsonError) (old new : Members)
    → o ≡ Some x → ReturnsOrNoMemory (λ _. new) r (put_json writes name x old)
    → OnOk r ((d : Data) × ReadsBack reads (λ x y. x ≡ y) x d × (new ≡ put name d old))
    → OnOk r ((y : A) → o ≡ Some y → IsReadBack writes reads (λ x y. x ≡ y) y)
put_back writes reads name x o (Err e) old new is written back = tt
put_back {A} writes reads name x o (Ok u) old new is written back = λ y at d wrote_y.
    let w = bind_ok (writes x) _ new written in
    let put_same : put name back.0 old ≡ put name w.0 old = sym back.2 ∙ sym (ok_same (put name w.0 old) new w.2) in
    let found : Some back.0 ≡ Some w.0 = sym (get_member-put name back.0 old) ∙ ap (get_member name) put_same ∙ get_member-put name w.0 old in
    let one : x ≡ y = some_same x y (sym is ∙ at) in
    let data_same : back.0 ≡ d = some_same back.0 w.0 found ∙ ok_same w.0 d (sym w.1 ∙ ap writes one ∙ wrote_y) in
    subst (λ (y : A). ReadsBack reads (λ x y. x ≡ y) y d) one (subst (λ (d : Data). ReadsBack reads (λ x y. x ≡ y) x d) data_same back.1)

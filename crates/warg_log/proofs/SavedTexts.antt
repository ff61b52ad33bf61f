-- The parts of a state are read of its text one after another.
use Rattle.std.specs.Prelude.{ℕ, ◌≡◌, ◌⊎◌, List, codes, Option, Some, None, Result, Ok, Err, refl}
use Rattle.std.proofs.Common.{inl, inr, ap, ◌∙◌}
use Rattle.serde_json.specs.Data.{Data}
use Rattle.serde_json.specs.Read.{read}
use Rattle.warg_crypto.specs.Json.Json.{◌>>=◌, json_result}
use Rattle.warg_crypto.specs.Json.JsonTexts.{algorithm_in}
use Rattle.warg_crypto.specs.Json.Members.{optional_member}
use Rattle.warg_crypto.specs.Json.Pairs.{pairs_member}
use Rattle.warg_crypto.specs.declared.hash.HashAlgorithm.{HashAlgorithm}
use Rattle.warg_crypto.specs.declared.json.error.JsonError.{JsonError}
use Rattle.warg_saved_states.specs.JsonText.{in_text, of_json_in, or_fault, text_fault}
use Rattle.warg_saved_states.specs.MapNames.{text_named}
use Rattle.warg_saved_states.specs.declared.error.JsonTextError.{JsonTextError}
use Rattle.warg_saved_states.specs.declared.error.JsonTextError.TheVariants.{NotJson, OutOfMemory}
use Rattle.warg_log.specs.HeadJson.{head_in}
use Rattle.warg_log.specs.SavedMembers.{SavedParts, begun_in, saved_in}
use Rattle.warg_log.specs.declared.head.Head.{Head}

-- a fault is one, whatever was to be read
same_fault : {A : Type 0} (x y : JsonTextError) → ◌≡◌ {A = Result A JsonTextError} (Err x) (Err y) → x ≡ y
same_fault x y h = cc

-- what is read the same of JSON is read the same of a text
pub same_in_text : {A : Type 0} (r s : Data → Result A JsonError) → ((d : Data) → r d ≡ s d) → (text : List ℕ) → in_text r text ≡ in_text s text
same_in_text {A} r s same text = by (read text)
  where
    by : (o : Option Data) → of_json_in r o ≡ of_json_in s o
    by None = refl
    by (Some d) = ap or_fault (same d)

module _ {A B : Type 0} (first : Data → Result A JsonError) (next : A → Data → Result B JsonError) (text : List ℕ) where
  abbrev both : Data → Result B JsonError
  both d = first d >>= λ x. next x d

  -- the fault of what is read first is that of both
  pub fault_first : (e : JsonTextError) → in_text first text ≡ Err e → in_text both text ≡ Err e
  fault_first e h = by (read text) h
    where
      by_read : (d : Data) (r : Result A JsonError) → or_fault r ≡ Err e → or_fault (r >>= λ x. next x d) ≡ Err e
      by_read d (Ok x) h = absurd cc
      by_read d (Err x) h = ap Err (same_fault {A = A} (text_fault x) e h)

      by : (o : Option Data) → of_json_in first o ≡ Err e → of_json_in both o ≡ Err e
      by None h = ap Err (same_fault {A = A} NotJson e h)
      by (Some d) h = by_read d (first d) h

  -- where it was read, the next is what is left
  pub next_in_text : (x : A) → in_text first text ≡ Ok x → in_text both text ≡ in_text (next x) text
  next_in_text x h = by (read text) h
    where
      same : (y : A) → or_fault (Ok y) ≡ Ok x → y ≡ x
      same y h = cc

      by_read : (d : Data) (r : Result A JsonError) → or_fault r ≡ Ok x → or_fault (r >>= λ y. next y d) ≡ or_fault (next x d)
      by_read d (Ok y) h = ap (λ z. or_fault (next z d)) (same y h)
      by_read d (Err e) h = absurd cc

      by : (o : Option Data) → of_json_in first o ≡ Ok x → of_json_in both o ≡ of_json_in (next x) o
      by None h = absurd cc
      by (Some d) h = by_read d (first d) h

-- what asks for nothing is read where something was
pub asks_nothing : {A B : Type 0} (reads : Data → Result A JsonError) (x : A) (z : B) (text : List ℕ) → in_text reads text ≡ Ok x → in_text (λ d. json_result z) text ≡ Ok z
asks_nothing reads x z text h = by (read text) h
  where
    by : (o : Option Data) → of_json_in reads o ≡ Ok x → of_json_in (λ d. json_result z) o ≡ Ok z
    by None h = absurd cc
    by (Some d) h = refl

-- what two steps give
abbrev pair_of : {X Y : Type 0} → X → Y → Result (X × Y) JsonError
pair_of x y = json_result (x, y)

-- two steps are one
two_steps : {X Y Z : Type 0} (a : Result X JsonError) (b : Result Y JsonError) (next : X → Y → Result Z JsonError)
    → (a >>= λ x. b >>= λ y. next x y) ≡ ((a >>= λ x. b >>= λ y. pair_of x y) >>= λ p. next p.0 p.1)
two_steps (Ok x) (Ok y) next = refl
two_steps (Ok x) (Err e) next = refl
two_steps (Err e) b next = refl

-- an answer that is out of memory, or the fault of what is read
abbrev pub Faults : {A : Type 0} → (Data → Result A JsonError) → List ℕ → JsonTextError → Type 0
Faults reads text e = (e ≡ OutOfMemory) ⊎ (in_text reads text ≡ Err e)

module _ {R K V L W : Type 0} (rights_in : Data → Result R JsonError) (first : List ℕ) (first_named : List ℕ → Result K JsonError) (first_in : Data → Result V JsonError) (second : List ℕ) (second_named : List ℕ → Result L JsonError) (second_in : Data → Result W JsonError) (text : List ℕ) where
  abbrev reads : Data → Result (SavedParts R K V L W) JsonError
  reads d = saved_in rights_in first first_named first_in second second_named second_in d

  abbrev Begun : Type 0
  Begun = Option HashAlgorithm × Option Head

  abbrev rights : Data → Result (List (List ℕ × R)) JsonError
  rights d = pairs_member text_named rights_in (codes "permissions") d

  abbrev firsts : Data → Result (List (K × V)) JsonError
  firsts d = pairs_member first_named first_in first d

  abbrev seconds : Data → Result (List (L × W)) JsonError
  seconds d = pairs_member second_named second_in second d

  abbrev whole : Begun → List (List ℕ × R) → List (K × V) → List (L × W) → SavedParts R K V L W
  whole p r x y = record { algorithm = p.0; head = p.1; rights = r; firsts = x; seconds = y }

  abbrev then_whole : Begun → List (List ℕ × R) → List (K × V) → List (L × W) → Data → Result (SavedParts R K V L W) JsonError
  then_whole p r x y d = json_result (whole p r x y)

  abbrev then_seconds : Begun → List (List ℕ × R) → List (K × V) → Data → Result (SavedParts R K V L W) JsonError
  then_seconds p r x d = seconds d >>= λ y. then_whole p r x y d

  abbrev then_firsts : Begun → List (List ℕ × R) → Data → Result (SavedParts R K V L W) JsonError
  then_firsts p r d = firsts d >>= λ x. then_seconds p r x d

  abbrev then_rights : Begun → Data → Result (SavedParts R K V L W) JsonError
  then_rights p d = rights d >>= λ r. then_firsts p r d

  from_begun : in_text reads text ≡ in_text (λ d. begun_in d >>= λ p. then_rights p d) text
  from_begun = same_in_text reads (λ d. begun_in d >>= λ p. then_rights p d)
      (λ d. two_steps (optional_member algorithm_in (codes "algorithm") d) (optional_member head_in (codes "head") d) (λ a h. then_rights (a, h) d)) text

  -- what is read, where each part is read of the text's JSON
  pub all_read : (d : Data) (p : Begun) (r : List (List ℕ × R)) (x : List (K × V)) (y : List (L × W)) → read text ≡ Some d → begun_in d ≡ Ok p → rights d ≡ Ok r → firsts d ≡ Ok x → seconds d ≡ Ok y
      → in_text reads text ≡ Ok (whole p r x y)
  all_read d p r x y is begun is_rights is_firsts is_seconds =
      ap (of_json_in reads) is ∙ ap or_fault (two_steps (optional_member algorithm_in (codes "algorithm") d) (optional_member head_in (codes "head") d) (λ a h. then_rights (a, h) d)
      ∙ ap (λ t. t >>= λ q. then_rights q d) begun ∙ ap (λ t. t >>= λ q. then_firsts p q d) is_rights ∙ ap (λ t. t >>= λ q. then_seconds p r q d) is_firsts
      ∙ ap (λ t. t >>= λ q. then_whole p r x q d) is_seconds)

  -- the faults, one after another
  pub begun_fault : (e : JsonTextError) → Faults begun_in text e → Faults reads text e
  begun_fault e (inl none) = inl none
  begun_fault e (inr h) = inr (from_begun ∙ fault_first begun_in then_rights text e h)

  module _ (p : Begun) (is_begun : in_text begun_in text ≡ Ok p) where
    from_rights : in_text reads text ≡ in_text (then_rights p) text
    from_rights = from_begun ∙ next_in_text begun_in then_rights text p is_begun

    pub rights_fault : (e : JsonTextError) → Faults rights text e → Faults reads text e
    rights_fault e (inl none) = inl none
    rights_fault e (inr h) = inr (from_rights ∙ fault_first rights (then_firsts p) text e h)

    module _ (r : List (List ℕ × R)) (is_rights : in_text rights text ≡ Ok r) where
      from_firsts : in_text reads text ≡ in_text (then_firsts p r) text
      from_firsts = from_rights ∙ next_in_text rights (then_firsts p) text r is_rights

      pub firsts_fault : (e : JsonTextError) → Faults firsts text e → Faults reads text e
      firsts_fault e (inl none) = inl none
      firsts_fault e (inr h) = inr (from_firsts ∙ fault_first firsts (then_seconds p r) text e h)

      module _ (x : List (K × V)) (is_firsts : in_text firsts text ≡ Ok x) where
        from_seconds : in_text reads text ≡ in_text (then_seconds p r x) text
        from_seconds = from_firsts ∙ next_in_text firsts (then_seconds p r) text x is_firsts

        pub seconds_fault : (e : JsonTextError) → Faults seconds text e → Faults reads text e
        seconds_fault e (inl none) = inl none
        seconds_fault e (inr h) = inr (from_seconds ∙ fault_first seconds (then_whole p r x) text e h)

        -- what is read, where all parts are
        pub parts_read : (y : List (L × W)) → in_text seconds text ≡ Ok y → in_text reads text ≡ Ok (whole p r x y)
        parts_read y h =
            from_seconds ∙ next_in_text seconds (then_whole p r x) text y h
            ∙ asks_nothing seconds y (whole p r x y) text h

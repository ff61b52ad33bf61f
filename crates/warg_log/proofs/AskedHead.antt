-- What is asked of a state for its algorithm and its head is enough for them.
use Rattle.std.specs.Prelude.{◌^◌, ℕ, ◌≡◌, ◌⊎◌, List, [], ◌∷◌, codes, Option, Some, None, Result, Ok, Err, refl}
use Rattle.std.proofs.Common.{inl, inr, sym, ap, ◌∙◌}
use Rattle.serde_json.specs.Data.{Data}
use Rattle.serde_json.specs.Read.{read}
use Rattle.warg_crypto.specs.Json.Json.{◌>>=◌, json_result}
use Rattle.warg_crypto.specs.Json.JsonTexts.{algorithm_in}
use Rattle.warg_crypto.specs.Json.Members.{SameOptions, optional, optional_member}
use Rattle.warg_crypto.specs.Time.TimeJson.{time_in}
use Rattle.warg_crypto.specs.declared.hash.HashAlgorithm.{HashAlgorithm}
use Rattle.warg_crypto.specs.declared.json.error.JsonError.{JsonError}
use Rattle.warg_crypto.specs.declared.json.error.JsonError.TheVariants as json
use Rattle.warg_log_records.specs.RecordIdJson.{record_id_in}
use Rattle.warg_saved_states.specs.Asked.{IsAskedOf, IsAskedOfText}
use Rattle.warg_saved_states.specs.JsonText.{in_text, of_json_in, or_fault, text_fault}
use Rattle.warg_saved_states.specs.Next.{AsksFor}
use Rattle.warg_saved_states.specs.declared.error.JsonTextError.{JsonTextError}
use Rattle.warg_saved_states.specs.declared.error.JsonTextError.TheVariants.{NotJson, OutOfMemory}
use Rattle.warg_saved_states.proofs.AskedLaws.{found_asked, number_asked, optional_asked, read_member_asked, text_asked, then_same}
use Rattle.warg_log.specs.HeadJson.{head_in, version_in, version_or_zero}
use Rattle.warg_log.specs.SavedMembers.{begun_in}
use Rattle.warg_log.specs.declared.head.Head.{Head}

-- the names that are asked for
abbrev pub head_names : List (List ℕ)
head_names = codes "algorithm" ∷ codes "head" ∷ codes "digest" ∷ codes "timestamp" ∷ codes "version" ∷ []

algorithm_asked : AsksFor head_names 1 algorithm_in
algorithm_asked d v like = rw like.text refl

id_asked : AsksFor head_names 0 record_id_in
id_asked d v like = rw like.text refl

time_asked : AsksFor head_names 0 time_in
time_asked d v like = rw like.text refl

version_same : (o p : Option Data) → SameOptions (λ x y. IsAskedOf head_names 0 x y) o p → version_or_zero p ≡ version_or_zero o
version_same None None same = refl
version_same (Some x) (Some y) like = number_asked head_names 0 (2 ^ 32) x y like
version_same None (Some y) same = absurd same
version_same (Some x) None same = absurd same

version_asked : (d v : Data) → IsAskedOf head_names 1 d v → version_in v ≡ version_in d
version_asked d v like = found_asked head_names 0 (codes "version") d v version_or_zero version_or_zero refl like version_same

head_asked : AsksFor head_names 1 head_in
head_asked d v like =
    read_member_asked head_names 0 (codes "digest") d v record_id_in _ _ refl id_asked like (λ digest.
    read_member_asked head_names 0 (codes "timestamp") d v time_in _ _ refl time_asked like (λ timestamp.
    then_same (version_in v) (version_in d) _ _ (version_asked d v like) (λ version. refl)))

begun_asked : AsksFor head_names 2 begun_in
begun_asked d v like =
    then_same (optional_member algorithm_in (codes "algorithm") v) (optional_member algorithm_in (codes "algorithm") d) _ _
    (found_asked head_names 1 (codes "algorithm") d v (optional algorithm_in) (optional algorithm_in) refl like (optional_asked head_names 1 algorithm_in algorithm_asked))
    (λ algorithm. then_same (optional_member head_in (codes "head") v) (optional_member head_in (codes "head") d) _ _
    (found_asked head_names 1 (codes "head") d v (optional head_in) (optional head_in) refl like (optional_asked head_names 1 head_in head_asked)) (λ head. refl))

abbrev then_both : Option HashAlgorithm → Option Head → Result (Option HashAlgorithm × Option Head) JsonError
then_both a h = json_result (a, h)

abbrev head_then : Data → Option HashAlgorithm → Result (Option HashAlgorithm × Option Head) JsonError
head_then v a = optional_member head_in (codes "head") v >>= then_both a

-- both, where they are read of what is asked
pub begun_of : (d v : Data) (a : Option HashAlgorithm) (h : Option Head) → IsAskedOf head_names 2 d v → optional_member algorithm_in (codes "algorithm") v ≡ Ok a
    → optional_member head_in (codes "head") v ≡ Ok h → begun_in d ≡ Ok (a, h)
begun_of d v a h like is_algorithm is_head =
    sym (begun_asked d v like) ∙ ap (λ r. r >>= head_then v) is_algorithm ∙ ap (λ r. r >>= then_both a) is_head

-- a fault of the text is one of what is read of it
pub asked_fault : {A : Type 0} (reads : Data → Result A JsonError) (text : List ℕ) (e : JsonTextError) → (e ≡ OutOfMemory) ⊎ ((e ≡ NotJson) × (read text ≡ None))
    → (e ≡ OutOfMemory) ⊎ (in_text reads text ≡ Err e)
asked_fault reads text e (inl none) = inl none
asked_fault reads text e (inr h) = inr (ap (of_json_in reads) h.1 ∙ ap Err (sym h.0))

module _ (text : List ℕ) (v : Data) (is : IsAskedOfText head_names 2 text v) where
  begun_read : in_text begun_in text ≡ or_fault (begun_in v)
  begun_read = ap (of_json_in begun_in) is.is ∙ ap or_fault (sym (begun_asked is.whole v is.asked))

  -- a fault of the algorithm
  pub algorithm_fault : (e : JsonError) → (e ≡ json.OutOfMemory) ⊎ (optional_member algorithm_in (codes "algorithm") v ≡ Err e)
      → (text_fault e ≡ OutOfMemory) ⊎ (in_text begun_in text ≡ Err (text_fault e))
  algorithm_fault e (inl none) = inl (ap text_fault none)
  algorithm_fault e (inr h) = inr (begun_read ∙ ap (λ r. or_fault (r >>= head_then v)) h)

  module _ (a : Option HashAlgorithm) (is_algorithm : optional_member algorithm_in (codes "algorithm") v ≡ Ok a) where
    begun_then : (r : Result (Option Head) JsonError) → optional_member head_in (codes "head") v ≡ r → in_text begun_in text ≡ or_fault (r >>= then_both a)
    begun_then r h = begun_read ∙ ap (λ r. or_fault (r >>= head_then v)) is_algorithm ∙ ap (λ r. or_fault (r >>= then_both a)) h

    -- a fault of the head
    pub head_fault : (e : JsonError) → (e ≡ json.OutOfMemory) ⊎ (optional_member head_in (codes "head") v ≡ Err e)
        → (text_fault e ≡ OutOfMemory) ⊎ (in_text begun_in text ≡ Err (text_fault e))
    head_fault e (inl none) = inl (ap text_fault none)
    head_fault e (inr h) = inr (begun_then (Err e) h)

    -- both are read
    pub both_read : (h : Option Head) → optional_member head_in (codes "head") v ≡ Ok h → in_text begun_in text ≡ Ok (a, h)
    both_read h is_head = begun_then (Ok h) is_head

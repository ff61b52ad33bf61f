-- What is read of a map that was saved: at each name the same value.
use Rattle.std.specs.Prelude.{ℕ, ◌≡◌, List, [], ◌∷◌, Bool, false, cond, Option, Some, None, Result, Ok, Err, refl}
use Rattle.std.specs.List.{AllByRecursion, list_any}
use Rattle.std.proofs.Common.{sym, ap, ◌∙◌, subst}
use Rattle.std.proofs.lemmas.Slice.Eq.{bytes_eq-Decides}
use Rattle.serde_json.specs.Data.{Data, Members, no_members, member, null}
use Rattle.warg_crypto.specs.declared.hash.HashAlgorithm.{HashAlgorithm}
use Rattle.warg_crypto.specs.declared.hash.HashAlgorithm.TheVariants.{Sha256}
use Rattle.warg_crypto.specs.declared.json.error.JsonError.{JsonError}
use Rattle.warg_crypto.specs.Json.Json.{IsReadBack, ReadsBack, members_in, json_result}
use Rattle.warg_crypto.specs.Json.JsonTexts.{algorithm_in, algorithm_json}
use Rattle.warg_crypto.specs.Json.MemberLaws.{optional_reads_back, read_again}
use Rattle.warg_crypto.specs.Json.Members.{SameOptions, option_json, optional, put_option, put_some}
use Rattle.warg_crypto.specs.Json.Pairs.{pairs_json, pairs_of, pairs_or_none, some_pairs_json, value_at}
use Rattle.warg_crypto.specs.Json.PairsLaws.{AreReadAs, ReadsPairs, pairs_read_back}
use Rattle.warg_crypto.specs.Json.JsonLaws.{ok_same, bind_ok}
use Rattle.warg_saved_states.specs.Backs.{AreBack, IsBack}
use Rattle.warg_saved_states.specs.Fit.{is_nil}
use Rattle.warg_saved_states.specs.Maps.{put_pairs}
use Rattle.warg_saved_states.proofs.PutMembers.{one_fails}

none_false : {X : Type 0} (xs : List X) → list_any (λ _. false) xs ≡ false
none_false [] = refl
none_false (x ∷ xs) = none_false xs

no_nil : {X Y : Type 0} (look : List X → Option Y) → look [] ≡ None → (ps : List X) (y : Y) → look ps ≡ Some y → is_nil ps ≡ false
no_nil look none [] y h = cc (none, h)
no_nil look none (p ∷ ps) y h = refl

module _ {K A : Type 0} (name_of : K → List ℕ) (named : List ℕ → Result K JsonError) (writes : A → Result Data JsonError)
    (reads : Data → Result A JsonError) where
  -- what is read of what was written of the pairs, if anything was
  pub record MapReadsBack (es : List (K × A)) (d : Option Data) : Type 0 where
    pub pairs : List (K × A)
    pub is : pairs_or_none named reads d ≡ Ok pairs
    pub at : (q : List ℕ) → value_at name_of q pairs ≡ value_at name_of q es
    pub none_pass : (test : K × A → Bool) → list_any test es ≡ false → list_any test pairs ≡ false
    pub nil : is_nil pairs ≡ is_nil es

  read_as : (test : K × A → Bool) (es : List (K × A)) → AllByRecursion (IsBack name_of named writes reads) es → list_any test es ≡ false
      → AreReadAs named name_of reads test writes es es
  read_as test [] back none = tt
  read_as test (e ∷ es) back none =
      let fails = one_fails (test e) _ none in (
        record {
          name = record { is = back.0.name; back = refl };
          value = λ d is. read_again reads e.1 d (back.0.value d is);
          fails = fails.0;
        },
        read_as test es back.1 fails.1,
      )

  first_found : (e : K × A) (es : List (K × A)) → value_at name_of (name_of e.0) (e ∷ es) ≡ Some e.1
  first_found e es = ap (λ b. cond b (Some e.1) (value_at name_of (name_of e.0) es)) ((bytes_eq-Decides (name_of e.0) (name_of e.0)).1 refl)

  of_object : (e : K × A) (es : List (K × A)) (d : Data) → AreBack name_of named writes reads (e ∷ es) → pairs_json name_of writes (e ∷ es) ≡ Ok d
      → MapReadsBack (e ∷ es) (Some d)
  of_object e es d back is =
      let read : (test : K × A → Bool) → list_any test (e ∷ es) ≡ false → ReadsPairs named name_of reads test writes d (e ∷ es)
      = λ test none. pairs_read_back named name_of reads test writes (e ∷ es) (e ∷ es) d (read_as test (e ∷ es) back.each none) back.unique is in
      let plain = read (λ _. false) (none_false (e ∷ es)) in
      record {
        pairs = plain.pairs;
        is = plain.is;
        at = plain.at;
        none_pass = λ test none. subst (λ (ps : List (K × A)). list_any test ps ≡ false)
            (ok_same (read test none).pairs plain.pairs (sym (read test none).is ∙ plain.is)) (read test none).none_pass;
        nil = no_nil (value_at name_of (name_of e.0)) refl plain.pairs e.1 (plain.at (name_of e.0) ∙ first_found e es);
      }

  pub pairs_again : (es : List (K × A)) (d : Option Data) → AreBack name_of named writes reads es → some_pairs_json name_of writes es ≡ Ok d → MapReadsBack es d
  pairs_again [] d back is = subst (λ (o : Option Data). MapReadsBack [] o) (ok_same None d is)
      (record { pairs = []; is = refl; at = λ q. refl; none_pass = λ test none. refl; nil = refl })
  pairs_again (e ∷ es) d back is =
      let w = bind_ok (pairs_json name_of writes (e ∷ es)) _ d is in
      subst (λ (o : Option Data). MapReadsBack (e ∷ es) o) (ok_same (Some w.0) d w.2) (of_object e es w.0 back w.1)

  -- each name that was read is written and read as it was
  names_of_members : (back : (name : List ℕ) (k : K) → named name ≡ Ok k → name_of k ≡ name) (ms : Members) (pairs : List (K × A)) → pairs_of named reads ms ≡ Ok pairs
      → AllByRecursion (λ e. named (name_of e.0) ≡ Ok e.0) pairs
  names_of_members back no_members pairs is = subst (λ (ps : List (K × A)). AllByRecursion (λ e. named (name_of e.0) ≡ Ok e.0) ps) (ok_same [] pairs is) tt
  names_of_members back (member name d more) pairs is =
      let n = bind_ok (named name) _ pairs is in
      let x = bind_ok (reads d) _ pairs n.2 in
      let rest = bind_ok (pairs_of named reads more) _ pairs x.2 in
      subst (λ (ps : List (K × A)). AllByRecursion (λ e. named (name_of e.0) ≡ Ok e.0) ps) (ok_same _ pairs rest.2)
      (ap named (back name n.0 n.1) ∙ n.1, names_of_members back more rest.0 rest.1)

  pub names_again : (back : (name : List ℕ) (k : K) → named name ≡ Ok k → name_of k ≡ name) (d : Option Data) (pairs : List (K × A)) → pairs_or_none named reads d ≡ Ok pairs
      → AllByRecursion (λ e. named (name_of e.0) ≡ Ok e.0) pairs
  names_again back None pairs is = subst (λ (ps : List (K × A)). AllByRecursion (λ e. named (name_of e.0) ≡ Ok e.0) ps) (ok_same [] pairs is) tt
  names_again back (Some d) pairs is =
      let ms = bind_ok (members_in d) _ pairs is in
      names_of_members back ms.0 pairs ms.2

  -- what was put of the pairs
  pub pairs_put : (name : List ℕ) (es : List (K × A)) (ms out : Members) → put_pairs name_of writes name es ms ≡ Ok out
      → (d : Option Data) × (some_pairs_json name_of writes es ≡ Ok d) × (put_some name d ms ≡ out)
  pairs_put name es ms out is =
      let w = bind_ok (some_pairs_json name_of writes es) _ out is in
      (w.0, w.1, ok_same (put_some name w.0 ms) out w.2)

same_options : {A : Type 0} (o p : Option A) → SameOptions (λ x y. x ≡ y) o p → p ≡ o
same_options None None h = refl
same_options (Some x) (Some y) h = ap Some (sym h)
same_options None (Some y) h = absurd h
same_options (Some x) None h = absurd h

module _ {A : Type 0} (writes : A → Result Data JsonError) (reads : Data → Result A JsonError) where
  -- what was put of a value that may be missing
  pub option_put : (name : List ℕ) (o : Option A) (ms out : Members) → put_option writes name o ms ≡ Ok out
      → (d : Option Data) × (option_json writes o ≡ Ok d) × (put_some name d ms ≡ out)
  option_put name o ms out is =
      let w = bind_ok (option_json writes o) _ out is in
      (w.0, w.1, ok_same (put_some name w.0 ms) out w.2)

  pub option_again : (e : JsonError) → reads null ≡ Err e → (o : Option A) (d : Option Data) → ((x : A) → o ≡ Some x → IsReadBack writes reads (λ x y. x ≡ y) x)
      → option_json writes o ≡ Ok d → optional reads d ≡ Ok o
  option_again e no_null o d own is =
      let r = optional_reads_back writes reads (IsReadBack writes reads (λ x y. x ≡ y)) (λ x y. x ≡ y) (λ x d own is. own d is) e no_null o d own is in
      r.is ∙ ap json_result (same_options o r.again r.equal)

-- an algorithm reads back
pub algorithm_back : (a : HashAlgorithm) → IsReadBack algorithm_json algorithm_in (λ x y. x ≡ y) a
algorithm_back Sha256 d is = subst (λ (d : Data). ReadsBack algorithm_in (λ x y. x ≡ y) Sha256 d) (ok_same _ d is) (record { again = Sha256; is = refl; equal = refl })

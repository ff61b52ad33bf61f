-- What was written of a state's parts reads back, and fits together where the state is coherent.
use Rattle.std.proofs.Common.{◌≡◌, refl, ap, ◌∙◌, subst}
use Rattle.std.specs.Prelude.{Bool, ℕ, List, [], ◌∷◌, true, ◌&&◌, Option, Some, None, is_some, is_none, Result, Ok}
use Rattle.serde_json.specs.Data.{Data}
use Rattle.warg_crypto.specs.declared.hash.HashAlgorithm.{HashAlgorithm}
use Rattle.warg_crypto.specs.declared.json.error.Incoherence.{Incoherence}
use Rattle.warg_crypto.specs.declared.json.error.JsonError.{JsonError}
use Rattle.warg_crypto.specs.declared.json.error.JsonError.TheVariants as fault
use Rattle.warg_crypto.specs.Json.Json.{IsReadBack}
use Rattle.warg_crypto.specs.Json.JsonTexts.{algorithm_in, algorithm_json, key_in, key_json}
use Rattle.warg_permissions.specs.KeyMaps.AuthorityData.{AuthorityData}
use Rattle.warg_saved_states.specs.Backs.{AreBack}
use Rattle.warg_saved_states.specs.Fit.{first_case, is_misplaced, is_nil, is_unknown}
use Rattle.warg_saved_states.specs.MapNames.{text_name, text_named}
use Rattle.warg_saved_states.proofs.FitBack.{begun_none, case_none, empty_none, keys_placed, nil_found, rights_known, rights_still, version_none}
use Rattle.warg_saved_states.proofs.MapsReadBack.{MapReadsBack, algorithm_back, option_again, pairs_again}
use Rattle.warg_saved_states.proofs.PutMembers.{AreApart}
use Rattle.warg_log.specs.HeadJson.{head_in, head_json}
use Rattle.warg_log.specs.Rules.{IsCoherent, Rules, View}
use Rattle.warg_log.specs.SavedMembers.{SavedParts, saved_in, saved_incoherence, saved_json}
use Rattle.warg_log.specs.States.{State, view_of_state}
use Rattle.warg_log.specs.declared.head.Head.{Head}
use Rattle.warg_log.proofs.SavedMembers.{read_written, written_as, written_members}

module _ {R K V L W : Type 0} (rights_json : R → Result Data JsonError) (rights_in : Data → Result R JsonError)
    (first : List ℕ) (first_name : K → List ℕ) (first_named : List ℕ → Result K JsonError) (first_json : V → Result Data JsonError) (first_in : Data → Result V JsonError)
    (second : List ℕ) (second_name : L → List ℕ) (second_named : List ℕ → Result L JsonError) (second_json : W → Result Data JsonError) (second_in : Data → Result W JsonError)
    (apart : (a h r x y : Option Data) → AreApart (written_members first second a h r x y))
    (algorithm : Option HashAlgorithm) (head : Option Head) (rights : List (List ℕ × R)) (firsts : List (K × V)) (seconds : List (L × W)) where
  -- what each map was written as and reads back as, and what is read of them all
  pub record PartsAgain (d : Data) : Type 0 where
    pub r : Option Data
    pub x : Option Data
    pub y : Option Data
    pub rights_again : MapReadsBack text_name text_named rights_json rights_in rights r
    pub firsts_again : MapReadsBack first_name first_named first_json first_in firsts x
    pub seconds_again : MapReadsBack second_name second_named second_json second_in seconds y
    pub is : saved_in rights_in first first_named first_in second second_named second_in d
        ≡ Ok (record { algorithm = algorithm; head = head; rights = rights_again.pairs; firsts = firsts_again.pairs; seconds = seconds_again.pairs })

  pub parts_again : (d : Data) → saved_json rights_json first first_name first_json second second_name second_json algorithm head rights firsts seconds ≡ Ok d
      → ((h : Head) → head ≡ Some h → IsReadBack head_json head_in (λ x y. x ≡ y) h) → AreBack text_name text_named rights_json rights_in rights
      → AreBack first_name first_named first_json first_in firsts → AreBack second_name second_named second_json second_in seconds → PartsAgain d
  parts_again d is head_back rights_back firsts_back seconds_back =
      let w = written_as rights_json first first_name first_json second second_name second_json algorithm head rights firsts seconds rights_in first_named first_in second_named second_in d is in
      let rights_read = pairs_again text_name text_named rights_json rights_in rights w.r rights_back w.is_r in
      let firsts_read = pairs_again first_name first_named first_json first_in firsts w.x firsts_back w.is_x in
      let seconds_read = pairs_again second_name second_named second_json second_in seconds w.y seconds_back w.is_y in
      let again : SavedParts R K V L W = record {
        algorithm = algorithm;
        head = head;
        rights = rights_read.pairs;
        firsts = firsts_read.pairs;
        seconds = seconds_read.pairs;
      } in
      record {
        r = w.r;
        x = w.x;
        y = w.y;
        rights_again = rights_read;
        firsts_again = firsts_read;
        seconds_again = seconds_read;
        is = subst (λ (d : Data). saved_in rights_in first first_named first_in second second_named second_in d ≡ Ok again) w.whole
            (read_written rights_in first first_named first_in second second_named second_in w.a w.h w.r w.x w.y (apart w.a w.h w.r w.x w.y)
            algorithm head rights_read.pairs firsts_read.pairs seconds_read.pairs
            (option_again algorithm_json algorithm_in fault.WrongType refl algorithm w.a (λ x at. algorithm_back x) w.is_a)
            (option_again head_json head_in fault.WrongType refl head w.h head_back w.is_h)
            rights_read.is firsts_read.is seconds_read.is);
      }

none_of : (a b c d e f g : Option Incoherence) → a ≡ None → b ≡ None → c ≡ None → d ≡ None → e ≡ None → f ≡ None → g ≡ None
    → first_case (a ∷ b ∷ c ∷ d ∷ e ∷ f ∷ g ∷ []) ≡ None
none_of a b c d e f g h i j k l m n = rw (h, i, j, k, l, m, n) refl

-- the parts of a coherent state that read back fit together, where nothing is wrong with the kind's own map
pub fits_again : {P O V F M K X L W : Type 0} (rules : Rules P O V F) (same : P → P → Bool) (view : M → V) (s : State (AuthorityData P) M) → IsCoherent rules same (view_of_state same view s)
    → (rights_json : List P → Result Data JsonError) (rights_in : Data → Result (List P) JsonError) (r y : Option Data)
    → AreBack text_name text_named rights_json rights_in s.authority.rights → AreBack text_name text_named key_json key_in s.authority.keys
    → (rights : MapReadsBack text_name text_named rights_json rights_in s.authority.rights r) (keys : MapReadsBack text_name text_named key_json key_in s.authority.keys y)
    → (before after : Option Incoherence) → before ≡ None → after ≡ None
    → (firsts : List (K × X)) (seconds : List (L × W)) → (is_none s.head ≡ true → is_nil keys.pairs ≡ true → (is_nil firsts && is_nil seconds) ≡ true)
    → saved_incoherence {R = List P} {K = K} {V = X} {L = L} {W = W} before keys.pairs after
    (record { algorithm = s.authority.algorithm; head = s.head; rights = rights.pairs; firsts = firsts; seconds = seconds }) ≡ None
fits_again {P = P} {V = V} rules same view s coherent rights_json rights_in r y rights_back keys_back rights keys before after no_before no_after firsts seconds no_maps =
    let start : is_none s.head ≡ true → (is_nil rights.pairs && (is_nil firsts && is_nil seconds)) ≡ true = λ none.
    let at = coherent.empty none in
    let no_rights = rights.nil ∙ nil_found s.authority.rights (λ q. ap (λ (v : View P V). v.state.authority.has_entry q) at) in
    let no_keys = keys.nil ∙ nil_found s.authority.keys (λ q. ap (λ (v : View P V). is_some (v.state.authority.key q)) at) in
    let nil_maps = no_maps none no_keys in
    λ i. no_rights i && nil_maps i in
    let known = rights_known s.authority.rights s.authority.keys rights_back.unique coherent.keyed.known in
    let unknown = rights.none_pass (λ e. is_unknown s.authority.keys e.0) known in
    let placed = keys_placed s.authority.keys keys_back.unique coherent.keyed.under in
    none_of _ _ _ _ _ _ _
    (begun_none (λ (h : Head). h.version) s.authority.algorithm s.head coherent.begun)
    (empty_none (λ (h : Head). h.version) s.authority.algorithm s.head _ coherent.begun start)
    no_before
    (case_none _ _ (keys.none_pass is_misplaced placed))
    no_after
    (case_none _ _ (rights_still rights.pairs s.authority.keys keys.pairs unknown keys.at))
    (version_none (λ (h : Head). h.version) s.head coherent.versioned)

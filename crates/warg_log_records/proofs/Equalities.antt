-- Which tests of the public types' parts say that their plain data are one.
use Rattle.std.proofs.Common.{◌≡◌, ℕ, nat_eq, ◌==◌, Bool, true, false, ◌&&◌, List, [], ◌∷◌, map, Option, Some, None, refl, ap, sym, subst, ◌∙◌}
use Rattle.std.specs.Bool.{Decides}
use Rattle.std.specs.Cmp.Lexicographic.{pointwise}
use Rattle.std.specs.Option.{option_eq}
use Rattle.std.specs.Str.{bytes_eq}
use Rattle.std.proofs.lemmas.Bool.Decides.{Decides-and, Decides-eqb, Decides-int_eq, Decides-like}
use Rattle.std.proofs.lemmas.Slice.Eq.{bytes_eq-Decides, slice_eq-Decides}
use Rattle.std.proofs.lemmas.Cmp.{nat_eq_equiv}
use Rattle.semver.specs.Identifiers.{parts_of, pre_text, build_text}
use Rattle.semver.specs.declared.Version.{Version}
use Rattle.warg_crypto.specs.NamedBytes.{NamedBytes, same_named_bytes}
use Rattle.warg_crypto.specs.Time.Times.{Time, same_time}
use Rattle.warg_crypto.specs.declared.hash.AnyHash.{AnyHash}
use Rattle.warg_crypto.specs.declared.hash.HashAlgorithm.{HashAlgorithm}
use Rattle.warg_crypto.specs.declared.hash.HashAlgorithm.TheVariants.{Sha256}
use Rattle.warg_log_records.specs.declared.log_record.LogRecord.{LogRecord}
use Rattle.warg_log_records.specs.RecordData.{EntryData, Shared, Init, GrantFlat, RevokeFlat, RecordData}
use Rattle.warg_log_records.specs.declared.record_id.RecordId.{RecordId}

-- the test of two values says that they look alike, so that of two lists does
pub lists_decided : {K D : Type 0} (view : K → D) (test : K → K → Bool) → ((a b : K) → Decides (test a b) (view a ≡ view b))
    → (xs ys : List K) → Decides (pointwise test xs ys) (map view xs ≡ map view ys)
lists_decided view test each [] [] = (λ _. refl, λ _. refl)
lists_decided view test each [] (y ∷ ys) = (λ (h : false ≡ true). cc, λ (h : [] ≡ map view (y ∷ ys)). cc)
lists_decided view test each (x ∷ xs) [] = (λ (h : false ≡ true). cc, λ (h : map view (x ∷ xs) ≡ []). cc)
lists_decided view test each (x ∷ xs) (y ∷ ys) =
    Decides-like _ (λ h i. h.0 i ∷ h.1 i) (λ (h : map view (x ∷ xs) ≡ map view (y ∷ ys)). (cc, cc))
    (Decides-and _ _ (each x y) (lists_decided view test each xs ys))

pub options_decided : {K : Type 0} (test : K → K → Bool) → ((a b : K) → Decides (test a b) (a ≡ b))
    → (o p : Option K) → Decides (option_eq test o p) (o ≡ p)
options_decided test each None None = (λ _. refl, λ _. refl)
options_decided test each None (Some y) = (λ (h : false ≡ true). cc, λ (h : None ≡ Some y). cc)
options_decided test each (Some x) None = (λ (h : false ≡ true). cc, λ (h : Some x ≡ None). cc)
options_decided test each (Some x) (Some y) = Decides-like _ (λ h. ap (λ z. Some z) h) (λ (h : Some x ≡ Some y). cc) (each x y)

pub tag_decided : (a b : NamedBytes) → Decides (same_named_bytes a b) (a ≡ b)
tag_decided a b =
    Decides-like _ (λ h i. record { name = h.0 i; bytes = h.1 i }) (λ h. (λ i. (h i).name, λ i. (h i).bytes))
    (Decides-and _ _ (bytes_eq-Decides a.name b.name) (bytes_eq-Decides a.bytes b.bytes))

pub time_decided : (a b : Time) → Decides (same_time a b) (a ≡ b)
time_decided a b =
    Decides-like _ (λ h i. record { seconds = h.0 i; nanos = h.1 i }) (λ h. (λ i. (h i).seconds, λ i. (h i).nanos))
    (Decides-and _ _ (Decides-int_eq a.seconds b.seconds) (Decides-eqb a.nanos b.nanos))

abbrev IsFalse : Bool → Type 0
IsFalse true = ⊥
IsFalse false = Unit {0}

-- two values of different cases, by the numbers of their plain data's cases
pub cases_decided : {D : Type 0} (case_of : D → ℕ) (r : Bool) (d e : D) → r ≡ false → nat_eq (case_of d) (case_of e) ≡ false → Decides r (d ≡ e)
cases_decided case_of r d e is_false differ = (
  λ h. absurd (subst IsFalse (sym is_false ∙ h) tt),
  λ h. absurd (subst IsFalse (sym (subst (λ (x : _). nat_eq (case_of d) (case_of x) ≡ false) (sym h) differ) ∙ nat_eq_equiv.refl (case_of d)) tt),
)

pub version_decided : (v w : Version) →
    Decides ((v.major == w.major) && ((v.minor == w.minor) && ((v.patch == w.patch) && (bytes_eq (pre_text v.pre) (pre_text w.pre) && bytes_eq (build_text v.build) (build_text w.build)))))
    (parts_of v ≡ parts_of w)
version_decided v w =
    Decides-like _ (λ h i. (h.0 i, h.1.0 i, h.1.1.0 i, h.1.1.1.0 i, h.1.1.1.1 i)) (λ h. (λ i. (h i).0, (λ i. (h i).1, (λ i. (h i).2, (λ i. (h i).3, λ i. (h i).4)))))
    (Decides-and _ _ (Decides-eqb v.major w.major) (Decides-and _ _ (Decides-eqb v.minor w.minor) (Decides-and _ _ (Decides-eqb v.patch w.patch)
    (Decides-and _ _ (bytes_eq-Decides (pre_text v.pre) (pre_text w.pre)) (bytes_eq-Decides (build_text v.build) (build_text w.build))))))

one_algorithm : (a b : HashAlgorithm) → a ≡ b
one_algorithm Sha256 Sha256 = refl

pub hash_decided : (g h : AnyHash) → Decides (bytes_eq g.bytes h.bytes) (g ≡ h)
hash_decided g h =
    Decides-like _ (λ e i. record { algorithm = one_algorithm g.algorithm h.algorithm i; bytes = e i }) (λ e i. (e i).bytes) (bytes_eq-Decides g.bytes h.bytes)

pub id_decided : (a b : RecordId) → Decides (bytes_eq a.hash.bytes b.hash.bytes) (a ≡ b)
id_decided a b = Decides-like _ (λ e i. record { hash = e i }) (λ e i. (e i).hash) (hash_decided a.hash b.hash)

-- the entries that both kinds have
module _ {P O : Type 0} (test : P → P → Bool) (each : (p q : P) → Decides (test p q) (p ≡ q)) where
  abbrev begun : NamedBytes → EntryData P O
  begun k = Shared (Init Sha256 k)

  abbrev granted : NamedBytes → List P → EntryData P O
  granted k ps = Shared (GrantFlat k ps)

  abbrev revoked : List ℕ → List P → EntryData P O
  revoked k ps = Shared (RevokeFlat k ps)

  pub init_decided : (k l : NamedBytes) → Decides (same_named_bytes k l) (begun k ≡ begun l)
  init_decided k l = Decides-like _ (λ h i. begun (h i)) (λ (h : begun k ≡ begun l). cc) (tag_decided k l)

  pub grant_decided : (k l : NamedBytes) (ps qs : List P) → Decides (same_named_bytes k l && pointwise test ps qs) (granted k ps ≡ granted l qs)
  grant_decided k l ps qs =
      Decides-like _ (λ h i. granted (h.0 i) (h.1 i)) (λ (h : granted k ps ≡ granted l qs). (cc, cc))
      (Decides-and _ _ (tag_decided k l) (slice_eq-Decides each ps qs _ refl))

  pub revoke_decided : (k l : List ℕ) (ps qs : List P) → Decides (bytes_eq k l && pointwise test ps qs) (revoked k ps ≡ revoked l qs)
  revoke_decided k l ps qs =
      Decides-like _ (λ h i. revoked (h.0 i) (h.1 i)) (λ (h : revoked k ps ≡ revoked l qs). (cc, cc))
      (Decides-and _ _ (bytes_eq-Decides k l) (slice_eq-Decides each ps qs _ refl))

-- records, by their entries' test
abbrev same_id : RecordId → RecordId → Bool
same_id a b = bytes_eq a.hash.bytes b.hash.bytes

abbrev record_from : {P O : Type 0} → Option RecordId → ℕ → Time → List (EntryData P O) → RecordData P O
record_from prev version time entries = record { prev = prev; version = version; time = time; entries = entries }

pub record_decided : {E P O : Type 0} (entry_data : E → EntryData P O) (test : E → E → Bool) → ((a b : E) → Decides (test a b) (entry_data a ≡ entry_data b))
    → (p q : Option RecordId) (v w : ℕ) (s t : Time) (es fs : List E)
    → Decides (option_eq same_id p q && ((v == w) && (same_time s t && pointwise test es fs)))
    (record_from p v s (map entry_data es) ≡ record_from q w t (map entry_data fs))
record_decided entry_data test each p q v w s t es fs =
    Decides-like _ (λ h i. record_from (h.0 i) (h.1.0 i) (h.1.1.0 i) (h.1.1.1 i)) (λ h. (λ i. (h i).prev, (λ i. (h i).version, (λ i. (h i).time, λ i. (h i).entries))))
    (Decides-and _ _ (options_decided same_id id_decided p q) (Decides-and _ _ (Decides-eqb v w) (Decides-and _ _ (time_decided s t) (lists_decided entry_data test each es fs))))

-- whether the records are equal, by the equality of their entries
abbrev pub same_record : {E : Type 0} → (E → E → Bool) → LogRecord E → LogRecord E → Bool
same_record test a b = option_eq same_id a.prev b.prev && ((a.version == b.version) && (same_time a.timestamp b.timestamp && pointwise test a.entries.items b.entries.items))

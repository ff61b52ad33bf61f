-- Which tests of messages say that their plain data are one.
use Rattle.std.proofs.Common.{◌≡◌, ℕ, ℤ, nat_eq, ◌==◌, Bool, true, false, ◌&&◌, List, [], ◌∷◌, map, Option, Some, None, String, Global, refl, ap, sym, subst, ◌∙◌}
use Rattle.std.specs.Bool.{Decides}
use Rattle.std.specs.Cmp.Lexicographic.{pointwise}
use Rattle.std.specs.Global.{Vec}
use Rattle.std.specs.Option.{option_eq}
use Rattle.std.specs.Ordering.{int_eq}
use Rattle.std.specs.Prelude.{string_bytes}
use Rattle.std.specs.Str.{bytes_eq}
use Rattle.std.proofs.lemmas.Bool.Decides.{Decides-and, Decides-eqb, Decides-int_eq, Decides-like}
use Rattle.std.proofs.lemmas.Cmp.{nat_eq_equiv}
use Rattle.std.proofs.lemmas.Slice.Eq.{bytes_eq-Decides, slice_eq-Decides}
use Rattle.warg_protobuf.specs.DefineNamespace.{define_namespace_view}
use Rattle.warg_protobuf.specs.Entry.{Member}
use Rattle.warg_protobuf.specs.Entry as oneof
use Rattle.warg_protobuf.specs.GrantFlat.{grant_flat_view}
use Rattle.warg_protobuf.specs.ImportNamespace.{import_namespace_view}
use Rattle.warg_protobuf.specs.Init.{init_view}
use Rattle.warg_protobuf.specs.Record.{record_view}
use Rattle.warg_protobuf.specs.Release.{release_view}
use Rattle.warg_protobuf.specs.RevokeFlat.{revoke_flat_view}
use Rattle.warg_protobuf.specs.Timestamp.{timestamp_view}
use Rattle.warg_protobuf.specs.Views.{option_view}
use Rattle.warg_protobuf.specs.Yank.{yank_view}
use Rattle.warg_protobuf.specs.declared.define_namespace.OperatorDefineNamespace.{OperatorDefineNamespace}
use Rattle.warg_protobuf.specs.declared.grant_flat.GrantFlat.{GrantFlat}
use Rattle.warg_protobuf.specs.declared.import_namespace.OperatorImportNamespace.{OperatorImportNamespace}
use Rattle.warg_protobuf.specs.declared.init.Init.{Init}
use Rattle.warg_protobuf.specs.declared.record.Record.{Record}
use Rattle.warg_protobuf.specs.declared.release.PackageRelease.{PackageRelease}
use Rattle.warg_protobuf.specs.declared.revoke_flat.RevokeFlat.{RevokeFlat}
use Rattle.warg_protobuf.specs.declared.timestamp.TimestampPair.{TimestampPair}
use Rattle.warg_protobuf.specs.declared.yank.PackageYank.{PackageYank}
use Rattle.warg_protobuf.specs.contracts.define_namespace.OperatorDefineNamespacePartialEq.TheImpl as definitions
use Rattle.warg_protobuf.specs.contracts.grant_flat.GrantFlatPartialEq.TheImpl as grants
use Rattle.warg_protobuf.specs.contracts.import_namespace.OperatorImportNamespacePartialEq.TheImpl as imports
use Rattle.warg_protobuf.specs.contracts.init.InitPartialEq.TheImpl as inits
use Rattle.warg_protobuf.specs.contracts.release.PackageReleasePartialEq.TheImpl as releases
use Rattle.warg_protobuf.specs.contracts.revoke_flat.RevokeFlatPartialEq.TheImpl as revocations
use Rattle.warg_protobuf.specs.contracts.timestamp.TimestampPairPartialEq.TheImpl as times
use Rattle.warg_protobuf.specs.contracts.yank.PackageYankPartialEq.TheImpl as yanks

-- the test of two values says that they look alike, so that of two lists does
pub lists_decided : {K D : Type 0} (view : K → D) (test : K → K → Bool) → ((a b : K) → Decides (test a b) (view a ≡ view b))
    → (xs ys : List K) → Decides (pointwise test xs ys) (map view xs ≡ map view ys)
lists_decided view test each [] [] = (λ _. refl, λ _. refl)
lists_decided view test each [] (y ∷ ys) = (λ (h : false ≡ true). cc, λ (h : [] ≡ map view (y ∷ ys)). cc)
lists_decided view test each (x ∷ xs) [] = (λ (h : false ≡ true). cc, λ (h : map view (x ∷ xs) ≡ []). cc)
lists_decided view test each (x ∷ xs) (y ∷ ys) =
    Decides-like _ (λ h i. h.0 i ∷ h.1 i) (λ (h : map view (x ∷ xs) ≡ map view (y ∷ ys)). (cc, cc))
    (Decides-and _ _ (each x y) (lists_decided view test each xs ys))

-- and so does that of two options
pub options_decided : {K D : Type 0} (view : K → D) (test : K → K → Bool) → ((a b : K) → Decides (test a b) (view a ≡ view b))
    → (o p : Option K) → Decides (option_eq test o p) (option_view view o ≡ option_view view p)
options_decided view test each None None = (λ _. refl, λ _. refl)
options_decided view test each None (Some y) = (λ (h : false ≡ true). cc, λ (h : None ≡ option_view view (Some y)). cc)
options_decided view test each (Some x) None = (λ (h : false ≡ true). cc, λ (h : option_view view (Some x) ≡ None). cc)
options_decided view test each (Some x) (Some y) =
    Decides-like _ (λ h. ap (λ z. Some z) h) (λ (h : option_view view (Some x) ≡ option_view view (Some y)). cc) (each x y)

abbrev IsFalse : Bool → Type 0
IsFalse true = ⊥
IsFalse false = Unit {0}

-- two values of different cases, by the numbers of their plain data's cases
pub cases_decided : {D : Type 0} (case_of : D → ℕ) (r : Bool) (d e : D) → r ≡ false → nat_eq (case_of d) (case_of e) ≡ false → Decides r (d ≡ e)
cases_decided case_of r d e is_false differ = (
  λ h. absurd (subst IsFalse (sym is_false ∙ h) tt),
  λ h. absurd (subst IsFalse (sym (subst (λ (x : _). nat_eq (case_of d) (case_of x) ≡ false) (sym h) differ) ∙ nat_eq_equiv.refl (case_of d)) tt),
)

pub texts_decided : (s t : String Global) → Decides (bytes_eq (string_bytes s) (string_bytes t)) (string_bytes s ≡ string_bytes t)
texts_decided s t = bytes_eq-Decides (string_bytes s) (string_bytes t)

pub numbers_decided : (xs ys : Vec ℤ) → Decides (pointwise int_eq xs.items ys.items) (xs.items ≡ ys.items)
numbers_decided xs ys = slice_eq-Decides Decides-int_eq xs.items ys.items _ refl

pub time_decided : (a b : TimestampPair) → Decides ((times.ghosts).eq a b) (timestamp_view a ≡ timestamp_view b)
time_decided a b =
    Decides-like _ (λ h i. record { seconds = h.0 i; nanos = h.1 i }) (λ h. (λ i. (h i).seconds, λ i. (h i).nanos))
    (Decides-and _ _ (Decides-int_eq a.seconds b.seconds) (Decides-int_eq a.nanos b.nanos))

pub init_decided : (a b : Init) → Decides ((inits.ghosts).eq a b) (init_view a ≡ init_view b)
init_decided a b =
    Decides-like _ (λ h i. record { key = h.0 i; hash_algorithm = h.1 i }) (λ h. (λ i. (h i).key, λ i. (h i).hash_algorithm))
    (Decides-and _ _ (texts_decided a.key b.key) (texts_decided a.hash_algorithm b.hash_algorithm))

pub grant_decided : (a b : GrantFlat) → Decides ((grants.ghosts).eq a b) (grant_flat_view a ≡ grant_flat_view b)
grant_decided a b =
    Decides-like _ (λ h i. record { key = h.0 i; permissions = h.1 i }) (λ h. (λ i. (h i).key, λ i. (h i).permissions))
    (Decides-and _ _ (texts_decided a.key b.key) (numbers_decided a.permissions b.permissions))

pub revocation_decided : (a b : RevokeFlat) → Decides ((revocations.ghosts).eq a b) (revoke_flat_view a ≡ revoke_flat_view b)
revocation_decided a b =
    Decides-like _ (λ h i. record { key_id = h.0 i; permissions = h.1 i }) (λ h. (λ i. (h i).key_id, λ i. (h i).permissions))
    (Decides-and _ _ (texts_decided a.key_id b.key_id) (numbers_decided a.permissions b.permissions))

pub release_decided : (a b : PackageRelease) → Decides ((releases.ghosts).eq a b) (release_view a ≡ release_view b)
release_decided a b =
    Decides-like _ (λ h i. record { version = h.0 i; content_hash = h.1 i }) (λ h. (λ i. (h i).version, λ i. (h i).content_hash))
    (Decides-and _ _ (texts_decided a.version b.version) (texts_decided a.content_hash b.content_hash))

pub yank_decided : (a b : PackageYank) → Decides ((yanks.ghosts).eq a b) (yank_view a ≡ yank_view b)
yank_decided a b = Decides-like _ (λ h i. record { version = h i }) (λ h i. (h i).version) (texts_decided a.version b.version)

pub definition_decided : (a b : OperatorDefineNamespace) → Decides ((definitions.ghosts).eq a b) (define_namespace_view a ≡ define_namespace_view b)
definition_decided a b = Decides-like _ (λ h i. record { namespace = h i }) (λ h i. (h i).namespace) (texts_decided a.namespace b.namespace)

pub import_decided : (a b : OperatorImportNamespace) → Decides ((imports.ghosts).eq a b) (import_namespace_view a ≡ import_namespace_view b)
import_decided a b =
    Decides-like _ (λ h i. record { namespace = h.0 i; registry = h.1 i }) (λ h. (λ i. (h i).namespace, λ i. (h i).registry))
    (Decides-and _ _ (texts_decided a.namespace b.namespace) (texts_decided a.registry b.registry))

-- the members of an entry's oneof
module _ {F G : Type 0} where
  abbrev pub case_of : Member F G → ℕ
  case_of (oneof.Init m) = 0
  case_of (oneof.GrantFlat m) = 1
  case_of (oneof.RevokeFlat m) = 2
  case_of (oneof.FirstOwn m) = 3
  case_of (oneof.SecondOwn m) = 4

  abbrev begun : Init → Member F G
  begun m = oneof.Init (init_view m)

  abbrev granted : GrantFlat → Member F G
  granted m = oneof.GrantFlat (grant_flat_view m)

  abbrev revoked : RevokeFlat → Member F G
  revoked m = oneof.RevokeFlat (revoke_flat_view m)

  pub begun_decided : (m n : Init) → Decides ((inits.ghosts).eq m n) (begun m ≡ begun n)
  begun_decided m n = Decides-like _ (λ h i. oneof.Init (h i)) (λ (h : begun m ≡ begun n). cc) (init_decided m n)

  pub granted_decided : (m n : GrantFlat) → Decides ((grants.ghosts).eq m n) (granted m ≡ granted n)
  granted_decided m n = Decides-like _ (λ h i. oneof.GrantFlat (h i)) (λ (h : granted m ≡ granted n). cc) (grant_decided m n)

  pub revoked_decided : (m n : RevokeFlat) → Decides ((revocations.ghosts).eq m n) (revoked m ≡ revoked n)
  revoked_decided m n = Decides-like _ (λ h i. oneof.RevokeFlat (h i)) (λ (h : revoked m ≡ revoked n). cc) (revocation_decided m n)

-- records, by a test of what holds their entries
abbrev same_text : String Global → String Global → Bool
same_text s t = bytes_eq (string_bytes s) (string_bytes t)

abbrev same_time : TimestampPair → TimestampPair → Bool
same_time = (times.ghosts).eq

abbrev pub same_fields : {L : Type 0} → (L → L → Bool) → Record L → Record L → Bool
same_fields test a b = option_eq same_text a.prev b.prev && ((a.version == b.version) && (option_eq same_time a.time b.time && test a.entries b.entries))

pub fields_decided : {L E : Type 0} (test : L → L → Bool) (a b : Record L) → Decides (test a.entries b.entries) E
    → Decides (same_fields test a b)
    ((option_view string_bytes a.prev ≡ option_view string_bytes b.prev) × (a.version ≡ b.version) × (option_view timestamp_view a.time ≡ option_view timestamp_view b.time) × E)
fields_decided test a b held =
    Decides-like _ (λ h. (h.0, h.1.0, h.1.1.0, h.1.1.1)) (λ h. (h.0, (h.1, (h.2, h.3))))
    (Decides-and _ _ (options_decided string_bytes same_text texts_decided a.prev b.prev)
    (Decides-and _ _ (Decides-eqb a.version b.version) (Decides-and _ _ (options_decided timestamp_view same_time time_decided a.time b.time) held)))

abbrev pub same_record : {E : Type 0} → (E → E → Bool) → Record (Vec E) → Record (Vec E) → Bool
same_record test a b = same_fields (λ es fs. pointwise test es.items fs.items) a b

pub record_decided : {E D : Type 0} (entry_view : E → D) (test : E → E → Bool) → ((a b : E) → Decides (test a b) (entry_view a ≡ entry_view b))
    → (a b : Record (Vec E)) → Decides (same_record test a b) (record_view (λ es. map entry_view es.items) a ≡ record_view (λ es. map entry_view es.items) b)
record_decided entry_view test each a b =
    Decides-like _ (λ h i. record { prev = h.0 i; version = h.1 i; time = h.2 i; entries = h.3 i }) (λ h. (λ i. (h i).prev, λ i. (h i).version, λ i. (h i).time, λ i. (h i).entries))
    (fields_decided (λ es fs. pointwise test es.items fs.items) a b (lists_decided entry_view test each a.entries.items b.entries.items))

-- What is made of what is kept is what the fields say: for each message whose fields fit.
use Rattle.std.proofs.Common.{◌≡◌, ℕ, List, [], ◌∷◌, ◌++◌, Bool, true, false, cond, eqb, Option, Some, None, Result, Ok, Err, refl, sym, ap, subst, ◌∙◌, append_assoc}
use Rattle.std.specs.List.{fold}
use Rattle.std.proofs.lemmas.List.{append-nil}
use Rattle.std.proofs.lemmas.Bool.{eqb-true}
use Rattle.std.specs.Prelude.{IfErr, IsOk}
use Rattle.warg_protobuf.specs.declared.error.WireError.{WireError}
use Rattle.warg_protobuf.specs.declared.error.WireError.TheVariants.{Truncated, VarintTooLong, BadKey, Group, WrongWireType, NotUtf8, OutOfMemory}
use Rattle.warg_protobuf.specs.Field.{Payload, Number, Eight, Bytes, Four, wire_type, Field}
use Rattle.warg_protobuf.specs.Table.{Table, takes, Fits}
use Rattle.warg_protobuf.specs.Reading.{◌>>=◌, fields_of, fault_in, payload_fault, unless}
use Rattle.warg_protobuf.specs.Values.{kept_of, message_of, bytes_in, field_contents, of_bytes, piece_at, pieces_at, present, joined_of, merged_of}
use Rattle.warg_protobuf.specs.Envelope.{envelope_table, EnvelopeValue, IsEnvelope, IsEnvelopeOf, envelope_from, envelope_of}
use Rattle.warg_protobuf.specs.Init.{init_table, init_from}
use Rattle.warg_protobuf.specs.GrantFlat.{grant_flat_table, grant_flat_from}
use Rattle.warg_protobuf.specs.RevokeFlat.{revoke_flat_table, revoke_flat_from}
use Rattle.warg_protobuf.specs.Release.{release_table, release_from}
use Rattle.warg_protobuf.specs.Yank.{yank_table, yank_from}
use Rattle.warg_protobuf.specs.DefineNamespace.{define_namespace_table, define_namespace_from}
use Rattle.warg_protobuf.specs.ImportNamespace.{import_namespace_table, import_namespace_from}
use Rattle.warg_protobuf.specs.Timestamp.{timestamp_table, TimestampValue, timestamp_from}
use Rattle.warg_protobuf.specs.Record.{record_table, RecordValue, record_from, gathered_of}
use Rattle.warg_protobuf.specs.Meaning.{Agrees, Computes}
use Rattle.warg_protobuf.specs.Views.{Fails, option_view}
use Rattle.warg_protobuf.specs.MessageDrafts.{kept_after, no_text, one_text_with, no_texts, two_texts_with, nothing_kept, text_and_numbers_with, TimestampKept, timestamp_with, no_time, time_made, no_parts, envelope_with, RecordKept, no_record, with_last, time_with, record_with, init_made, release_made, import_namespace_made, yank_made, define_namespace_made, grant_flat_made, revoke_flat_made, record_made}
use Rattle.warg_protobuf.proofs.Kept.{one_text_after, two_texts_after, text_and_numbers_after, timestamp_after, envelope_after, record_after, splits, fold-joined}
use Rattle.warg_protobuf.proofs.Meanings.{ok_same, ok_err, err_same, signed_has, pieces_fit, pieces_have, listed_has}
use Rattle.warg_protobuf.proofs.Decoding.{Fails-at, computes}
use Rattle.warg_protobuf.proofs.EnvelopeLaws.{envelope_agrees}
use Rattle.warg_protobuf.proofs.Tables.{AnswerSays, answer_says}
use Rattle.warg_protobuf.proofs.TextLaws.{text_at, optional_at}

-- where the fields fit, the value is made of what is kept of them
abbrev pub Finishes : {K V : Type 0} → Table → (List Field → Result V WireError) → (K → Field → K) → K → (K → V) → Type 0
Finishes T value with_field empty made = (fs : List Field) → Fits T fs → value fs ≡ Ok (made (fold with_field empty fs))

module _ {K V : Type 0} (T : Table) (value : List Field → Result V WireError) (with_field : K → Field → K) (empty : K) (made : K → V) (finishes : Finishes T value with_field empty made) (bytes : List ℕ) where
  finished_at : (read : Result (List Field) WireError) → AnswerSays T bytes read → (read >>= value) ≡ (kept_of with_field empty read >>= λ k. Ok (made k))
  finished_at (Ok fs) says = finishes fs says.fit
  finished_at (Err e) says = refl

  pub finished : message_of T value bytes ≡ (kept_of with_field empty (fields_of T bytes) >>= λ k. Ok (made k))
  finished = finished_at (fields_of T bytes) (answer_says T bytes)

  pub finished_as : (k : K) (v : V) → kept_of with_field empty (fields_of T bytes) ≡ Ok k → v ≡ made k → message_of T value bytes ≡ Ok v
  finished_as k v e is = finished ∙ ap (λ (r : Result K WireError). r >>= λ j. Ok (made j)) e ∙ ap (λ (w : V). Ok w) (sym is)

  -- where all fields were kept, the bytes say a message, so memory may be refused for its parts
  pub may_take : {W : Type 0} (r : Result W WireError) (k : K) → kept_of with_field empty (fields_of T bytes) ≡ Ok k → IfErr r (λ e. e ≡ OutOfMemory → IsOk (message_of T value bytes))
  may_take (Ok w) k e = tt
  may_take (Err f) k e = λ _. subst IsOk (sym (finished_as k (made k) e refl)) refl

-- ---- texts and numbers

pub yank_finishes : Finishes yank_table yank_from one_text_with no_text yank_made
unfolding yank_from
yank_finishes fs fit = rw (text_at yank_table 1 (λ p h. h) fs fit, one_text_after no_text fs) refl

pub define_namespace_finishes : Finishes define_namespace_table define_namespace_from one_text_with no_text define_namespace_made
unfolding define_namespace_from
define_namespace_finishes fs fit = rw (text_at define_namespace_table 1 (λ p h. h) fs fit, one_text_after no_text fs) refl

pub init_finishes : Finishes init_table init_from two_texts_with no_texts init_made
unfolding init_from
init_finishes fs fit = rw (text_at init_table 1 (λ p h. h) fs fit, text_at init_table 2 (λ p h. h) fs fit, two_texts_after no_texts fs) refl

pub release_finishes : Finishes release_table release_from two_texts_with no_texts release_made
unfolding release_from
release_finishes fs fit = rw (text_at release_table 1 (λ p h. h) fs fit, text_at release_table 2 (λ p h. h) fs fit, two_texts_after no_texts fs) refl

pub import_namespace_finishes : Finishes import_namespace_table import_namespace_from two_texts_with no_texts import_namespace_made
unfolding import_namespace_from
import_namespace_finishes fs fit = rw (text_at import_namespace_table 1 (λ p h. h) fs fit, text_at import_namespace_table 2 (λ p h. h) fs fit, two_texts_after no_texts fs) refl

pub grant_flat_finishes : Finishes grant_flat_table grant_flat_from text_and_numbers_with nothing_kept grant_flat_made
unfolding grant_flat_from
grant_flat_finishes fs fit =
    let s = signed_has grant_flat_table 2 (λ p h. h) fs fit in
    rw (text_at grant_flat_table 1 (λ p h. h) fs fit, s.gives, text_and_numbers_after nothing_kept fs s.value s.gives) refl

pub revoke_flat_finishes : Finishes revoke_flat_table revoke_flat_from text_and_numbers_with nothing_kept revoke_flat_made
unfolding revoke_flat_from
revoke_flat_finishes fs fit =
    let s = signed_has revoke_flat_table 2 (λ p h. h) fs fit in
    rw (text_at revoke_flat_table 1 (λ p h. h) fs fit, s.gives, text_and_numbers_after nothing_kept fs s.value s.gives) refl

pub timestamp_finishes : Finishes timestamp_table timestamp_from timestamp_with no_time time_made
unfolding timestamp_from
timestamp_finishes fs fit = rw (timestamp_after no_time fs) refl

pub envelope_finishes : Finishes envelope_table envelope_from envelope_with no_parts (λ (v : EnvelopeValue). v)
unfolding envelope_from
envelope_finishes fs fit = rw (text_at envelope_table 2 (λ p h. h) fs fit, text_at envelope_table 3 (λ p h. h) fs fit, envelope_after no_parts fs) refl

-- ---- a borrowed envelope

module _ (bytes : List ℕ) where
  pub view_computes : Computes envelope_table envelope_of IsEnvelope bytes
  view_computes = computes envelope_table envelope_from IsEnvelopeOf envelope_agrees bytes

  pub view_is : (v : EnvelopeValue) → kept_of envelope_with no_parts (fields_of envelope_table bytes) ≡ Ok v → envelope_of bytes ≡ Ok v
  view_is v e = finished_as envelope_table envelope_from envelope_with no_parts (λ (w : EnvelopeValue). w) envelope_finishes bytes v v e refl

  pub view_fails : (e : WireError) → Fails e (kept_of envelope_with no_parts (fields_of envelope_table bytes)) → (e ≡ OutOfMemory → ⊥) → envelope_of bytes ≡ Err e
  view_fails e h n =
      finished envelope_table envelope_from envelope_with no_parts (λ (w : EnvelopeValue). w) envelope_finishes bytes
      ∙ ap (λ (r : Result EnvelopeValue WireError). r >>= λ w. Ok w) (Fails-at e (kept_of envelope_with no_parts (fields_of envelope_table bytes)) h n)

-- ---- records

-- the pieces of a time, as they come
time_more : (k : TimestampKept) (fs ps : List Field) → pieces_at timestamp_table 3 fs ≡ Ok ps → fold time_with (Some k) (field_contents 3 fs) ≡ Some (fold timestamp_with k ps)
time_more k [] ps e = rw (← ok_same [] ps e) refl
time_more k (f ∷ fs) ps e =
    let s = splits (piece_at timestamp_table 3 f) (pieces_at timestamp_table 3 fs) ps e in
    let one = by (eqb f.number 3) f.payload s.0 s.2 in
    sym (fold-joined time_with (Some k) (cond (eqb f.number 3) (bytes_in f.payload) []) (field_contents 3 fs))
    ∙ ap (λ (o : Option TimestampKept). fold time_with o (field_contents 3 fs)) one
    ∙ time_more (fold timestamp_with k s.0) fs s.1 s.3
    ∙ ap (λ (j : TimestampKept). Some j) (fold-joined timestamp_with k s.0 s.1 ∙ ap (fold timestamp_with k) (sym s.4))
  where
    by : (b : Bool) (p : Payload) (us : List Field) → cond b (of_bytes (fields_of timestamp_table) p) (Ok []) ≡ Ok us → fold time_with (Some k) (cond b (bytes_in p) []) ≡ Some (fold timestamp_with k us)
    by true (Bytes c) us h = ap (λ (r : Result (List Field) WireError). Some (kept_after timestamp_with k r)) h
    by true (Number v) us h = rw (← ok_same [] us h) refl
    by true (Eight c) us h = rw (← ok_same [] us h) refl
    by true (Four c) us h = rw (← ok_same [] us h) refl
    by false p us h = rw (← ok_same [] us h) refl

time_from_none : (entry : Table) (fs ps : List Field) → Fits (record_table entry) fs → pieces_at timestamp_table 3 fs ≡ Ok ps
    → fold time_with None (field_contents 3 fs) ≡ cond (present 3 fs) (Some (fold timestamp_with no_time ps)) None
time_from_none entry [] ps fit e = refl
time_from_none entry (f ∷ fs) ps fit e =
    let s = splits (piece_at timestamp_table 3 f) (pieces_at timestamp_table 3 fs) ps e in
    sym (fold-joined time_with None (cond (eqb f.number 3) (bytes_in f.payload) []) (field_contents 3 fs))
    ∙ by s.0 s.1 s.3 s.4 (time_from_none entry fs s.1 fit.1 s.3) (eqb f.number 3) f.payload s.2 (λ t. subst (λ (n : ℕ). takes (record_table entry) n (wire_type f.payload) ≡ true) (eqb-true f.number 3 t) fit.0.type_fits)
  where
    by : (us ws : List Field) → pieces_at timestamp_table 3 fs ≡ Ok ws → ps ≡ us ++ ws → fold time_with None (field_contents 3 fs) ≡ cond (present 3 fs) (Some (fold timestamp_with no_time ws)) None
        → (b : Bool) (p : Payload) → cond b (of_bytes (fields_of timestamp_table) p) (Ok []) ≡ Ok us → (b ≡ true → eqb (wire_type p) 2 ≡ true)
        → fold time_with (fold time_with None (cond b (bytes_in p) [])) (field_contents 3 fs) ≡ cond (cond b true (present 3 fs)) (Some (fold timestamp_with no_time ps)) None
    by us ws more is others true (Bytes c) h t =
        ap (λ (r : Result (List Field) WireError). fold time_with (Some (kept_after timestamp_with no_time r)) (field_contents 3 fs)) h
        ∙ time_more (fold timestamp_with no_time us) fs ws more
        ∙ ap (λ (j : TimestampKept). Some j) (fold-joined timestamp_with no_time us ws ∙ ap (fold timestamp_with no_time) (sym is))
    by us ws more is others true (Number v) h t = let x : false ≡ true = t refl in absurd cc
    by us ws more is others true (Eight c) h t = let x : false ≡ true = t refl in absurd cc
    by us ws more is others true (Four c) h t = let x : false ≡ true = t refl in absurd cc
    by us ws more is others false p h t =
        others
        ∙ ap (λ (qs : List Field). cond (present 3 fs) (Some (fold timestamp_with no_time qs)) None) (sym (is ∙ ap (λ (u : List Field). u ++ ws) (sym (ok_same [] us h))))

time_finishes : (entry : Table) (fs : List Field) → Fits (record_table entry) fs → merged_of timestamp_table timestamp_from 3 fs ≡ Ok (option_view time_made (fold time_with None (field_contents 3 fs)))
time_finishes entry fs fit =
    let p = pieces_have timestamp_table (record_table entry) 3 (λ q h. h) fs fit in
    by p.value p.gives (timestamp_finishes p.value (pieces_fit timestamp_table 3 fs p.value p.is)) (present 3 fs)
    ∙ ap (λ (o : Option TimestampKept). Ok (option_view time_made o)) (sym (time_from_none entry fs p.value fit p.gives))
  where
    by : (ps : List Field) → pieces_at timestamp_table 3 fs ≡ Ok ps → timestamp_from ps ≡ Ok (time_made (fold timestamp_with no_time ps)) → (b : Bool)
        → cond b (joined_of timestamp_table timestamp_from 3 fs >>= λ v. Ok (Some v)) (Ok None) ≡ Ok (option_view time_made (cond b (Some (fold timestamp_with no_time ps)) None))
    by ps e is true = ap (λ (r : Result (List Field) WireError). r >>= timestamp_from >>= λ v. Ok (Some v)) e ∙ ap (λ (r : Result TimestampValue WireError). r >>= λ v. Ok (Some v)) is
    by ps e is false = refl

pub record_finishes : {E H : Type 0} (with_entry : H → E → H) (nothing : H) (entry : Table) (entry_from : List Field → Result E WireError) (IsEntryOf : List Field → E → Type 0) → Agrees entry entry_from IsEntryOf
    → Finishes (record_table entry) (λ fs. gathered_of with_entry nothing (record_from entry entry_from fs)) (record_with with_entry entry entry_from) (no_record nothing) record_made
unfolding record_from
record_finishes with_entry nothing entry entry_from IsEntryOf agrees fs fit =
    let T = record_table entry in
    let es = listed_has entry entry_from IsEntryOf agrees T 4 (λ p h. h) fs fit in
    rw (optional_at T 1 (λ p h. h) fs fit, time_finishes entry fs fit, es.gives, record_after with_entry entry entry_from (no_record nothing) fs es.value es.gives) refl

-- what is read, and then gathered
gathers : {E H : Type 0} (with_entry : H → E → H) (nothing : H) (value : List Field → Result (RecordValue (List E)) WireError) (fields : Result (List Field) WireError)
    → (fields >>= λ fs. gathered_of with_entry nothing (value fs)) ≡ gathered_of with_entry nothing (fields >>= value)
gathers with_entry nothing value (Ok fs) = refl
gathers with_entry nothing value (Err e) = refl

pub record_gathered : {E H : Type 0} (with_entry : H → E → H) (nothing : H) (entry : Table) (entry_from : List Field → Result E WireError) (IsEntryOf : List Field → E → Type 0) → Agrees entry entry_from IsEntryOf
    → (bytes : List ℕ) (k : RecordKept H) (v : RecordValue H) → kept_of (record_with with_entry entry entry_from) (no_record nothing) (fields_of (record_table entry) bytes) ≡ Ok k → v ≡ record_made k
    → gathered_of with_entry nothing (message_of (record_table entry) (record_from entry entry_from) bytes) ≡ Ok v
record_gathered with_entry nothing entry entry_from IsEntryOf agrees bytes k v e is =
    let T = record_table entry in
    sym (gathers with_entry nothing (record_from entry entry_from) (fields_of T bytes))
    ∙ finished_as T (λ fs. gathered_of with_entry nothing (record_from entry entry_from fs)) (record_with with_entry entry entry_from) (no_record nothing) record_made
    (record_finishes with_entry nothing entry entry_from IsEntryOf agrees) bytes k v e is

-- a list takes the entries as they are
in_list : {E : Type 0} (front es : List E) → fold with_last front es ≡ front ++ es
in_list front [] = sym (append-nil front)
in_list front (e ∷ es) = in_list (front ++ e ∷ []) es ∙ append_assoc front (e ∷ []) es

pub listed_as_it_is : {E : Type 0} (read : Result (RecordValue (List E)) WireError) → gathered_of with_last [] read ≡ read
listed_as_it_is (Ok v) = ap (λ (es : List _). Ok (record { prev = v.prev; version = v.version; time = v.time; entries = es })) (in_list [] v.entries)
listed_as_it_is (Err e) = refl

-- an entry whose fields fit has a value: it fails where they do
module _ {V H K : Type 0} (T : Table) (value : List Field → Result V WireError) (Is : List Field → V → Type 0) (agrees : Agrees T value Is) (taken : V → H) (bytes : List ℕ) (new : K) where
  never : (e : WireError) (v : H) → Fails e (Ok v) → Fails e (Ok new)
  never OutOfMemory v h = tt
  never Truncated v h = ok_err v Truncated h
  never VarintTooLong v h = ok_err v VarintTooLong h
  never BadKey v h = ok_err v BadKey h
  never Group v h = ok_err v Group h
  never WrongWireType v h = ok_err v WrongWireType h
  never NotUtf8 v h = ok_err v NotUtf8 h

  moved : (e d : WireError) → Fails {Y = H} e (Err d) → Fails {Y = K} e (Err d)
  moved OutOfMemory d h = tt
  moved Truncated d h = ap (λ (x : WireError). Err x) (err_same d Truncated h)
  moved VarintTooLong d h = ap (λ (x : WireError). Err x) (err_same d VarintTooLong h)
  moved BadKey d h = ap (λ (x : WireError). Err x) (err_same d BadKey h)
  moved Group d h = ap (λ (x : WireError). Err x) (err_same d Group h)
  moved WrongWireType d h = ap (λ (x : WireError). Err x) (err_same d WrongWireType h)
  moved NotUtf8 d h = ap (λ (x : WireError). Err x) (err_same d NotUtf8 h)

  fails_at : (e : WireError) (read : Result (List Field) WireError) → AnswerSays T bytes read → Fails e (read >>= value >>= λ v. Ok (taken v)) → Fails e (unless (fault_in read) (Ok new))
  fails_at e (Ok fs) says h = let v = agrees fs says.fit in never e (taken v.value) (subst (λ (r : Result V WireError). Fails e (r >>= λ w. Ok (taken w))) v.gives h)
  fails_at e (Err d) says h = moved e d h

  -- at the number of a record's entries
  pub entry_fails : (e : WireError) (n : ℕ) (p : Payload) → n ≡ 4 → p ≡ Bytes bytes → Fails e (message_of T value bytes >>= λ v. Ok (taken v)) → Fails e (unless (payload_fault (record_table T) n p) (Ok new))
  unfolding payload_fault
  entry_fails e n p four is h = rw (four, is) (fails_at e (fields_of T bytes) (answer_says T bytes) h)

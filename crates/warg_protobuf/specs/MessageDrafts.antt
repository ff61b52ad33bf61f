-- What is kept of a message's fields while they are read. Of all this, public clauses name `with_last` alone.
use Rattle.std.specs.Prelude.{ℕ, ℤ, ◌%◌, ◌^◌, map, List, [], ◌∷◌, ◌++◌, fold, Option, Some, None, Result, Ok, Err, ◌==◌, if◌then◌else◌}
use Rattle.std.specs.Int.{w64, cast_signed}
use Rattle.warg_protobuf.specs.declared.error.WireError.{WireError}
use Rattle.warg_protobuf.specs.declared.entry.MemberDraft.{MemberDraft}
use Rattle.warg_protobuf.specs.declared.entry.MemberDraft.TheVariants as member
use Rattle.warg_protobuf.specs.declared.record.RecordDraft.{RecordDraft}
use Rattle.warg_protobuf.specs.declared.shape.OneText.{OneText}
use Rattle.warg_protobuf.specs.declared.shape.TwoTexts.{TwoTexts}
use Rattle.warg_protobuf.specs.declared.shape.TextAndNumbers.{TextAndNumbers}
use Rattle.warg_protobuf.specs.declared.timestamp.TimestampDraft.{TimestampDraft}
use Rattle.warg_protobuf.specs.Field.{Payload, Number, Eight, Bytes, Four, Field}
use Rattle.warg_protobuf.specs.Table.{Table}
use Rattle.warg_protobuf.specs.Reading.{◌>>=◌, fields_of}
use Rattle.warg_protobuf.specs.Shapes.{two_texts, text_and_numbers}
use Rattle.warg_protobuf.specs.Init.{InitValue}
use Rattle.warg_protobuf.specs.Release.{ReleaseValue}
use Rattle.warg_protobuf.specs.ImportNamespace.{ImportNamespaceValue}
use Rattle.warg_protobuf.specs.Yank.{YankValue}
use Rattle.warg_protobuf.specs.DefineNamespace.{DefineNamespaceValue}
use Rattle.warg_protobuf.specs.GrantFlat.{GrantFlatValue}
use Rattle.warg_protobuf.specs.RevokeFlat.{RevokeFlatValue}
use Rattle.warg_protobuf.specs.Entry.{Member}
use Rattle.warg_protobuf.specs.Entry as message
use Rattle.warg_protobuf.specs.PackageEntry.{PackageMember}
use Rattle.warg_protobuf.specs.OperatorEntry.{OperatorMember}
use Rattle.warg_protobuf.specs.Envelope.{EnvelopeValue}
use Rattle.warg_protobuf.specs.Record.{RecordValue}
use Rattle.warg_protobuf.specs.Views.{option_view}
use Rattle.warg_protobuf.specs.Timestamp.{timestamp_table, TimestampValue}
use Rattle.warg_protobuf.specs.Values.{low_signed, field_contents, numbers, last_from, last_option_from, at_number, signed_in, item_at, kept_of}

-- a payload that is not judged yet
abbrev pub no_fault : ℕ → Payload → Option WireError
no_fault n p = None

-- the items that were read, or none
abbrev pub items_of : {X : Type 0} → Result (List X) WireError → List X
items_of (Ok xs) = xs
items_of (Err e) = []

module _ {K : Type 0} (with_field : K → Field → K) where
  -- what all these fields make of what is kept
  abbrev pub kept_after : K → Result (List Field) WireError → K
  kept_after k (Ok fs) = fold with_field k fs
  kept_after k (Err e) = k

  -- and what the fields of one more payload make of it
  abbrev pub kept_after_payload : Table → K → List ℕ → K
  kept_after_payload T k b = kept_after k (fields_of T b)

-- ---- texts and numbers

-- what is kept of a message with one text
pub record OneTextKept : Type 0 where
  pub text : List ℕ

-- what the draft of one text has kept
abbrev pub one_text_kept : OneText → OneTextKept
one_text_kept d = record { text = d.text.now }

-- before any field: an empty text
abbrev pub no_text : OneTextKept
no_text = record { text = [] }

-- after one more field: the last text counts
abbrev pub one_text_with : OneTextKept → Field → OneTextKept
one_text_with k f = record { text = last_from k.text (field_contents 1 (f ∷ [])) }

-- what is kept of a message with two texts
pub record TwoTextsKept : Type 0 where
  pub first : List ℕ
  pub second : List ℕ

-- what the draft of two texts has kept
abbrev pub two_texts_kept : TwoTexts → TwoTextsKept
two_texts_kept d = record { first = d.first.now; second = d.second.now }

-- before any field: two empty texts
abbrev pub no_texts : TwoTextsKept
no_texts = record { first = []; second = [] }

-- after one more field: of either text the last counts
abbrev pub two_texts_with : TwoTextsKept → Field → TwoTextsKept
two_texts_with k f = record { first = last_from k.first (field_contents 1 (f ∷ [])); second = last_from k.second (field_contents 2 (f ∷ [])) }

-- what is kept of a message with a text and a list of numbers
pub record TextAndNumbersKept : Type 0 where
  pub text : List ℕ
  pub numbers : List ℤ

-- what the draft of a text and numbers has kept
abbrev pub text_and_numbers_kept : TextAndNumbers → TextAndNumbersKept
text_and_numbers_kept d = record { text = d.text.now; numbers = d.numbers.items }

-- before any field: an empty text, and no numbers
abbrev pub nothing_kept : TextAndNumbersKept
nothing_kept = record { text = []; numbers = [] }

-- after one more field: the last text counts, and all numbers do
abbrev pub text_and_numbers_with : TextAndNumbersKept → Field → TextAndNumbersKept
text_and_numbers_with k f = record {
  text = last_from k.text (field_contents 1 (f ∷ []));
  numbers = k.numbers ++ items_of (at_number 2 signed_in f);
}

-- ---- times

-- what is kept of a time: the numbers as they were read, without a sign
pub record TimestampKept : Type 0 where
  pub seconds : ℕ
  pub nanos : ℕ

-- what the draft of a time has kept
abbrev pub timestamp_kept : TimestampDraft → TimestampKept
timestamp_kept d = record { seconds = d.seconds; nanos = d.nanos }

-- before any field: both numbers are 0
abbrev pub no_time : TimestampKept
no_time = record { seconds = 0; nanos = 0 }

-- after one more field: of either number the last counts
abbrev pub timestamp_with : TimestampKept → Field → TimestampKept
timestamp_with k f = record {
  seconds = last_from k.seconds (numbers 1 (f ∷ []));
  nanos = last_from k.nanos (numbers 2 (f ∷ []));
}

-- the time of what is kept: the numbers as two's complement, of the nanos the low 32 bits
abbrev pub time_made : TimestampKept → TimestampValue
time_made k = record { seconds = cast_signed w64 k.seconds; nanos = low_signed k.nanos }

-- ---- entries: the run of the last member

-- what is kept of an entry's last member; two, the first own and the second own, are those that its kind of log alone has
pub data MemberKept (F G : Type 0) : Type 0 where
  Absent : MemberKept F G
  Init : TwoTextsKept → MemberKept F G
  GrantFlat : TextAndNumbersKept → MemberKept F G
  RevokeFlat : TextAndNumbersKept → MemberKept F G
  FirstOwn : F → MemberKept F G
  SecondOwn : G → MemberKept F G

-- what the draft of an entry has kept, by what those of its kind's own members have
abbrev pub member_kept : {D E F G : Type 0} → (D → F) → (E → G) → MemberDraft D E → MemberKept F G
member_kept first_own second_own member.Absent = Absent
member_kept first_own second_own (member.Init d) = Init (two_texts_kept d)
member_kept first_own second_own (member.GrantFlat d) = GrantFlat (text_and_numbers_kept d)
member_kept first_own second_own (member.RevokeFlat d) = RevokeFlat (text_and_numbers_kept d)
member_kept first_own second_own (member.FirstOwn d) = FirstOwn (first_own d)
member_kept first_own second_own (member.SecondOwn d) = SecondOwn (second_own d)

-- before any field: no member
abbrev pub no_member : {F G : Type 0} → MemberKept F G
no_member = Absent

-- what is kept of the run of an init: nothing where another member came last
abbrev pub init_so_far : {F G : Type 0} → MemberKept F G → TwoTextsKept
init_so_far (Init t) = t
init_so_far _ = no_texts

-- what is kept of the run of a grant: nothing where another member came last
abbrev pub grant_flat_so_far : {F G : Type 0} → MemberKept F G → TextAndNumbersKept
grant_flat_so_far (GrantFlat t) = t
grant_flat_so_far _ = nothing_kept

-- what is kept of the run of a revocation: nothing where another member came last
abbrev pub revoke_flat_so_far : {F G : Type 0} → MemberKept F G → TextAndNumbersKept
revoke_flat_so_far (RevokeFlat t) = t
revoke_flat_so_far _ = nothing_kept

-- what is kept of the run of the first of the kind's own members: what there is before any field where another came last
abbrev pub first_own_so_far : {F G : Type 0} → F → MemberKept F G → F
first_own_so_far empty (FirstOwn t) = t
first_own_so_far empty _ = empty

-- what is kept of the run of the second of the kind's own members: what there is before any field where another came last
abbrev pub second_own_so_far : {F G : Type 0} → G → MemberKept F G → G
second_own_so_far empty (SecondOwn t) = t
second_own_so_far empty _ = empty

module _ {F G : Type 0} (first_own : Table) (first_own_with : F → Field → F) (no_first_own : F) (second_own : Table) (second_own_with : G → Field → G) (no_second_own : G) where
  -- what the bytes of one more field make of the member: its run goes on, another's begins, or nothing changes
  abbrev pub member_bytes : MemberKept F G → ℕ → List ℕ → MemberKept F G
  member_bytes k n b =
      if n == 1 then Init (kept_after_payload two_texts_with two_texts (init_so_far k) b)
      else (if n == 2 then GrantFlat (kept_after_payload text_and_numbers_with text_and_numbers (grant_flat_so_far k) b)
      else (if n == 3 then RevokeFlat (kept_after_payload text_and_numbers_with text_and_numbers (revoke_flat_so_far k) b)
      else (if n == 4 then FirstOwn (kept_after_payload first_own_with first_own (first_own_so_far no_first_own k) b)
      else (if n == 5 then SecondOwn (kept_after_payload second_own_with second_own (second_own_so_far no_second_own k) b)
      else k))))

  -- the same by the field's payload, which counts for nothing unless it is bytes
  abbrev pub member_payload : MemberKept F G → ℕ → Payload → MemberKept F G
  member_payload k n (Bytes b) = member_bytes k n b
  member_payload k n (Number v) = k
  member_payload k n (Eight b) = k
  member_payload k n (Four b) = k

  -- the member after one more field
  abbrev pub member_with : MemberKept F G → Field → MemberKept F G
  member_with k f = member_payload k f.number f.payload

-- ---- envelopes and records

-- one entry more in a list
abbrev pub with_last : {E : Type 0} → List E → E → List E
with_last es e = es ++ e ∷ []

-- before any field: an envelope of empty parts
abbrev pub no_parts : EnvelopeValue
no_parts = record { contents = []; key_id = []; signature = [] }

-- after one more field: of each part the last counts
abbrev pub envelope_with : EnvelopeValue → Field → EnvelopeValue
envelope_with k f = record {
  contents = last_from k.contents (field_contents 1 (f ∷ []));
  key_id = last_from k.key_id (field_contents 2 (f ∷ []));
  signature = last_from k.signature (field_contents 3 (f ∷ []));
}

-- what is kept of a record, its entries as a sink holds them
pub record RecordKept (H : Type 0) : Type 0 where
  pub prev : Option (List ℕ)
  pub version : ℕ
  pub time : Option TimestampKept
  pub entries : H

-- what the draft of a record has kept, by what its sink holds
abbrev pub record_kept : {S H : Type 0} → (S → H) → RecordDraft S → RecordKept H
record_kept sink_data d = record {
  prev = option_view (λ t. t.now) d.prev;
  version = d.version;
  time = option_view timestamp_kept d.time;
  entries = sink_data d.entries;
}

-- before any field: no prev, version 0, no time, and a sink that holds nothing yet
abbrev pub no_record : {H : Type 0} → H → RecordKept H
no_record no_entries = record { prev = None; version = 0; time = None; entries = no_entries }

-- what is kept of the time so far: both numbers are 0 before its first piece
abbrev pub time_so_far : Option TimestampKept → TimestampKept
time_so_far None = no_time
time_so_far (Some k) = k

-- the time after one more piece, or the piece's fault
abbrev pub time_grown : Option TimestampKept → List ℕ → Result (Option TimestampKept) WireError
time_grown o b = kept_of timestamp_with (time_so_far o) (fields_of timestamp_table b) >>= λ k. Ok (Some k)

-- what one more piece of the time makes of it
abbrev pub time_with : Option TimestampKept → List ℕ → Option TimestampKept
time_with o b = Some (kept_after_payload timestamp_with timestamp_table (time_so_far o) b)

-- after one more field: the last prev and version count, the time grows, an entry goes into the sink
abbrev pub record_with : {E H : Type 0} → (H → E → H) → Table → (List Field → Result E WireError) → RecordKept H
    → Field → RecordKept H
record_with with_entry entry entry_from k f = record {
  prev = last_option_from k.prev (field_contents 1 (f ∷ []));
  version = last_from k.version (numbers 2 (f ∷ []));
  time = fold time_with k.time (field_contents 3 (f ∷ []));
  entries = fold with_entry k.entries (items_of (item_at entry entry_from 4 f));
}

-- ---- the messages of what is kept

-- the init entry of what is kept
abbrev pub init_made : TwoTextsKept → InitValue
init_made k = record { key = k.first; hash_algorithm = k.second }

-- the release entry of what is kept
abbrev pub release_made : TwoTextsKept → ReleaseValue
release_made k = record { version = k.first; content_hash = k.second }

-- the entry that imports a namespace, of what is kept
abbrev pub import_namespace_made : TwoTextsKept → ImportNamespaceValue
import_namespace_made k = record { namespace = k.first; registry = k.second }

-- the yank entry of what is kept
abbrev pub yank_made : OneTextKept → YankValue
yank_made k = record { version = k.text }

-- the entry that defines a namespace, of what is kept
abbrev pub define_namespace_made : OneTextKept → DefineNamespaceValue
define_namespace_made k = record { namespace = k.text }

-- the grant entry of what is kept
abbrev pub grant_flat_made : TextAndNumbersKept → GrantFlatValue
grant_flat_made k = record { key = k.text; permissions = k.numbers }

-- the revoke entry of what is kept
abbrev pub revoke_flat_made : TextAndNumbersKept → RevokeFlatValue
revoke_flat_made k = record { key_id = k.text; permissions = k.numbers }

-- the entry of what is kept, by what is made of its kind's own
abbrev pub entry_made : {F G A B : Type 0} → (F → A) → (G → B) → MemberKept F G → Option (Member A B)
entry_made first_made second_made Absent = None
entry_made first_made second_made (Init k) = Some (message.Init (init_made k))
entry_made first_made second_made (GrantFlat k) = Some (message.GrantFlat (grant_flat_made k))
entry_made first_made second_made (RevokeFlat k) = Some (message.RevokeFlat (revoke_flat_made k))
entry_made first_made second_made (FirstOwn k) = Some (message.FirstOwn (first_made k))
entry_made first_made second_made (SecondOwn k) = Some (message.SecondOwn (second_made k))

-- the entry of a package log, of what is kept
abbrev pub package_entry_made : MemberKept TwoTextsKept OneTextKept → Option PackageMember
package_entry_made k = entry_made release_made yank_made k

-- the entry of an operator log, of what is kept
abbrev pub operator_entry_made : MemberKept OneTextKept TwoTextsKept → Option OperatorMember
operator_entry_made k = entry_made define_namespace_made import_namespace_made k

-- the record of what is kept; the version keeps its low 32 bits
abbrev pub record_made : {H : Type 0} → RecordKept H → RecordValue H
record_made k = record { prev = k.prev; version = k.version % 2 ^ 32; time = option_view time_made k.time; entries = k.entries }

-- The JSON text of a signed checkpoint reads back as it, and what is asked of such a text is enough for it.
use Rattle.std.specs.Prelude.{◌≡◌, ◌<◌, ◌≤◌, ◌≢◌, ◌⊎◌, ◌^◌, ℕ, List, length, take, false, codes, Some, None, Ok, Err}
use Rattle.std.specs.Str.{IsUtf8}
use Rattle.std.proofs.Common.{inl, inr, refl, sym, ap, ◌∙◌, subst, arith}
use Rattle.serde_json.specs.Data.{Data, depth, no_members, number, object, put, string, unsigned}
use Rattle.serde_json.specs.Read.{max_depth, read}
use Rattle.serde_json.specs.Written.{compact_text, has_float}
use Rattle.warg_crypto.specs.HashText.{hash_text}
use Rattle.warg_crypto.specs.Json.Json.{ReadsBack}
use Rattle.warg_crypto.specs.Json.JsonLaws.{ok_same}
use Rattle.warg_crypto.specs.Json.JsonTexts.{hash_in, key_id_in, signature_in}
use Rattle.warg_crypto.specs.Json.Numbers.{number_in}
use Rattle.warg_crypto.specs.Keys.{signature_of}
use Rattle.warg_crypto.specs.NamedBytes.{NamedBytes, named_bytes_text}
use Rattle.warg_crypto.specs.declared.json.error.JsonError.{JsonError}
use Rattle.warg_crypto.specs.declared.json.error.JsonError.TheVariants as fault
use Rattle.warg_envelope.specs.EnvelopeJson.{AreEquivalentSigned, signed_in, signed_json}
use Rattle.warg_registry.specs.RegistryJson.{checkpoint_in, timestamped_checkpoint_in, timestamped_checkpoint_json}
use Rattle.warg_registry.specs.declared.checkpoint.TimestampedCheckpoint.{TimestampedCheckpoint}
use Rattle.warg_saved_states.specs.Asked.{IsAskedOfText}
use Rattle.warg_saved_states.specs.JsonText.{of_json_in, or_fault, text_fault}
use Rattle.warg_saved_states.specs.JsonTextLaws.{of_json_text}
use Rattle.warg_saved_states.specs.Next.{AsksFor}
use Rattle.warg_saved_states.specs.declared.error.JsonTextError.{JsonTextError}
use Rattle.warg_saved_states.specs.declared.error.JsonTextError.TheVariants as json
use Rattle.warg_saved_states.proofs.AskedLaws.{number_asked, read_member_asked, then_same}
use Rattle.warg_c.specs.CheckpointAnswers.{SaysCheckpoint}
use Rattle.warg_c.specs.CheckpointTexts.{IsNoSigned, IsNoSigner, IsSignedBy, IsSignedFault, IsTextOf, IsWrittenAs, Signed, signed_in_text, signed_members}
use Rattle.warg_c.specs.Saved.{fault_text}
use Rattle.warg_c.specs.Statuses.{WARG_BAD_ARGUMENT, WARG_TOO_SMALL, code_of}
use Rattle.warg_c.specs.Texts.{ErrorsAs, IsGiven, NeedsRoom}
use Rattle.warg_c.specs.declared.call_error.CallError.{CallError}
use Rattle.warg_c.specs.declared.call_error.CallError.TheVariants.{OutOfMemory, BadArgument}
use Rattle.warg_c.proofs.Codes.{same-code}
use Rattle.warg_c.proofs.ProofOutcomes.{not_memory}

-- ---- what is written

-- the JSON of a checkpoint at a time, and of a signed one
abbrev contents_data : TimestampedCheckpoint → Data
contents_data t =
    object (put (codes "timestamp") (number (unsigned t.timestamp)) (put (codes "mapRoot") (string (hash_text t.checkpoint.map_root))
    (put (codes "logLength") (number (unsigned t.checkpoint.log_length)) (put (codes "logRoot") (string (hash_text t.checkpoint.log_root)) no_members))))

abbrev signed_data : Signed → Data
signed_data it =
    object (put (codes "signature") (string (named_bytes_text it.signature)) (put (codes "keyId") (string it.key_id)
    (put (codes "contents") (contents_data it.contents) no_members)))

module _ (it : Signed) (v : Data) (text : List ℕ) (written : signed_json timestamped_checkpoint_json it ≡ Ok v) where
  same-data : signed_data it ≡ v
  same-data = ok_same (signed_data it) v written

  has-none : has_float v ≡ false
  has-none = subst (λ d. has_float d ≡ false) same-data refl

  is-shallow : depth v ≤ max_depth
  is-shallow = subst (λ d. depth d ≤ max_depth) same-data (let two : 2 ≤ 127 = omega arith in two)

  -- the value's text is that of the signed checkpoint
  pub written-as : ReadsBack (signed_in timestamped_checkpoint_in) (AreEquivalentSigned (λ x y. x ≡ y)) it v
      → (has_float v ≡ false → text ≡ compact_text v) → (depth v ≤ max_depth → read text ≡ Some v) → IsWrittenAs it text
  written-as back is reads =
      let same : it ≡ back.again = (λ i. record { contents = back.equal.contents i; key_id = back.equal.key_id i; signature = back.equal.signature i }) in
      record {
        written = ap (λ d. Ok (compact_text d)) same-data ∙ ap (λ t. Ok t) (sym (is has-none));
        read_back = of_json_text (signed_in timestamped_checkpoint_in) text v it (reads is-shallow) (back.is ∙ ap (λ x. Ok x) (sym same));
      }

-- it is the one that a call says
pub text-of : (log_length : ℕ) (log_root map_root : List ℕ) (timestamp : ℕ) (key_id signature : List ℕ) (c : TimestampedCheckpoint) (it : Signed) (text : List ℕ)
    → SaysCheckpoint log_length log_root map_root timestamp c → it.contents ≡ c → IsSignedBy key_id signature it → IsWrittenAs it text
    → IsTextOf log_length log_root map_root timestamp key_id signature text
text-of log_length log_root map_root timestamp key_id signature c it text says same signer is = record {
  signed = it;
  says = record { checkpoint = subst (λ x. SaysCheckpoint log_length log_root map_root timestamp x) (sym same) says; signer = signer };
  is_text = is;
}

-- why there is none, after the key's id was read
pub signature-errors : (key_id signature : List ℕ) → IsUtf8 key_id → (f : CallError)
    → (f ≡ OutOfMemory) ⊎ ((f ≡ BadArgument) × ((s : NamedBytes) → IsUtf8 signature → signature_of signature ≡ Ok s → ⊥))
    → ErrorsAs (IsUtf8 key_id) ⊥ (IsNoSigner key_id signature) f
signature-errors key_id signature utf8 f (inl memory) = inl (memory, utf8)
signature-errors key_id signature utf8 f (inr (is, bad)) = inr (inr (is, inr (λ text s says. bad s text says)))

-- ---- what is asked

hash-asked : AsksFor signed_members 0 hash_in
hash-asked d v like = rw like.text refl

checkpoint-asked : AsksFor signed_members 1 checkpoint_in
checkpoint-asked d v like =
    read_member_asked signed_members 0 (codes "logRoot") d v hash_in _ _ refl hash-asked like (λ log_root.
    read_member_asked signed_members 0 (codes "logLength") d v number_in _ _ refl (number_asked signed_members 0 (2 ^ 64)) like (λ log_length.
    read_member_asked signed_members 0 (codes "mapRoot") d v hash_in _ _ refl hash-asked like (λ map_root. refl)))

contents-asked : AsksFor signed_members 1 timestamped_checkpoint_in
contents-asked d v like =
    then_same (checkpoint_in v) (checkpoint_in d) _ _ (checkpoint-asked d v like) (λ checkpoint.
    read_member_asked signed_members 0 (codes "timestamp") d v number_in _ _ refl (number_asked signed_members 0 (2 ^ 64)) like (λ timestamp. refl))

key-id-asked : AsksFor signed_members 1 key_id_in
key-id-asked d v like = rw like.text refl

signature-asked : AsksFor signed_members 1 signature_in
signature-asked d v like = rw like.text refl

signed-asked : AsksFor signed_members 2 (signed_in timestamped_checkpoint_in)
signed-asked d v like =
    read_member_asked signed_members 1 (codes "contents") d v timestamped_checkpoint_in _ _ refl contents-asked like (λ contents.
    read_member_asked signed_members 1 (codes "keyId") d v key_id_in _ _ refl key-id-asked like (λ key_id.
    read_member_asked signed_members 1 (codes "signature") d v signature_in _ _ refl signature-asked like (λ signature. refl)))

-- what is read of what is asked is what is read of the text
pub read-asked : (text : List ℕ) (v : Data) → IsAskedOfText signed_members 2 text v → signed_in_text text ≡ or_fault (signed_in timestamped_checkpoint_in v)
read-asked text v is = ap (of_json_in (signed_in timestamped_checkpoint_in)) is.is ∙ ap or_fault (sym (signed-asked is.whole v is.asked))

-- a text that is no JSON says nothing
pub no-json : (text : List ℕ) (e : JsonTextError) → (e ≡ json.OutOfMemory) ⊎ ((e ≡ json.NotJson) × (read text ≡ None)) → (e ≡ json.OutOfMemory) ⊎ (signed_in_text text ≡ Err e)
no-json text e (inl memory) = inl memory
no-json text e (inr (is, none)) = inr (ap (of_json_in (signed_in timestamped_checkpoint_in)) none ∙ ap (λ f. Err f) (sym is))

-- the fault of what is asked is that of the text
pub read-fault : (text : List ℕ) (v : Data) → IsAskedOfText signed_members 2 text v → (wrong : JsonError) (e : JsonTextError) → e ≡ text_fault wrong
    → (wrong ≡ fault.OutOfMemory) ⊎ (signed_in timestamped_checkpoint_in v ≡ Err wrong) → (e ≡ json.OutOfMemory) ⊎ (signed_in_text text ≡ Err e)
read-fault text v asked wrong e is (inl memory) = inl (is ∙ ap text_fault memory)
read-fault text v asked wrong e is (inr h) = inr (read-asked text v asked ∙ ap or_fault h ∙ ap (λ f. Err f) (sym is))

-- the fault of a text that says none is told
pub no-signed : (bytes : List ℕ) (e : JsonTextError) (f : CallError) (used : ℕ) (out : List ℕ)
    → (f ≡ OutOfMemory) ⊎ ((f ≡ BadArgument) × (e ≢ json.OutOfMemory) × IsGiven (fault_text e) used out) → (e ≡ json.OutOfMemory) ⊎ IsSignedFault bytes e
    → code_of f ≡ WARG_BAD_ARGUMENT → IsNoSigned bytes used out
no-signed bytes e f used out (inl memory) why same = absurd (not_memory (sym memory ∙ same-code f BadArgument same))
no-signed bytes e f used out (inr (is, other, given)) (inl memory) same = absurd (other memory)
no-signed bytes e f used out (inr (is, other, given)) (inr why) same = (e, why, given)

-- the text that is told has no room
pub told-needs : (Tells : List ℕ → Type 0) (text old : List ℕ) (n used : ℕ) (new : List ℕ)
    → (used ≡ length text) × (((n ≡ 0) × (take (length text) new ≡ text)) ⊎ ((n ≡ 3) × (length old < length text))) → Tells text → n ≡ WARG_TOO_SMALL → NeedsRoom Tells used old
told-needs Tells text old n used new (len, inl (done, _)) told small = absurd (omega arith)
told-needs Tells text old n used new (len, inr (_, short)) told small = (text, told, len, short)

-- A field whose payload is judged after it was cut, as one that is judged on the way.
use Rattle.std.proofs.Common.{◌≡◌, Bool, ℕ, ◌/◌, ◌%◌, ◌<◌, List, Option, Some, None, Result, Ok, Err, length, refl, ap, subst, ◌∙◌}
use Rattle.warg_protobuf.specs.declared.error.WireError.{WireError}
use Rattle.warg_protobuf.specs.declared.error.WireError.TheVariants.{Truncated, VarintTooLong, BadKey, Group, WrongWireType, NotUtf8, OutOfMemory}
use Rattle.warg_protobuf.specs.Field.{Payload, Field}
use Rattle.warg_protobuf.specs.MessageDrafts.{no_fault}
use Rattle.warg_protobuf.specs.Reading.{◌>>=◌, field_at, fields_of, payload_fault, payload_at, unless, varint_at}
use Rattle.warg_protobuf.specs.Table.{Table, takes, key_fault, HasFault}
use Rattle.warg_protobuf.specs.Values.{kept_of}
use Rattle.warg_protobuf.specs.Views.{Fails}
use Rattle.warg_protobuf.proofs.Cutting.{field_of, first_fault}
use Rattle.warg_protobuf.proofs.Keeping.{keep_fails}
use Rattle.warg_protobuf.proofs.NoMemory.{no_memory}
use Rattle.warg_protobuf.proofs.Tables.{AnswerSays, answer_says}

abbrev judged : (ℕ → Payload → Option WireError) → Result (Field × List ℕ) WireError → Result (Field × List ℕ) WireError
judged fault_of read = read >>= λ r. unless (fault_of r.0.number r.0.payload) (Ok r)

abbrev with_payload : (ℕ → Payload → Option WireError) → ℕ → Result (Payload × List ℕ) WireError → Result (Field × List ℕ) WireError
with_payload fault_of n q = q >>= λ p. unless (fault_of n p.0) (Ok (record { number = n; payload = p.0 }, p.1))

payload_judged : (fault_of : ℕ → Payload → Option WireError) (n : ℕ) (q : Result (Payload × List ℕ) WireError) → with_payload fault_of n q ≡ judged fault_of (with_payload no_fault n q)
payload_judged fault_of n (Ok p) = refl
payload_judged fault_of n (Err e) = refl

key_judged : (may_be : ℕ → ℕ → Bool) (fault_of : ℕ → Payload → Option WireError) (v : Result (ℕ × List ℕ) WireError)
    → (v >>= λ k. with_payload fault_of (k.0 / 8) (unless (key_fault may_be k.0) (payload_at (k.0 % 8) k.1))) ≡ judged fault_of (v >>= λ k. with_payload no_fault (k.0 / 8) (unless (key_fault may_be k.0) (payload_at (k.0 % 8) k.1)))
key_judged may_be fault_of (Ok k) = payload_judged fault_of (k.0 / 8) (unless (key_fault may_be k.0) (payload_at (k.0 % 8) k.1))
key_judged may_be fault_of (Err e) = refl

pub bare_judged : (T : Table) (bytes : List ℕ) → field_of T bytes ≡ judged (payload_fault T) (field_at (takes T) no_fault bytes)
unfolding field_at
bare_judged T bytes = key_judged (takes T) (payload_fault T) (varint_at bytes)

module _ {K : Type 0} (T : Table) (bytes : List ℕ) where
  -- a field that was cut and judged
  pub field_grown : (f : Field) (after : List ℕ) (new view : K) → field_at (takes T) no_fault bytes ≡ Ok (f, after) → unless (payload_fault T f.number f.payload) (Ok new) ≡ Ok view
      → (field_of T bytes ≡ Ok (f, after)) × (new ≡ view)
  field_grown f after new view cut grown = by (payload_fault T f.number f.payload) refl grown
    where
      by : (o : Option WireError) → payload_fault T f.number f.payload ≡ o → unless o (Ok new) ≡ Ok view → (field_of T bytes ≡ Ok (f, after)) × (new ≡ view)
      by None e g = (bare_judged T bytes ∙ ap (judged (payload_fault T)) cut ∙ ap (λ (o : Option WireError). unless o (Ok (f, after))) e, cc)
      by (Some w) e g = cc g

  pub field_faulty : (f : Field) (after : List ℕ) (new : K) (w : WireError) → field_at (takes T) no_fault bytes ≡ Ok (f, after) → unless (payload_fault T f.number f.payload) (Ok new) ≡ Err w → field_of T bytes ≡ Err w
  field_faulty f after new w cut grown = by (payload_fault T f.number f.payload) refl grown
    where
      by : (o : Option WireError) → payload_fault T f.number f.payload ≡ o → unless o (Ok new) ≡ Err w → field_of T bytes ≡ Err w
      by None e g = cc g
      by (Some x) e g = bare_judged T bytes ∙ ap (judged (payload_fault T)) cut ∙ ap (λ (o : Option WireError). unless o (Ok (f, after))) e ∙ cc

pub field_cut_short : (T : Table) (bytes : List ℕ) (w : WireError) → field_at (takes T) no_fault bytes ≡ Err w → field_of T bytes ≡ Err w
field_cut_short T bytes w cut = bare_judged T bytes ∙ ap (judged (payload_fault T)) cut

-- at a fault of the payload, out of memory aside
pub grown_fails : {K : Type 0} (T : Table) (with_field : K → Field → K) (kept new : K) (rest : List ℕ) (total : Result K WireError) (so_far : kept_of with_field kept (fields_of T rest) ≡ total)
    (f : Field) (after : List ℕ) (e : WireError) → 0 < length rest → field_at (takes T) no_fault rest ≡ Ok (f, after) → Fails e (unless (payload_fault T f.number f.payload) (Ok new)) → Fails e total
grown_fails T with_field kept new rest total so_far f after OutOfMemory some cut h = tt
grown_fails T with_field kept new rest total so_far f after Truncated some cut h = keep_fails T with_field kept rest total so_far Truncated some (field_faulty T rest f after new Truncated cut h)
grown_fails T with_field kept new rest total so_far f after VarintTooLong some cut h = keep_fails T with_field kept rest total so_far VarintTooLong some (field_faulty T rest f after new VarintTooLong cut h)
grown_fails T with_field kept new rest total so_far f after BadKey some cut h = keep_fails T with_field kept rest total so_far BadKey some (field_faulty T rest f after new BadKey cut h)
grown_fails T with_field kept new rest total so_far f after Group some cut h = keep_fails T with_field kept rest total so_far Group some (field_faulty T rest f after new Group cut h)
grown_fails T with_field kept new rest total so_far f after WrongWireType some cut h = keep_fails T with_field kept rest total so_far WrongWireType some (field_faulty T rest f after new WrongWireType cut h)
grown_fails T with_field kept new rest total so_far f after NotUtf8 some cut h = keep_fails T with_field kept rest total so_far NotUtf8 some (field_faulty T rest f after new NotUtf8 cut h)

-- a field that can't be cut wants no memory
pub no_want : (Wants : Type 0) (T : Table) (rest : List ℕ) (e : WireError) → 0 < length rest → field_at (takes T) no_fault rest ≡ Err e → e ≡ OutOfMemory → Wants
no_want Wants T rest e some cut is =
    let fields : fields_of T rest ≡ Err e = first_fault T rest e some (field_cut_short T rest e cut) in
    absurd (no_memory T rest (subst (HasFault T rest) is (subst (AnswerSays T rest) fields (answer_says T rest))))

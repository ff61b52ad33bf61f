-- What is kept after all fields, by what the fields say.
use Rattle.std.proofs.Common.{◌≡◌, ℕ, ℤ, List, [], ◌∷◌, ◌++◌, Option, Some, Result, Ok, Err, refl, sym, ap, ◌∙◌, append_assoc}
use Rattle.std.specs.List.{fold}
use Rattle.std.proofs.lemmas.List.{append-nil}
use Rattle.warg_protobuf.specs.declared.error.WireError.{WireError}
use Rattle.warg_protobuf.specs.Field.{Field}
use Rattle.warg_protobuf.specs.Table.{Table}
use Rattle.warg_protobuf.specs.Reading.{◌>>=◌}
use Rattle.warg_protobuf.specs.Values.{field_contents, numbers, last_from, last_option_from, after, at_number, signed_in, signed_of, item_at, listed_of}
use Rattle.warg_protobuf.specs.Envelope.{EnvelopeValue}
use Rattle.warg_protobuf.specs.MessageDrafts.{items_of, OneTextKept, one_text_with, TwoTextsKept, two_texts_with, TextAndNumbersKept, text_and_numbers_with, TimestampKept, timestamp_with, envelope_with, RecordKept, time_with, record_with}
use Rattle.warg_protobuf.proofs.Meanings.{ok_same, ok_err}

last_from-append : {A : Type 0} (d : A) (xs ys : List A) → last_from (last_from d xs) ys ≡ last_from d (xs ++ ys)
last_from-append d [] ys = refl
last_from-append d (x ∷ xs) ys = last_from-append x xs ys

last_option-append : (o : Option (List ℕ)) (xs ys : List (List ℕ)) → last_option_from (last_option_from o xs) ys ≡ last_option_from o (xs ++ ys)
last_option-append o [] ys = refl
last_option-append o (x ∷ xs) ys = last_option-append (Some x) xs ys

pub fold-joined : {A B : Type 0} (g : B → A → B) (z : B) (xs ys : List A) → fold g (fold g z xs) ys ≡ fold g z (xs ++ ys)
fold-joined g z [] ys = refl
fold-joined g z (x ∷ xs) ys = fold-joined g (g z x) xs ys

-- the first field, and then the others
last_on : (n : ℕ) (d : List ℕ) (f : Field) (fs : List Field) → last_from (last_from d (field_contents n (f ∷ []))) (field_contents n fs) ≡ last_from d (field_contents n (f ∷ fs))
last_on n d f fs = simp (last_from-append, append-nil)

number_on : (n d : ℕ) (f : Field) (fs : List Field) → last_from (last_from d (numbers n (f ∷ []))) (numbers n fs) ≡ last_from d (numbers n (f ∷ fs))
number_on n d f fs = simp (last_from-append, append-nil)

option_on : (n : ℕ) (o : Option (List ℕ)) (f : Field) (fs : List Field) → last_option_from (last_option_from o (field_contents n (f ∷ []))) (field_contents n fs) ≡ last_option_from o (field_contents n (f ∷ fs))
option_on n o f fs = simp (last_option-append, append-nil)

pieces_on : {K : Type 0} (g : K → List ℕ → K) (n : ℕ) (k : K) (f : Field) (fs : List Field) → fold g (fold g k (field_contents n (f ∷ []))) (field_contents n fs) ≡ fold g k (field_contents n (f ∷ fs))
pieces_on g n k f fs = simp (fold-joined, append-nil)

-- ---- lists

module _ {X : Type 0} where
  pub splits : (first rest : Result (List X) WireError) (xs : List X) → (first >>= λ us. after us rest) ≡ Ok xs → (us : List X) × (ws : List X) × (first ≡ Ok us) × (rest ≡ Ok ws) × (xs ≡ us ++ ws)
  splits (Ok us) (Ok ws) xs e = (us, ws, refl, refl, sym (ok_same (us ++ ws) xs e))
  splits (Ok us) (Err d) xs e = ok_err xs d (sym e)
  splits (Err d) rest xs e = ok_err xs d (sym e)

  items_on : (front us ws xs : List X) (first : Result (List X) WireError) → first ≡ Ok us → xs ≡ us ++ ws → (front ++ items_of first) ++ ws ≡ front ++ xs
  items_on front us ws xs first e is = rw (e, is) (append_assoc front us ws)

  no_items : (front xs : List X) → ◌≡◌ {A = Result (List X) WireError} (Ok []) (Ok xs) → front ≡ front ++ xs
  no_items front xs e = sym (append-nil front) ∙ ap (λ (ys : List X). front ++ ys) (ok_same [] xs e)

-- ---- by shape

one_text_same : (a b : List ℕ) → a ≡ b → ◌≡◌ {A = OneTextKept} (record { text = a }) (record { text = b })
one_text_same a b e = rw e refl

pub one_text_after : (k : OneTextKept) (fs : List Field) → fold one_text_with k fs ≡ record { text = last_from k.text (field_contents 1 fs) }
one_text_after k [] = refl
one_text_after k (f ∷ fs) = one_text_after (one_text_with k f) fs ∙ one_text_same _ _ (last_on 1 k.text f fs)

two_texts_same : (a b c d : List ℕ) → a ≡ b → c ≡ d → ◌≡◌ {A = TwoTextsKept} (record { first = a; second = c }) (record { first = b; second = d })
two_texts_same a b c d e h = rw (e, h) refl

pub two_texts_after : (k : TwoTextsKept) (fs : List Field) → fold two_texts_with k fs ≡ record { first = last_from k.first (field_contents 1 fs); second = last_from k.second (field_contents 2 fs) }
two_texts_after k [] = refl
two_texts_after k (f ∷ fs) = two_texts_after (two_texts_with k f) fs ∙ two_texts_same _ _ _ _ (last_on 1 k.first f fs) (last_on 2 k.second f fs)

text_and_numbers_same : (a b : List ℕ) (c d : List ℤ) → a ≡ b → c ≡ d → ◌≡◌ {A = TextAndNumbersKept} (record { text = a; numbers = c }) (record { text = b; numbers = d })
text_and_numbers_same a b c d e h = rw (e, h) refl

pub text_and_numbers_after : (k : TextAndNumbersKept) (fs : List Field) (xs : List ℤ) → signed_of 2 fs ≡ Ok xs
    → fold text_and_numbers_with k fs ≡ record { text = last_from k.text (field_contents 1 fs); numbers = k.numbers ++ xs }
text_and_numbers_after k [] xs e = text_and_numbers_same _ _ _ _ refl (no_items k.numbers xs e)
text_and_numbers_after k (f ∷ fs) xs e =
    let s = splits (at_number 2 signed_in f) (signed_of 2 fs) xs e in
    text_and_numbers_after (text_and_numbers_with k f) fs s.1 s.3
    ∙ text_and_numbers_same _ _ _ _ (last_on 1 k.text f fs) (items_on k.numbers s.0 s.1 xs (at_number 2 signed_in f) s.2 s.4)

timestamp_same : (a b c d : ℕ) → a ≡ b → c ≡ d → ◌≡◌ {A = TimestampKept} (record { seconds = a; nanos = c }) (record { seconds = b; nanos = d })
timestamp_same a b c d e h = rw (e, h) refl

pub timestamp_after : (k : TimestampKept) (fs : List Field) → fold timestamp_with k fs ≡ record { seconds = last_from k.seconds (numbers 1 fs); nanos = last_from k.nanos (numbers 2 fs) }
timestamp_after k [] = refl
timestamp_after k (f ∷ fs) = timestamp_after (timestamp_with k f) fs ∙ timestamp_same _ _ _ _ (number_on 1 k.seconds f fs) (number_on 2 k.nanos f fs)

envelope_same : (a b c d e f : List ℕ) → a ≡ b → c ≡ d → e ≡ f
    → ◌≡◌ {A = EnvelopeValue} (record { contents = a; key_id = c; signature = e }) (record { contents = b; key_id = d; signature = f })
envelope_same a b c d e f g h i = rw (g, h, i) refl

pub envelope_after : (k : EnvelopeValue) (fs : List Field) → fold envelope_with k fs ≡ record { contents = last_from k.contents (field_contents 1 fs); key_id = last_from k.key_id (field_contents 2 fs); signature = last_from k.signature (field_contents 3 fs) }
envelope_after k [] = refl
envelope_after k (f ∷ fs) = envelope_after (envelope_with k f) fs ∙ envelope_same _ _ _ _ _ _ (last_on 1 k.contents f fs) (last_on 2 k.key_id f fs) (last_on 3 k.signature f fs)

module _ {E H : Type 0} (with_entry : H → E → H) (entry : Table) (entry_from : List Field → Result E WireError) where
  record_same : (p q : Option (List ℕ)) (v u : ℕ) (t s : Option TimestampKept) (xs ys : H) → p ≡ q → v ≡ u → t ≡ s → xs ≡ ys
      → ◌≡◌ {A = RecordKept H} (record { prev = p; version = v; time = t; entries = xs }) (record { prev = q; version = u; time = s; entries = ys })
  record_same p q v u t s xs ys a b c d = rw (a, b, c, d) refl

  taken_on : (start : H) (us ws xs : List E) (first : Result (List E) WireError) → first ≡ Ok us → xs ≡ us ++ ws
      → fold with_entry (fold with_entry start (items_of first)) ws ≡ fold with_entry start xs
  taken_on start us ws xs first e is = rw (e, is) (fold-joined with_entry start us ws)

  pub record_after : (k : RecordKept H) (fs : List Field) (xs : List E) → listed_of entry entry_from 4 fs ≡ Ok xs
      → fold (record_with with_entry entry entry_from) k fs ≡ record { prev = last_option_from k.prev (field_contents 1 fs); version = last_from k.version (numbers 2 fs); time = fold time_with k.time (field_contents 3 fs); entries = fold with_entry k.entries xs }
  record_after k [] xs e = record_same _ _ _ _ _ _ _ _ refl refl refl (ap (fold with_entry k.entries) (ok_same [] xs e))
  record_after k (f ∷ fs) xs e =
      let s = splits (item_at entry entry_from 4 f) (listed_of entry entry_from 4 fs) xs e in
      record_after (record_with with_entry entry entry_from k f) fs s.1 s.3
      ∙ record_same _ _ _ _ _ _ _ _ (option_on 1 k.prev f fs) (number_on 2 k.version f fs) (pieces_on time_with 3 k.time f fs) (taken_on k.entries s.0 s.1 xs (item_at entry entry_from 4 f) s.2 s.4)

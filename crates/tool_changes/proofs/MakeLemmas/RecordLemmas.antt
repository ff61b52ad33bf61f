-- The records that words say.
use Rattle.std.proofs.Common.{◌≡◌, ◌≤◌, ◌<◌, ◌+◌, ℕ, suc, List, [], ◌∷◌, ◌++◌, length, map, take, slice_index_or, ap, ◌∙◌, subst, sym, arith, Option, Some, Bor}
use Rattle.std.specs.Global.{Vec}
use Rattle.std.specs.List.{AllZip, slice_get}
use Rattle.std.specs.Option.{option_map}
use Rattle.std.proofs.lemmas.Option.{slice_get-map, slice_get-get_or}
use Rattle.std.proofs.Math.Seq.{take-suc}
use Rattle.std.proofs.lemmas.List.{map-append, take-map, take_all}
use Rattle.warg_crypto.specs.Time.Times.{Time}
use Rattle.warg_protocol.specs.Operator as in_operator
use Rattle.warg_protocol.specs.Package as in_package
use Rattle.warg_protocol.specs.Records.{RecordId}
use Rattle.warg_log_records.specs.declared.log_record.LogRecord.{LogRecord}
use Rattle.warg_log_records.specs.declared.operator.model.OperatorEntry.{OperatorEntry}
use Rattle.warg_log_records.specs.declared.package.model.PackageEntry.{PackageEntry}
use Rattle.tool_changes.specs.Make.NextRecords.{IsEntriesError, IsMakeError, operator_content, package_content, texts}
use Rattle.tool_changes.specs.Make.TimeWords.{IsTimeError, SaysTime}
use Rattle.tool_changes.specs.declared.make.error.EntryFault.{EntryFault}
use Rattle.tool_changes.specs.declared.make.error.MakeError.{MakeError}
use Rattle.tool_changes.specs.declared.make.error.MakeError.TheVariants.{BadTime, Entry, NoClock, OutOfMemory}
use Rattle.tool_changes.proofs.MakeLemmas.WordLemmas.{zip_more}

-- the content bytes of a record by its parts
pub package_content_is : (it : LogRecord PackageEntry) (prev : Option RecordId) (time : Time) (entries : Vec PackageEntry)
    → it.prev ≡ prev → it.version ≡ 1 → it.timestamp ≡ time → it.entries ≡ entries
    → in_package.package_content_of (in_package.record_data it) ≡ package_content prev time (map in_package.entry_data entries.items)
package_content_is it prev time entries p v t e =
    λ i. in_package.package_content_of (record { prev = p i; version = v i; time = t i; entries = map in_package.entry_data (e i).items })

pub operator_content_is : (it : LogRecord OperatorEntry) (prev : Option RecordId) (time : Time) (entries : Vec OperatorEntry)
    → it.prev ≡ prev → it.version ≡ 1 → it.timestamp ≡ time → it.entries ≡ entries
    → in_operator.operator_content_of (in_operator.record_data it) ≡ operator_content prev time (map in_operator.entry_data entries.items)
operator_content_is it prev time entries p v t e =
    λ i. in_operator.operator_content_of (record { prev = p i; version = v i; time = t i; entries = map in_operator.entry_data (e i).items })

module _ {T : Type 0} (Says : List ℕ → T → Type 0) (Lacks : List ℕ → EntryFault → Type 0) (clock : Option Time) (time : List ℕ) (words : List (List ℕ)) where
  -- what is wrong with words that say no time, or no entries
  pub time_refused : (it : MakeError) → IsTimeError clock time it → IsMakeError Says Lacks clock time words it
  time_refused BadTime h = h
  time_refused NoClock h = h
  time_refused (Entry place fault) h = absurd h
  time_refused OutOfMemory h = absurd h

  pub entries_refused : (at : Time) (it : MakeError) → SaysTime clock time at → IsEntriesError Says Lacks words it
      → IsMakeError Says Lacks clock time words it
  entries_refused at BadTime says h = absurd h
  entries_refused at NoClock says h = absurd h
  entries_refused at (Entry place fault) says h = ((at, says), h)
  entries_refused at OutOfMemory says h = tt

  pub memory_refused : (it : MakeError) → it ≡ OutOfMemory → IsMakeError Says Lacks clock time words it
  memory_refused it e = rw e tt

-- ---- the entries so far

taken_more : (n : ℕ) (words : List (Bor (List ℕ))) (d : Bor (List ℕ)) → n < length words
    → texts (take (n + 1) words) ≡ texts (take n words) ++ (slice_index_or words n d).now ∷ []
taken_more n words d low =
    let e : n + 1 ≡ suc n = omega arith in
    rw e (ap texts (take-suc words n d low) ∙ map-append (λ (word : Bor (List ℕ)). word.now) (take n words) (slice_index_or words n d ∷ []))

pub text_at : (words : List (Bor (List ℕ))) (n : ℕ) (d : Bor (List ℕ)) → n < length words
    → slice_get (texts words) n ≡ Some (slice_index_or words n d).now
text_at words n d low =
    let now = λ (word : Bor (List ℕ)). word.now in
    slice_get-map now words n ∙ ap (option_map now) (slice_get-get_or words n d low)

module _ {E T : Type 0} (Says : List ℕ → T → Type 0) (as_data : E → T) (words : List (Bor (List ℕ))) where
  pub said_more : (n : ℕ) (d : Bor (List ℕ)) (old new : List E) (entry : E) → n < length words → new ≡ old ++ entry ∷ []
      → AllZip Says (texts (take n words)) (map as_data old) → Says (slice_index_or words n d).now (as_data entry)
      → AllZip Says (texts (take (n + 1) words)) (map as_data new)
  said_more n d old new entry low more so_far says =
      let items = ap (map as_data) more ∙ map-append as_data old (entry ∷ []) in
      rw (taken_more n words d low, items) (zip_more Says (texts (take n words)) (map as_data old) (slice_index_or words n d).now (as_data entry) so_far says)

  -- the texts before a place say entries, as plain data
  pub said_before : (n : ℕ) (entries : List E) → AllZip Says (texts (take n words)) (map as_data entries)
      → AllZip Says (take n (texts words)) (map as_data entries)
  said_before n entries so_far =
      subst (λ (ts : List (List ℕ)). AllZip Says ts (map as_data entries)) (sym (take-map (λ (word : Bor (List ℕ)). word.now) n words)) so_far

  pub all_said : (n : ℕ) (entries : List E) → length words ≤ n → AllZip Says (texts (take n words)) (map as_data entries)
      → AllZip Says (texts words) (map as_data entries)
  all_said n entries past so_far = subst (λ (ws : List (Bor (List ℕ))). AllZip Says (texts ws) (map as_data entries)) (take_all n words past) so_far

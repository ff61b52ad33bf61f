-- A value that comes next is read of what is asked of it.
use Rattle.std.specs.Prelude.{ℕ, ◌≡◌, ◌<◌, ◌⊎◌, List, length, Some, Result, Ok, Err}
use Rattle.std.proofs.Common.{inl, inr, sym, subst}
use Rattle.json.specs.Token.{Token}
use Rattle.json.specs.Json.{value}
use Rattle.serde_json.specs.Data.{Data}
use Rattle.serde_json.specs.Read.{converted, of_json}
use Rattle.warg_crypto.specs.Json.Json.{Returns, ReturnsOrNoMemory}
use Rattle.warg_crypto.specs.declared.json.error.JsonError.{JsonError}
use Rattle.warg_crypto.specs.declared.json.error.JsonError.TheVariants as json
use Rattle.warg_saved_states.specs.Asked.{IsAskedOf}
use Rattle.warg_saved_states.specs.Next.{AsksFor, IsNext, ReadsNext, apart_memory}
use Rattle.warg_saved_states.specs.declared.error.ReadFault.{ReadFault}
use Rattle.warg_saved_states.specs.declared.error.ReadFault.TheVariants.{NotJson, OutOfMemory}

not_fault : OutOfMemory ≡ NotJson → ⊥
not_fault e = cc

unless_memory : {Y : Type 0} (e : JsonError) (want : Result Y JsonError) → (e ≡ json.OutOfMemory → ⊥) → (e ≡ json.OutOfMemory) ⊎ (want ≡ Err e) → want ≡ Err e
unless_memory e want other (inl memory) = absurd (other memory)
unless_memory e want other (inr is) = is

module _ {X Y : Type 0} (view : X → Y) (reads : Data → Result Y JsonError) (depth : ℕ) (old new : List Token) (d : Data)
    (text : converted of_json (value depth old) ≡ Some (d, new)) (shorter : length new < length old) where
  abbrev Next : Result (Result X JsonError) ReadFault → Type 0
  Next result = ReadsNext view reads depth result old new

  fault_next : (e : JsonError) (result : Result (Result X JsonError) ReadFault) → result ≡ apart_memory (Err e) → (e ≡ json.OutOfMemory) ⊎ (reads d ≡ Err e) → Next result
  fault_next json.OutOfMemory result is loaded = subst Next (sym is) (λ h. absurd (not_fault h))
  fault_next e result is loaded = subst Next (sym is) (record { json = d; text = text; read = unless_memory e (reads d) (λ h. cc) loaded; shorter = shorter })

  -- what was loaded is what is read
  pub loaded_next : (loaded : Result X JsonError) (result : Result (Result X JsonError) ReadFault) → result ≡ apart_memory loaded → ReturnsOrNoMemory view loaded (reads d) → Next result
  loaded_next (Ok x) result is loaded = subst Next (sym is) (record { json = d; text = text; read = loaded; shorter = shorter })
  loaded_next (Err e) result is loaded = fault_next e result is loaded

-- so it is where it was loaded of what is asked
pub asked_next : {X Y : Type 0} (view : X → Y) (reads : Data → Result Y JsonError) (names : List (List ℕ)) (n : ℕ) → AsksFor names n reads
    → (depth : ℕ) (old new : List Token) (v : Data) (loaded : Result X JsonError) (result : Result (Result X JsonError) ReadFault)
    → (d : Data) × (converted of_json (value depth old) ≡ Some (d, new)) × IsAskedOf names n d v → length new < length old
    → result ≡ apart_memory loaded → ReturnsOrNoMemory view loaded (reads v) → ReadsNext view reads depth result old new
asked_next view reads names n asks depth old new v loaded result read shorter is done =
    loaded_next view reads depth old new read.0 read.1 shorter loaded result is (subst (λ w. ReturnsOrNoMemory view loaded w) (asks read.0 v read.2) done)

same_told : {X : Type 0} (r s : Result X JsonError) → ◌≡◌ {A = Result (Result X JsonError) ReadFault} (Ok r) (Ok s) → r ≡ s
same_told r s e = cc

told_fault : {X Y : Type 0} (view : X → Y) (e : JsonError) (s : Result X JsonError) (want : Result Y JsonError) → apart_memory {X = X} (Err e) ≡ Ok s
    → (e ≡ json.OutOfMemory) ⊎ (want ≡ Err e) → Returns view s want
told_fault view json.OutOfMemory s want is read = absurd cc
told_fault view e s want is read = subst (λ t. Returns view t want) (same_told (Err e) s is) (unless_memory e want (λ h. cc) read)

-- what was told is what was read, where memory did not run out
pub told : {X Y : Type 0} (view : X → Y) (r s : Result X JsonError) (want : Result Y JsonError) → apart_memory r ≡ Ok s → ReturnsOrNoMemory view r want → Returns view s want
told view (Ok x) s want is read = subst (λ t. Returns view t want) (same_told (Ok x) s is) read
told view (Err e) s want is read = told_fault view e s want is read

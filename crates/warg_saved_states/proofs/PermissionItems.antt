-- Permissions are read of the items of a text, one after another.
use Rattle.std.specs.Prelude.{ℕ, ◌≡◌, ◌-◌, ◌<◌, ◌≤◌, List, [], ◌∷◌, length, Bool, true, false, Option, Some, None, option_map, ok_or, Result, Ok, Err, refl}
use Rattle.std.specs.Option.{is_some}
use Rattle.std.proofs.Common.{sym, ap, ◌∙◌, subst, arith, true≢false}
use Rattle.indexmap.specs.IndexSet.{insert_key}
use Rattle.json.specs.Token.{Token}
use Rattle.json.specs.Json.{Json, Parse, after_end_array, items, parse_map}
use Rattle.json.proofs.Grammar.{after_end_array-shorter}
use Rattle.serde_json.specs.Data.{Data, Items, item, no_items}
use Rattle.serde_json.specs.Read.{converted, of_items, of_json}
use Rattle.warg_crypto.specs.declared.json.error.JsonError.{JsonError}
use Rattle.warg_crypto.specs.declared.json.error.JsonError.TheVariants.{BadText}
use Rattle.warg_crypto.specs.Json.Json.{Returns, some_or}
use Rattle.warg_saved_states.specs.SavedPermissions.{permission_in, permissions_after, permissions_from}
use Rattle.warg_saved_states.proofs.TextReading.{item_read, items_over, item_refused}

twice : (f g : Items → Items) (r : Option (Items × List Token)) → parse_map f (parse_map g r) ≡ parse_map (λ ds. f (g ds)) r
twice f g None = refl
twice f g (Some p) = refl

once : (r : Option (Items × List Token)) → r ≡ parse_map (λ ds. ds) r
once None = refl
once (Some p) = refl

pub no_fault : (fault : Option JsonError) → is_some fault ≡ false → fault ≡ None
no_fault None e = refl
no_fault (Some x) e = absurd (true≢false e)

chosen : {P : Type 0} (o : Option P) → Returns (λ p. p) (ok_or o BadText) (some_or BadText o)
chosen None = refl
chosen (Some p) = refl

-- the permission of a name, or that it names none
pub named_or_bad : {P : Type 0} (o : Option P) (r : Result P JsonError) → r ≡ ok_or o BadText → Returns (λ p. p) r (some_or BadText o)
named_or_bad {P} o r is = subst (λ (x : Result P JsonError). Returns (λ p. p) x (some_or BadText o)) (sym is) (chosen o)

module _ {P : Type 0} (same : P → P → Bool) (named : List ℕ → Option P) where
  abbrev After : Option JsonError → List P → Items → Result (List P) JsonError
  After fault ps ds = permissions_after same named fault ps ds

  -- a permission is put, a fault is kept, and behind a fault nothing changes
  pub put_step : (ps new : List P) (q : P) (d : Data) → permission_in same named d ≡ Ok q → new ≡ insert_key same ps q → (ds : Items) → After None ps (item d ds) ≡ After None new ds
  put_step ps new q d is_read put ds = rw is_read (ap (λ qs. permissions_from same named qs ds) (sym put))

  pub fault_step : (ps : List P) (e : JsonError) (d : Data) → permission_in same named d ≡ Err e → (ds : Items) → After None ps (item d ds) ≡ After (Some e) ps ds
  fault_step ps e d fault ds = rw fault refl

  -- so, whatever the fault is that stands
  pub faulty_step : (fault : Option JsonError) (ps : List P) (d : Data) → is_some fault ≡ true → (ds : Items) → After fault ps (item d ds) ≡ After fault ps ds
  faulty_step None ps d e ds = absurd (true≢false (sym e))
  faulty_step (Some x) ps d e ds = refl

  pub take_good : (fault : Option JsonError) (found : Result P JsonError) (q : P) (ps new : List P) → is_some fault ≡ false → found ≡ Ok q → new ≡ insert_key same ps q
      → (d : Data) → Returns (λ p. p) found (permission_in same named d) → (ds : Items) → After fault ps (item d ds) ≡ After None new ds
  take_good fault found q ps new none is put d read ds =
      ap (λ f. After f ps (item d ds)) (no_fault fault none) ∙ put_step ps new q d (subst (λ r. Returns (λ p. p) r (permission_in same named d)) is read) put ds

  pub take_bad : (fault : Option JsonError) (found : Result P JsonError) (e : JsonError) (ps : List P) → is_some fault ≡ false → found ≡ Err e
      → (d : Data) → Returns (λ p. p) found (permission_in same named d) → (ds : Items) → After fault ps (item d ds) ≡ After (Some e) ps ds
  take_bad fault found e ps none is d read ds =
      ap (λ f. After f ps (item d ds)) (no_fault fault none) ∙ fault_step ps e d (subst (λ r. Returns (λ p. p) r (permission_in same named d)) is read) ds

  module _ (p : Parse Json) (start : List Token) where
    -- the permissions, or the first fault, are those of the items that were read so far
    pub record ArePermissionsSoFar (now : List Token) (fault : Option JsonError) (ps : List P) : Type 0 where
      pub turns : ℕ
      pub enough : length now ≤ turns
      pub shorter : length now ≤ length start
      pub done : Items → Items
      pub text : converted of_items (items p (length start) start) ≡ parse_map done (converted of_items (items p turns now))
      pub read : (rest : Items) → permissions_from same named [] (done rest) ≡ After fault ps rest

    pub permissions_begin : (ps : List P) → ps ≡ [] → ArePermissionsSoFar start None ps
    permissions_begin ps none = record {
      turns = length start;
      enough = omega arith;
      shorter = omega arith;
      done = λ ds. ds;
      text = once _;
      read = λ rest. ap (λ qs. permissions_from same named qs rest) (sym none);
    }

    pub permissions_next : (now r : List Token) (ps new : List P) (fault next : Option JsonError) (d : Data) → after_end_array now ≡ None → converted of_json (p now) ≡ Some (d, r) → length r < length now
        → ((ds : Items) → After fault ps (item d ds) ≡ After next new ds) → ArePermissionsSoFar now fault ps → ArePermissionsSoFar r next new
    permissions_next now r ps new fault next d going read less step is = record {
      turns = is.turns - 1;
      enough = omega (arith, is.enough, less);
      shorter = omega (arith, is.shorter, less);
      done = λ ds. is.done (item d ds);
      text = is.text ∙ ap (parse_map is.done) (item_read p is.turns now r d (omega (arith, is.enough, less)) going read) ∙ twice is.done (item d) _;
      read = λ rest. is.read (item d rest) ∙ step rest;
    }

    -- all items were read
    pub permissions_end : (now r : List Token) (fault : Option JsonError) (ps : List P) → after_end_array now ≡ Some r → ArePermissionsSoFar now fault ps
        → (ds : Items) × (length r < length start) × (converted of_items (items p (length start) start) ≡ Some (ds, r)) × (permissions_from same named [] ds ≡ After fault ps no_items)
    permissions_end now r fault ps over is = (
      is.done no_items,
      omega (arith, is.shorter, after_end_array-shorter now r over),
      is.text ∙ ap (parse_map is.done) (items_over p is.turns now r is.enough over),
      is.read no_items,
    )

    -- an item is none
    pub permissions_refused : (now : List Token) (fault : Option JsonError) (ps : List P) → after_end_array now ≡ None → converted of_json (p now) ≡ None → ArePermissionsSoFar now fault ps
        → converted of_items (items p (length start) start) ≡ None
    permissions_refused now fault ps going none is = is.text ∙ ap (parse_map is.done) (item_refused p is.turns now going none)

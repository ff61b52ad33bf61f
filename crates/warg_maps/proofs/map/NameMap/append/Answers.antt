use Rattle.std.proofs.Common.{◌≡◌, ◌≤◌, length, reverse, zip, OnOk, refl}
use mathlib.Core.Path.{sym, ap, subst, ◌∙◌}
use native.Mathlib.Omega.{arith}
use Rattle.std.proofs.lemmas.List.{length-reverse, reverse-reverse}
use Rattle.std.specs.List.{IsDistinct}
use Rattle.std.specs.Map.{keys_of, lookup}
use Rattle.std_collections.proofs.Zip.{zip_empty}
use Rattle.indexmap.specs.IndexMap.{get, hasher_of, insert_all, spare}
use Rattle.warg_maps.specs.NameMap.{room_of}
use Rattle.warg_maps.proofs.EntryLemmas.{distinct-inserted_all, lookup-inserted_all}
use Rattle.warg_maps.proofs.MapLemmas.{hash-counted, length-seen, room-keeps, sides-reversed, whole-empty}
use Rattle.warg_maps.proofs.map.NameMap.append.Goals as goal

pub insert_backwards-requires-clause-even : goal.insert_backwards-requires-clause-even
insert_backwards-requires-clause-even g c =
    ap length c.reverse-2.ensures.items ∙ length-reverse c.other.inside.values.items ∙ c.other.invariant.0 ∙ sym (ap length c.reverse.ensures.items ∙ length-reverse c.other.inside.keys.items)

pub insert_backwards-requires-clause-room : goal.insert_backwards-requires-clause-room
insert_backwards-requires-clause-room g c =
    let long : length c.reverse.new.self.items ≡ length c.other.inside.keys.items = ap length c.reverse.ensures.items ∙ length-reverse c.other.inside.keys.items in
    let fits = subst (λ q. OnOk q (c.len.result ≤ spare c.reserve.new.self)) c.in_ok-reserve.was c.reserve.ensures.ok in
    let m = c.other.inside in
    omega (arith, fits, long, c.len.ensures.len, length-seen m.keys.items m.values.items _ c.other.invariant.0 (ap (λ v. v.entries) c.other.view_is))

pub invariant_of-other : goal.invariant_of-other
invariant_of-other g c =
    let gone = c.insert_backwards.ensures.emptied in
    (ap length gone.1 ∙ sym (ap length gone.0), whole-empty _ _ _ _ _ _ _ gone.0 c.clear.ensures.items)

pub returns-clause-entries : goal.returns-clause-entries
returns-clause-entries g c =
    let m = c.other.inside in
    let ks = m.keys.items in
    let vs = m.values.items in
    let even = c.other.invariant.0 in
    let sides = (λ j. zip (c.reverse.ensures.items j) (c.reverse-2.ensures.items j)) ∙ sides-reversed ks vs even in
    let back : reverse (zip c.reverse.new.self.items c.reverse-2.new.self.items) ≡ c.args.other.now.entries
    = ap reverse sides ∙ reverse-reverse (zip ks vs) ∙ ap (λ v. v.entries) c.other.view_is in
    let after = c.insert_backwards.ensures.entries ∙ (λ j. insert_all g.K.PartialEq.eq (c.reserve.ensures.entries j) (back j)) in
    after

pub returns-clause-inserts : goal.returns-clause-inserts
returns-clause-inserts g c =
    let eq = g.K.PartialEq.eq in
    let es = c.args.self.now.entries in
    let xs = c.args.other.now.entries in
    let m = c.other.inside in
    let ks = m.keys.items in
    let vs = m.values.items in
    let even = c.other.invariant.0 in
    let sides = (λ j. zip (c.reverse.ensures.items j) (c.reverse-2.ensures.items j)) ∙ sides-reversed ks vs even in
    let back : reverse (zip c.reverse.new.self.items c.reverse-2.new.self.items) ≡ c.args.other.now.entries
    = ap reverse sides ∙ reverse-reverse (zip ks vs) ∙ ap (λ v. v.entries) c.other.view_is in
    let after = c.insert_backwards.ensures.entries ∙ (λ j. insert_all g.K.PartialEq.eq (c.reserve.ensures.entries j) (back j)) in
    let unique = subst (λ l. IsDistinct eq (keys_of l)) c.reserve.ensures.entries c.reserve.ensures.unique in (
      λ q. ap (lookup (eq q)) after ∙ lookup-inserted_all g.met.K.Eq.laws xs es (get eq c.args.self.now) (λ x. refl) q,
      subst (λ l. IsDistinct eq (keys_of l)) (sym after) (distinct-inserted_all g.met.K.Eq.laws xs es unique),
    )

pub returns-clause-emptied : goal.returns-clause-emptied
returns-clause-emptied g c = zip_empty _ _ (ap length c.insert_backwards.ensures.emptied.0)

pub returns-clause-hasher : goal.returns-clause-hasher
returns-clause-hasher g c = c.insert_backwards.ensures.uses.1 ∙ c.reserve.ensures.room.1

pub returns-clause-room : goal.returns-clause-room
returns-clause-room g c =
    let m = c.other.inside in
    let seen = length-seen m.keys.items m.values.items _ c.other.invariant.0 (ap (λ v. v.entries) c.other.view_is) in
    let long : length c.reverse.new.self.items ≡ length c.other.inside.keys.items = ap length c.reverse.ensures.items ∙ length-reverse c.other.inside.keys.items in
    (omega (arith, c.insert_backwards.ensures.uses.0, c.reserve.ensures.room.0, long, seen), c.insert_backwards.ensures.uses.1 ∙ c.reserve.ensures.room.1)

pub returns-clause-other_room : goal.returns-clause-other_room
returns-clause-other_room g c =
    let gone = c.insert_backwards in
    let rooms : room_of gone.new.keys.cap gone.new.values.cap c.clear.new.self.cap ≡ room_of c.other.inside.keys.cap c.other.inside.values.cap c.other.inside.hashes.cap
    = λ j. room_of ((gone.ensures.capacity.0 ∙ c.reverse.ensures.capacity) j) ((gone.ensures.capacity.1 ∙ c.reverse-2.ensures.capacity) j) (c.clear.ensures.capacity j) in
    (omega (arith, ap spare c.other.view_is, rooms, ap length gone.ensures.emptied.0), ap hasher_of c.other.view_is)

pub returns-clause-other_capacity : goal.returns-clause-other_capacity
returns-clause-other_capacity g c =
    let m = c.other.inside in
    let w = c.other.invariant.1 in
    let seen = length-seen m.keys.items m.values.items _ c.other.invariant.0 (ap (λ v. v.entries) c.other.view_is) in
    let gone = c.insert_backwards in
    let rooms : room_of gone.new.keys.cap gone.new.values.cap c.clear.new.self.cap ≡ room_of c.other.inside.keys.cap c.other.inside.values.cap c.other.inside.hashes.cap
    = λ j. room_of ((gone.ensures.capacity.0 ∙ c.reverse.ensures.capacity) j) ((gone.ensures.capacity.1 ∙ c.reverse-2.ensures.capacity) j) (c.clear.ensures.capacity j) in
    let counted = hash-counted _ _ _ _ w in
    let kept = room-keeps m.keys.cap m.values.cap m.hashes.cap (length m.keys.items) (omega (arith, m.keys.ok.0, m.keys.ok.1)) (omega (arith, m.values.ok.0, m.values.ok.1, c.other.invariant.0))
    (omega (arith, counted, m.hashes.ok.0, m.hashes.ok.1)) w.small in
    omega (arith, ap spare c.other.view_is, seen, rooms, ap length gone.ensures.emptied.0, kept)

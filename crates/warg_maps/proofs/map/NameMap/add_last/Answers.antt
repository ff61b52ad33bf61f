use Rattle.std.specs.Prelude.{◌≡◌, ◌-◌, [], ◌∷◌, ◌++◌, length, zip}
use mathlib.Core.Path.{sym, ap, subst, ◌∙◌}
use native.Mathlib.Omega.{arith}
use lib.ListN.{length-append}
use Rattle.std_collections.proofs.Zip.{zip-append}
use Rattle.indexmap.specs.IndexMap.{hasher_of, spare}
use Rattle.indexmap.specs.Layout.{hash_map, table_hash}
use Rattle.warg_maps.specs.FarHash.{far_hash}
use Rattle.warg_maps.specs.Index.{HasEntry}
use Rattle.warg_maps.specs.NameMap.{room_of}
use Rattle.warg_maps.proofs.MapLemmas.{has-room, hash-counted, keys-seen, length-seen, whole-push}
use Rattle.warg_maps.proofs.map.NameMap.add_last.Goals as goal

pub add-requires-clause-place : goal.add-requires-clause-place
add-requires-clause-place g c =
    let m = c.self.inside in
    let r = has-room m.keys.cap m.values.cap m.hashes.cap (length m.keys.items) (omega (arith, c.requires.spare, ap spare c.self.view_is)) in
    omega (arith, r.is_small, c.len.ensures, m.keys.ok.0)

pub push_reserved-requires : goal.push_reserved-requires
push_reserved-requires g c =
    let m = c.self.inside in
    let r = has-room m.keys.cap m.values.cap m.hashes.cap (length m.keys.items) (omega (arith, c.requires.spare, ap spare c.self.view_is)) in
    omega (arith, r.in_hashes, m.hashes.ok.0, hash-counted _ _ _ _ c.self.invariant.1)

pub push_reserved-requires-2 : goal.push_reserved-requires-2
push_reserved-requires-2 g c =
    let m = c.self.inside in
    let r = has-room m.keys.cap m.values.cap m.hashes.cap (length m.keys.items) (omega (arith, c.requires.spare, ap spare c.self.view_is)) in
    omega (arith, r.in_keys, m.keys.ok.0)

pub push_reserved-requires-3 : goal.push_reserved-requires-3
push_reserved-requires-3 g c =
    let m = c.self.inside in
    let r = has-room m.keys.cap m.values.cap m.hashes.cap (length m.keys.items) (omega (arith, c.requires.spare, ap spare c.self.view_is)) in
    omega (arith, r.in_values, m.values.ok.0, c.self.invariant.0)

pub invariant_of-self : goal.invariant_of-self
invariant_of-self g c =
    let m = c.self.inside in
    let ks = m.keys.items in
    let vs = m.values.items in
    let k = c.args.key in
    let r = has-room m.keys.cap m.values.cap m.hashes.cap (length m.keys.items) (omega (arith, c.requires.spare, ap spare c.self.view_is)) in
    let hash = λ (x : g.row.K.Denot). table_hash g.S.BuildHasher g.S.Hasher.Hasher m.hash_builder (g.K.Hash.hash_input x) in
    let is = c.requires.hash ∙ ap (λ v. table_hash g.S.BuildHasher g.S.Hasher.Hasher (hasher_of v) (g.K.Hash.hash_input k)) (sym c.self.view_is) in
    let add = c.add.ensures in
    let added = subst (λ n. HasEntry g.K.Ord.cmp c.add.new.self c.args.hash (far_hash (g.K.Hash.hash_input k)) k n) (c.len.ensures ∙ m.keys.ok.0) add.added in
    let keys = c.push_reserved-2.ensures.items in
    let values = c.push_reserved-3.ensures.items in (
      omega (arith, ap length keys, ap length values, length-append ks (k ∷ []), length-append vs (c.args.value ∷ []), c.self.invariant.0),
      rw (c.push_reserved.ensures.items, keys)
          (whole-push g.met.K.Eq.laws g.met.K.Ord.matches_eq hash (λ x. far_hash (g.K.Hash.hash_input x)) m.index c.add.new.self m.hashes.items ks c.args.self.now.entries k c.args.value c.args.hash
          (keys-seen c.self.inside.keys.items c.self.inside.values.items _ c.self.invariant.0 (ap (λ v. v.entries) c.self.view_is)) (length-seen c.self.inside.keys.items c.self.inside.values.items _ c.self.invariant.0 (ap (λ v. v.entries) c.self.view_is)) c.requires.absent c.self.invariant.1 is (record { added = added; kept = add.kept }) r.is_small),
    )

pub returns : goal.returns
returns g c =
    let m = c.self.inside in
    let ks = m.keys.items in
    let vs = m.values.items in
    let k = c.args.key in
    let v = c.args.value in
    let e : g.row.K.Denot × g.row.V.Denot = (k, v) in
    let keys = c.push_reserved-2.ensures.items in
    let sides : zip c.push_reserved-2.new.self.items c.push_reserved-3.new.self.items ≡ c.args.self.now.entries ++ e ∷ []
    = (λ j. zip (keys j) (c.push_reserved-3.ensures.items j)) ∙ zip-append ks vs (k ∷ []) (v ∷ []) c.self.invariant.0 ∙ ap (λ n. n.entries ++ e ∷ []) c.self.view_is in
    let rooms : room_of c.push_reserved-2.new.self.cap c.push_reserved-3.new.self.cap c.push_reserved.new.self.cap ≡ room_of m.keys.cap m.values.cap m.hashes.cap
    = λ j. room_of (c.push_reserved-2.ensures.capacity j) (c.push_reserved-3.ensures.capacity j) (c.push_reserved.ensures.capacity j) in
    let left : room_of c.push_reserved-2.new.self.cap c.push_reserved-3.new.self.cap c.push_reserved.new.self.cap - length c.push_reserved-2.new.self.items ≡ spare c.args.self.now - 1
    = omega (arith, rooms, ap length keys, length-append ks (k ∷ []), ap spare c.self.view_is) in
    λ j. hash_map (sides j) (hasher_of (c.self.view_is j)) (left j)

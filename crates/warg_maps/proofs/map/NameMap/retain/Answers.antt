use Rattle.std.specs.Prelude.{◌≡◌, ◌≤◌, length, zip}
use mathlib.Core.Path.{sym, ap, subst, ◌∙◌}
use native.Mathlib.Omega.{arith}
use Rattle.std.specs.List.{IsDistinct}
use Rattle.std.specs.Map.Calls.{CallableOnEachPair, CalledAtPair, RetainsPairs, TakesPair}
use Rattle.std_collections.proofs.Entries.{length_retained}
use Rattle.std_collections.proofs.HashLookup.{distinct_retained}
use Rattle.std_collections.proofs.Zip.{keys_of-zip, retains_zip}
use Rattle.indexmap.specs.IndexMap.{spare, hasher_of}
use Rattle.warg_maps.specs.NameMap.{room_of}
use Rattle.warg_maps.proofs.MapLemmas.{hash-counted, keys-seen, whole-filled}
use Rattle.warg_maps.proofs.map.NameMap.retain.Goals as goal

pub sift-requires : goal.sift-requires
sift-requires g c =
    record { even = c.self.invariant.0; callable = subst (λ v. CallableOnEachPair (CalledAtPair g.F.FnMut) (TakesPair g.F.FnMut) c.args.keep v.entries) (sym c.self.view_is) c.requires }

pub hash_anew-requires : goal.hash_anew-requires
hash_anew-requires g c =
    let m = c.self.inside in
    omega (arith, ap length c.as_slice.ensures.value, c.sift.ensures.fewer, hash-counted _ _ _ _ c.self.invariant.1, m.hashes.ok.0, m.hashes.ok.1)

pub refill-requires : goal.refill-requires
refill-requires g c =
    let T = CalledAtPair g.F.FnMut in
    let m = c.self.inside in
    let w = c.self.invariant.1 in
    let ks = m.keys.items in
    let vs = m.values.items in
    let ls = c.sift.new.keys.items in
    let us = c.sift.new.values.items in
    let zipped = retains_zip T c.args.keep ks vs ls us c.sift.ensures.sifted in
    let before = subst (IsDistinct g.K.PartialEq.eq) (sym (keys_of-zip ks vs c.self.invariant.0)) w.distinct in
    let after = subst (IsDistinct g.K.PartialEq.eq) (keys_of-zip ls us zipped.0) (distinct_retained _ g.met.K.Eq.laws T c.args.keep (zip ks vs) (zip ls us) zipped.1 before) in
    let seen = ap length c.as_slice-2.ensures.value in
    record {
      distinct = subst (IsDistinct g.K.PartialEq.eq) (sym c.as_slice-2.ensures.value) after;
      lengths = ap length c.as_slice-3.ensures.value ∙ ap length c.hash_anew.ensures.hashes ∙ lib.ListN.length-map _ _ ∙ ap length (c.as_slice.ensures.value ∙ sym c.as_slice-2.ensures.value);
      small = omega (arith, seen, c.sift.ensures.fewer, w.small);
    }

pub invariant_of-self : goal.invariant_of-self
invariant_of-self g c =
    let T = CalledAtPair g.F.FnMut in
    let m = c.self.inside in
    let w = c.self.invariant.1 in
    let ks = m.keys.items in
    let vs = m.values.items in
    let ls = c.sift.new.keys.items in
    let us = c.sift.new.values.items in
    let zipped = retains_zip T c.args.keep ks vs ls us c.sift.ensures.sifted in
    let before = subst (IsDistinct g.K.PartialEq.eq) (sym (keys_of-zip ks vs c.self.invariant.0)) w.distinct in
    let after = subst (IsDistinct g.K.PartialEq.eq) (keys_of-zip ls us zipped.0) (distinct_retained _ g.met.K.Eq.laws T c.args.keep (zip ks vs) (zip ls us) zipped.1 before) in (
      zipped.0,
      whole-filled _ _ _ _ _ c.hash_anew.new.hashes.items ls _ _ c.as_slice-2.ensures.value c.as_slice-3.ensures.value after
          (c.hash_anew.ensures.hashes ∙ ap (Rattle.std.specs.Prelude.map _) c.as_slice.ensures.value) c.refill.ensures.placed
          (omega (arith, c.sift.ensures.fewer, w.small)),
    )

pub returns : goal.returns
returns g c =
    let T = CalledAtPair g.F.FnMut in
    let m = c.self.inside in
    let ks = m.keys.items in
    let vs = m.values.items in
    let ls = c.sift.new.keys.items in
    let us = c.sift.new.values.items in
    let zipped = retains_zip T c.args.keep ks vs ls us c.sift.ensures.sifted in
    let filtered = subst (λ v. RetainsPairs T c.args.keep v.entries (zip ls us)) c.self.view_is zipped.1 in
    let unique = subst (IsDistinct g.K.PartialEq.eq) (keys-seen c.self.inside.keys.items c.self.inside.values.items _ c.self.invariant.0 (ap (λ v. v.entries) c.self.view_is)) c.self.invariant.1.distinct in
    let rooms : room_of c.sift.new.keys.cap c.sift.new.values.cap c.hash_anew.new.hashes.cap ≡ room_of m.keys.cap m.values.cap m.hashes.cap
    = λ j. room_of (c.sift.ensures.capacity.0 j) (c.sift.ensures.capacity.1 j) (c.hash_anew.ensures.capacity j) in
    record {
      bound = length_retained T _ _ _ filtered;
      filtered = filtered;
      room = (omega (arith, ap spare c.self.view_is, rooms, c.sift.ensures.fewer), ap hasher_of c.self.view_is);
      unique = distinct_retained _ g.met.K.Eq.laws T c.args.keep _ _ filtered unique;
    }

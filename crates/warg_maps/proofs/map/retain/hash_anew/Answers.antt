use Rattle.std.proofs.Common.{◌<◌, ◌++◌, ◌∷◌, [], map, take, length, sym, ap, ◌∙◌, arith}
use Rattle.std.proofs.lemmas.List.{map_push, take_more, take_all}
use Rattle.indexmap.specs.Layout.{table_hash}
use Rattle.warg_maps.proofs.map.retain.hash_anew.Goals as goal

pub loop-place-preserved : goal.loop-place-preserved
loop-place-preserved g c =
    let f = λ (k : g.row.K.Denot). table_hash g.S.BuildHasher g.S.Hasher.Hasher c.args.hash_builder.now (g.K.Hash.hash_input k) in
    let at = c.loop-place in
    let keys = c.args.keys.now in
    let key = c.index-keys-place.result in
    let within : at.place < length keys = omega (arith, c.loop-place-test.true, at.auto.place-end) in
    let more = take_more keys at.place key within ∙ ap (λ k. take at.place keys ++ k ∷ []) (sym c.index-keys-place.is) in (
      c.push_reserved.ensures.items ∙ (λ j. at.invariant.0 j ++ c.near_hash.ensures j ∷ []) ∙ sym (map_push f (take at.place keys) key) ∙ ap (map f) (sym more),
      omega (arith, c.push_reserved.ensures.len, at.invariant.1),
      omega (arith, c.push_reserved.ensures.capacity, at.invariant.2),
      c.push_reserved.ensures.capacity ∙ at.invariant.3,
    )

pub returns-clause-hashes : goal.returns-clause-hashes
returns-clause-hashes g c =
    let f = λ (k : g.row.K.Denot). table_hash g.S.BuildHasher g.S.Hasher.Hasher c.args.hash_builder.now (g.K.Hash.hash_input k) in
    let at = c.loop-place in
    at.invariant.0 ∙ ap (map f) (take_all at.place c.args.keys.now (omega (arith, c.loop-place-test.false, at.auto.place-end)))

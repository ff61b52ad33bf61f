use Rattle.std.proofs.Common.{◌≡◌, ◌<◌, ℕ, false, get_or, length, arith}
use mathlib.Core.Path.{sym, ap, subst, ◌∙◌}
use borrow.Author.Count.{below_more}
use Rattle.std.specs.Ordering.{is_eq}
use Rattle.std.proofs.lemmas.List.{get_or_default}
use Rattle.std.proofs.lemmas.Map.Keys.{apart_from_distinct}
use Rattle.warg_maps.specs.FarHash.{far_hash}
use Rattle.warg_maps.specs.Index.{HasEntry}
use Rattle.warg_maps.proofs.index.Index.refill.Goals as goal

pub loop-place-preserved : goal.loop-place-preserved
loop-place-preserved g c =
    let at = c.loop-place in
    let keys = c.args.keys.now in
    let hashes = c.args.hashes.now in
    let place = at.place in
    let key = c.index-keys-place.result in
    let eq = g.K.PartialEq.eq in
    let cmp = g.K.Ord.cmp in
    let new = c.add.new.self in
    let far = λ (k : g.row.K.Denot). far_hash (g.K.Hash.hash_input k) in
    let within : place < length keys = omega (arith, c.loop-place-test.true, at.auto.place-end) in
    let here : (d : g.row.K.Denot) → key ≡ get_or keys place d = λ d. c.index-keys-place.is ∙ get_or_default keys place key d within in
    let Holds = λ (i : ℕ). (d : g.row.K.Denot) → HasEntry cmp new (get_or hashes i 0) (far (get_or keys i d)) (get_or keys i d) i in
    let earlier : (i : ℕ) → i < place → Holds i
    = λ i p d.
    let k = get_or keys i d in
    let apart : is_eq (cmp key k) ≡ false = sym (g.met.K.Ord.matches_eq key k) ∙ g.met.K.Eq.laws.symm key k ∙ ap (eq k) (here d) ∙ apart_from_distinct eq keys i place d c.requires.distinct p within in
    c.add.ensures.kept (get_or hashes i 0) (far k) k i apart (at.invariant i d p) in
    let now : Holds place = λ d. subst (λ k. HasEntry cmp new (get_or hashes place 0) (far k) k place) (here d) c.add.ensures.added in
    λ i d p. below_more Holds place earlier now i p d

use mathlib.Core.Path.{ap, subst, ◌∙◌}
use native.Mathlib.Omega.{arith}
use Rattle.std.specs.Map.Calls.{CalledAtPair, TakesPair}
use Rattle.std_collections.proofs.RetainLoop.{asked, passed, kept, ended}
use Rattle.warg_maps.proofs.map.retain.sift.Goals as goal

pub passes-requires : goal.passes-requires
passes-requires g c =
    let at = c.loop-place in
    let a = at.keys.ok.0 in
    let b = at.values.ok.0 in
    let held = at.invariant.1 in
    let more = c.loop-place-test.true in
    asked (CalledAtPair g.F.FnMut) (TakesPair g.F.FnMut) at.invariant.0 c.index.result.now c.index_mut.result.now (omega arith) (omega arith) c.index.ensures c.index_mut.ensures.value

pub loop-place-preserved : goal.loop-place-preserved
loop-place-preserved g c =
    let T = CalledAtPair g.F.FnMut in
    let Q = TakesPair g.F.FnMut in
    let at = c.loop-place in
    let a = at.keys.ok.0 in
    let b = at.values.ok.0 in
    let held = at.invariant.1 in
    let more = c.loop-place-test.true in
    let k = c.index.result.now in
    let v = c.index_mut.result.now in
    let u = c.passes.new.value in
    elim c.if-passes.branch [
      | goal.then-passes one ↦
          let called = subst (λ r. T at.keep k v r u c.passes.new.keep) one.if-passes.true c.passes.ensures in
          let p = ap (λ w. w.len) one.keys-is ∙ one.swap.ensures.len in
          let q = ap (λ w. w.len) one.values-is ∙ one.swap-then-passes.ensures.len in
          let next = one.front-is in (
            kept T Q at.invariant.0 k v (omega arith) (omega arith) c.index.ensures c.index_mut.ensures.value (omega arith) u c.passes.new.keep c.if-passes.keys.items c.if-passes.values.items c.if-passes.front
                called (ap (λ w. w.items) one.keys-is ∙ one.swap.ensures.items) (ap (λ w. w.items) one.values-is ∙ one.swap-then-passes.ensures.items) next,
            omega arith,
            (ap (λ w. w.cap) one.keys-is ∙ one.swap.ensures.capacity ∙ at.invariant.2.0, ap (λ w. w.cap) one.values-is ∙ one.swap-then-passes.ensures.capacity ∙ at.invariant.2.1),
          )
      | goal.else-passes other ↦
          let called = subst (λ r. T at.keep k v r u c.passes.new.keep) other.if-passes.false c.passes.ensures in
          let p = ap (λ w. w.len) other.keys-is in
          let q = ap (λ w. w.len) other.values-is in
          let next = other.front-is in (
            passed T Q at.invariant.0 k v (omega arith) (omega arith) c.index.ensures c.index_mut.ensures.value (omega arith) u c.passes.new.keep c.if-passes.keys.items c.if-passes.values.items c.if-passes.front
                called (ap (λ w. w.items) other.keys-is) (ap (λ w. w.items) other.values-is) next,
            omega arith,
            (ap (λ w. w.cap) other.keys-is ∙ at.invariant.2.0, ap (λ w. w.cap) other.values-is ∙ at.invariant.2.1),
          )
    ]

pub returns : goal.returns
returns g c =
    let at = c.loop-place in
    let a = at.keys.ok.0 in
    let b = at.values.ok.0 in
    let held = at.invariant.1 in
    let done = c.loop-place-test.false in
    let p = c.truncate.ensures in
    let q = c.truncate-2.ensures in
    record {
      sifted = ended (CalledAtPair g.F.FnMut) (TakesPair g.F.FnMut) at.invariant.0 (omega arith) _ _ p.items q.items;
      fewer = omega (arith, p.len, c.truncate.new.self.ok.0, c.len-count.ensures, c.args.keys.now.ok.0);
      capacity = (p.capacity ∙ at.invariant.2.0, q.capacity ∙ at.invariant.2.1);
    }

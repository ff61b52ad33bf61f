use Rattle.std.proofs.Common.{[], ◌∷◌, ◌++◌, refl, sym, ap, ◌∙◌}
use Rattle.std.specs.Prelude.{reverse}
use Rattle.std.proofs.lemmas.List.{reverse-reverse}
use Rattle.warg_replay.proofs.AuditedLogLemmas.ChainLemmas.{trail-within}
use Rattle.warg_replay.proofs.AuditedLogLemmas.TrailLemmas.{trail-step, passed-more, passed-all}
use Rattle.warg_replay.proofs.audited_log.drafting.trail_of.Goals as goal

pub back-init : goal.back-init
back-init c = record {
  within = trail-within c.args.gifts.now c.args.number c.requires.0 c.requires.1;
  goes_on = c.requires;
  passed = λ ls t. (ls, t, ap (λ l. l ++ ls) (sym c.new-links.ensures.items));
}

pub returns-then-gift-at : goal.returns-then-gift-at
returns-then-gift-at c = λ ls t.
    let old = c.back.invariant.passed ls t in
    ap reverse c.reverse.ensures.items ∙ reverse-reverse c.push.new.self.items ∙ passed-all c.args.gifts.now c.back.at _ ls c.back.links.items c.push.new.self.items old.0 old.2 c.in_ok-push.ensures.items old.1 c.if-gift-at.true

pub back-smaller : goal.back-smaller
back-smaller c =
    let i = c.back.invariant in
    (trail-step c.args.gifts.now c.back.at _ i.goes_on.0 i.goes_on.1 c.if-gift-at.false).3

pub back-preserved : goal.back-preserved
back-preserved c =
    let i = c.back.invariant in
    let s = trail-step c.args.gifts.now c.back.at _ i.goes_on.0 i.goes_on.1 c.if-gift-at.false in
    record {
      within = trail-within c.args.gifts.now _ s.0 s.2;
      goes_on = (s.0, s.2);
      passed = λ ls t. let old = i.passed ls t in passed-more c.args.gifts.now c.back.at _ ls c.back.links.items c.push.new.self.items old.0 old.2 c.in_ok-push.ensures.items old.1 c.if-gift-at.false;
    }

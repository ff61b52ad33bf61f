use Rattle.std.proofs.Common.{[], ◌∷◌, ap, ◌∙◌}
use Rattle.std.specs.List.{filter_map}
use Rattle.indexmap.specs.IndexSet.{insert_all}
use Rattle.warg_log_records.proofs.Distinct.{insert_all-nil, insert_all-next}
use Rattle.std.proofs.lemmas.List.{take_all}
use Rattle.warg_log_records.proofs.mention.mentions.Goals as goal

pub loop-entry-preserved : goal.loop-entry-preserved
loop-entry-preserved g c =
    c.in_ok-insert_mention.ensures
    ∙ ap (λ ks. insert_all g.E.Item.PartialEq.eq ks (filter_map g.E.Mention.mention_of (c.entry-item.result ∷ []))) c.loop-entry.invariant
    ∙ insert_all-next g.E.Item.PartialEq.eq g.E.Mention.mention_of c.args.entries.now c.loop-entry.entry-index c.entry-item.result c.loop-entry-test.true c.entry-item.is

pub returns : goal.returns
returns g c =
    c.loop-entry.invariant
    ∙ ap (λ es. insert_all g.E.Item.PartialEq.eq [] (filter_map g.E.Mention.mention_of es)) (take_all c.loop-entry.entry-index c.args.entries.now c.loop-entry-test.false)
    ∙ insert_all-nil g.E.Item.PartialEq.eq g.met.E.Item.Eq.laws (filter_map g.E.Mention.mention_of c.args.entries.now)

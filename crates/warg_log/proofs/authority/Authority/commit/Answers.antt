use Rattle.std.proofs.Common.{refl, ◌∙◌, rules}
use Rattle.warg_permissions.specs.KeyMaps.Rights.{value_over}
use Rattle.warg_permissions.proofs.KeyMapsLemmas.AuthorityDataLemmas.{made-over}
use Rattle.warg_log.proofs.authority.Authority.commit.Goals as goal

pub returns-clause-made : goal.returns-clause-made
returns-clause-made g c =
    let a = c.self.inside in
    let b = c.changes.inside in
    made-over g.P.PartialEq.eq a.algorithm b.algorithm _ a.maps.permissions b.maps.permissions c.lay_over.new.self.permissions a.maps.keys b.maps.keys c.lay_over.new.self.keys c.args.self.now c.args.changes _ c.self.view_is c.changes.view_is refl
    (search rules)
    (λ k. c.lay_over.ensures.permissions k ∙ (λ i. value_over (c.make_room.ensures.entries.0 i) (c.make_room.ensures.changes.0 i) k))
    (λ k. c.lay_over.ensures.keys k ∙ (λ i. value_over (c.make_room.ensures.entries.1 i) (c.make_room.ensures.changes.1 i) k))

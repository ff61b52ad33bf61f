use Rattle.std.proofs.Common.{◌≡◌, Bool}
use mathlib.Core.Path.{sym, ap, ◌∙◌}
use Rattle.std.specs.Bool.{one_answer}
use Rattle.std.specs.HashMap.Eq.{hash_map_eq_keys}
use Rattle.std.specs.HashSet.Eq.{hash_set_eq_decides}
use Rattle.std_collections.proofs.SetKeys.{contains_seen}
use Rattle.warg_maps.proofs.set.NameSetPartialEq.eq.Goals as goal

-- what is equal stays so, said of other names of the same two
renamed : {a b x y : Bool} → a ≡ x → b ≡ y → a ≡ b → x ≡ y
renamed p q same = sym p ∙ same ∙ q

pub returns : goal.returns
returns g c =
    let mine = contains_seen c.self.inside.map.entries (ap (λ s. s.keys) c.self.view_is) in
    let theirs = contains_seen c.other.inside.map.entries (ap (λ s. s.keys) c.other.view_is) in
    let eq = g.T.PartialEq.eq in
    let decided = hash_map_eq_keys g.met.T.Eq.laws c.self.inside.map c.other.inside.map in
    c.eq.ensures
    ∙ one_answer _ _ (λ yes k. renamed (mine (eq k)) (theirs (eq k)) (decided.0 yes k), λ each. decided.1 (λ k. renamed (sym (mine (eq k))) (sym (theirs (eq k))) (each k)))
    (hash_set_eq_decides g.met.T.Eq.laws c.args.self.now c.args.other.now)

use Rattle.std.proofs.Common.{◌∙◌, Some, inl, inr, sym, ap}
use Rattle.warg_transparency.proofs.laws.heads.Goals as goal

pub returns : goal.returns
returns g c = λ b d es fs head other checkpoint log_id proof other_proof left right left_head right_head left_shown right_shown.
    elim (c.one_leaf.ensures checkpoint.map_root log_id (record { record_id = head }) (record { record_id = other }) proof other_proof left_shown right_shown) [
      | inr found ↦ inr (inr found)
      | inl same ↦ elim (c.equal_heads.ensures b d es fs left right (left_head ∙ ap (λ leaf. Some leaf.record_id) same ∙ sym right_head)) [
        | inl equal ↦ inl equal
        | inr found ↦ inr (inl found)
      ]
    ]

use Rattle.std.proofs.Common.{◌≡◌, ◌∙◌, ◌≤◌, [], length, take, slice_index_or, inl, inr, sym, arith}
use Rattle.std.proofs.lemmas.List.{get_or-take, length-take}
use Rattle.warg_transparency.proofs.LeafLemmas.{same_leaf}
use Rattle.warg_transparency.proofs.laws.forks.leaf_fork.Goals as goal

pub returns : goal.returns
returns c = λ index old new fork few entries is front.
    let first = fork.shown.old_is in
    let second = fork.shown.new_is in
    let count = old.checkpoint.now.log_length in
    let size : length (take count entries) ≡ count = front.size in
    let longer : count ≤ length entries = omega (arith, length-take count entries, size) in
    let at : slice_index_or (take count entries) index [] ≡ slice_index_or entries index [] = get_or-take count entries index [] first.includes.in_tree in
    elim (c.accepted_proofs.ensures.inclusion old.leaf.now index count old.proof.now old.checkpoint.now.log_root (omega (arith, longer, is.size, few)) first.hashes first.includes (take count entries) front.size front.root) [
      | inr found ↦ inl found
      | inl (own, path) ↦
          elim (c.accepted_proofs.ensures.inclusion new.leaf.now index new.checkpoint.now.log_length new.proof.now new.checkpoint.now.log_root few second.hashes second.includes entries is.size is.root) [
            | inr found ↦ inr found
            | inl (other_own, other_path) ↦ absurd (fork.differ (same_leaf c.no_encoding_begins_another.ensures old.leaf.now new.leaf.now first.ids second.ids (sym own ∙ at ∙ other_own)))
          ]
    ]

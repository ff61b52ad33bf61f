use Rattle.std.proofs.Common.{ap, ◌∙◌}
use Rattle.warg_saved_states.specs.Fit.{is_nil}
use Rattle.warg_saved_states.proofs.Optional.{empty_pairs, same_pairs}
use Rattle.warg_saved_states.proofs.members.are_no_keys.Goals as goal

pub returns : goal.returns
returns c = empty_pairs (λ k. k) (λ x. x) c.is_empty.result c.args.keys.now.entries c.is_empty.ensures ∙ ap is_nil (same_pairs c.args.keys.now.entries)

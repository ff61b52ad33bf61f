use Rattle.std.proofs.Common.{◌≡◌, ℕ, ◌+◌, ◌*◌, ◌≤◌, length}
use Rattle.json.specs.Json.{items, members, value}
use Rattle.serde_json.specs.Data.{Members}
use Rattle.serde_json.specs.Read.{converted, of_items, of_members}
use Rattle.warg_saved_states.specs.Passed.{behind, passed_items, passed_members}
use Rattle.warg_saved_states.proofs.pass.+pass.Given as goal

abbrev pub decreases-pass_from : goal.decreases-pass_from
decreases-pass_from l = 3 * l.depth

abbrev pub decreases-pass_value : goal.decreases-pass_value
decreases-pass_value l = 3 * l.depth + 1

abbrev pub decreases-pass_items : goal.decreases-pass_items
decreases-pass_items l = 3 * l.depth + 2

abbrev pub decreases-pass_members : goal.decreases-pass_members
decreases-pass_members l = 3 * l.depth + 2

abbrev pub invariant-pass_items-items : goal.invariant-pass_items-items
invariant-pass_items-items l =
    (n : ℕ) × (length l.reader ≤ n) × (passed_items l.depth l.initial.reader ≡ behind (converted of_items (items (value l.depth) n l.reader)))
    × (length l.reader ≤ length l.initial.reader)

abbrev pub decreases-pass_items-items : goal.decreases-pass_items-items
decreases-pass_items-items l = length l.reader

abbrev pub invariant-pass_members-members : goal.invariant-pass_members-members
invariant-pass_members-members l =
    (n : ℕ) × (length l.reader ≤ n)
    × ((old : Members) × (passed_members l.depth l.initial.reader ≡ behind (converted (λ js. of_members js old) (members (value l.depth) n l.reader))))
    × (length l.reader ≤ length l.initial.reader)

abbrev pub decreases-pass_members-members : goal.decreases-pass_members-members
decreases-pass_members-members l = length l.reader

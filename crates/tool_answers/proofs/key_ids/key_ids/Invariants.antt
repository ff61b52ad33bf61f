use Rattle.std.proofs.Common.{◌≡◌, ◌++◌, map}
use Rattle.tool_answers.proofs.key_ids.key_ids.Given as goal

-- the ids so far, and those of the keys that are left, are all
abbrev pub invariant-loop-key : goal.invariant-loop-key
invariant-loop-key g l = l.ids.items ++ map (λ key. key.id) l.key-iterator ≡ map (λ key. key.id) l.fn.keys

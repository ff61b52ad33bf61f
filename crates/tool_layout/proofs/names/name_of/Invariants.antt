use Rattle.std.proofs.Common.{◌≡◌, drop}
use Rattle.tool_layout.specs.KeyNames.{name_of}
use Rattle.tool_layout.proofs.names.name_of.Given as goal

-- no name so far is that of the key
abbrev pub invariant-loop-it : goal.invariant-loop-it
invariant-loop-it l = name_of (drop l.it-index l.names) l.id ≡ name_of l.names l.id

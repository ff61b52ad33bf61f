use Rattle.std.proofs.Common.{Ok}
use Rattle.std.specs.Str.Iter.{split_whitespace_rest}
use Rattle.tool_changes.proofs.MakeLemmas.WordLemmas.{IsNamedTo}
use Rattle.tool_changes.proofs.make.entries.permissions.Given as goal

-- the words so far name the permissions
abbrev pub invariant-loop-name : goal.invariant-loop-name
invariant-loop-name g l =
    IsNamedTo (λ word it. g.P.FromStr.from_str_gives word (Ok it)) l.names (split_whitespace_rest l.name-iterator) l.permissions.items

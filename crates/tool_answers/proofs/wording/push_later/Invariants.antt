use Rattle.std.proofs.Common.{◌≡◌, ◌++◌, map, string_bytes, take}
use Rattle.tool_answers.specs.ShownWords.{after_commas}
use Rattle.tool_answers.proofs.wording.push_later.Given as goal

-- the words of the entries so far
abbrev pub invariant-loop-entry : goal.invariant-loop-entry
invariant-loop-entry g l =
    string_bytes l.text ≡ string_bytes l.fn.text ++ after_commas (map g.E.EntryWords.words_of (take l.entry-index l.entries))

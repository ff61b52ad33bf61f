use Rattle.std.proofs.Common.{◌-◌, arith, drop, length, take_all}
use Rattle.std.proofs.lemmas.List.{length-drop}
use Rattle.tool_words.proofs.InvocationLemmas.{texts_from}
use Rattle.tool_words.proofs.invocation.words_from.Goals as goal

pub returns-then-start-words : goal.returns-then-start-words
returns-then-start-words c =
    let words = c.args.words.now in
    texts_from c.args.start words _
    (take_all (length words - c.args.start) (drop c.args.start words) (omega (arith, length-drop c.args.start words)))

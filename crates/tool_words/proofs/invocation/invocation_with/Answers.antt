use Rattle.std.proofs.Common.{rules}
use Rattle.tool_words.proofs.InvocationLemmas.{said_call}
use Rattle.tool_words.specs.PartsViews.{parts_view}
use Rattle.tool_words.specs.Requests.{texts}
use Rattle.tool_words.proofs.invocation.invocation_with.Goals as goal

pub returns-in-Some : goal.returns-in-Some
returns-in-Some c =
    said_call (texts c.args.words.now) c.args.called (parts_view c.args.parts.now) _ (search rules) (record {
      command = c.word.ensures;
      request = search rules;
      json = c.has.ensures;
      limit = c.limit.ensures;
      verified = c.value.ensures;
      toy = c.has-in-Some.ensures;
      full = c.has-in-Some-2.ensures;
      names = c.value-in-Some.ensures;
    })

use Rattle.std.proofs.Common.{ap, string_bytes}
use Rattle.std.specs.Option.{option_map}
use Rattle.std.specs.Vec.{vec_items}
use Rattle.tool_questions.proofs.chain.chain_of.Goals as goal

pub chain_lines-requires-clause-within : goal.chain_lines-requires-clause-within
chain_lines-requires-clause-within g c =
    rw c.as_slice.ensures.value (c.requires.within c.in-Some.links.items (ap (option_map vec_items) c.in-Some.is))

pub returns-in_ok-text-in-Some : goal.returns-in_ok-text-in-Some
returns-in_ok-text-in-Some g c =
    rw c.in-Some.is (string_bytes c.in_ok-text-in-Some.text, rw c.as_slice.ensures.value at c.in_ok-text-in-Some.ensures, c.new.ensures)

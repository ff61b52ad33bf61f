use Rattle.std.proofs.Common.{string_bytes}
use Rattle.std.proofs.lemmas.Result.{on_ok_weaker}
use Rattle.warg_printable.proofs.JsonLemmas.{json_pair}
use Rattle.warg_printable.proofs.json.push_escape.Goals as goal

pub returns : goal.returns
returns c =
    on_ok_weaker c.push_unit-3.result
    (json_pair c.args.c (string_bytes c.args.json.now) (string_bytes c.push_unit-2.new.json) (string_bytes c.push_unit-3.new.json) c.if-c-lt65536.false
    c.in_ok-push_unit.ensures)
    c.push_unit-3.ensures

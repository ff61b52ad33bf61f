use Rattle.std.proofs.Common.{◌≡◌, ◌<◌, false, true, length, ap, arith, is_ok, Ok}
use Rattle.std.proofs.lemmas.Grind.{common_steps}
use Rattle.std.proofs.lemmas.Result.{IfOk-weaker}
use Rattle.warg_audit.specs.Files.Lines.{input_of}
use Rattle.warg_audit.specs.Replies.{printed_of}
use Rattle.warg_audit.proofs.IdAnswers.{bad_first, line_behind, only_line}
use Rattle.warg_audit.proofs.FilesLemmas.InputLemmas.{no_ok}
use Rattle.warg_audit.proofs.identify.id_reply.Goals as goal

pub returns-then-not-branch : goal.returns-then-not-branch
returns-then-not-branch c =
    let bad : false ≡ is_ok (input_of c.cut_line.result.0.now) = grind (arith, common_steps) in
    IfOk-weaker c.bad_line_reply-then-not-branch.result _ _
    (λ reply. bad_first c.args.log_kind c.args.text.now c.cut_line.result.0.now c.cut_line.result.1.now
    (printed_of reply) c.cut_line.ensures.line (no_ok (input_of c.cut_line.result.0.now) bad))
    c.bad_line_reply-then-not-branch.ensures

pub returns-then-not-is_empty : goal.returns-then-not-is_empty
returns-then-not-is_empty c =
    let good : c.in_ok-decode_line.field-0 ≡ true = grind (arith, common_steps) in
    let some : 0 < length c.cut_line.result.1.now = grind (arith, common_steps) in
    IfOk-weaker c.bad_line_reply-then-not-is_empty.result _ _
    (λ reply. line_behind c.args.log_kind c.args.text.now c.cut_line.result.0.now c.cut_line.result.1.now
    (printed_of reply) c.decode_line.new.buffer.items c.cut_line.ensures.line
    (c.in_ok-decode_line.ensures.bytes (ap Ok good)) some)
    c.bad_line_reply-then-not-is_empty.ensures

pub returns : goal.returns
returns c =
    let good : c.in_ok-decode_line.field-0 ≡ true = grind (arith, common_steps) in
    let none : length c.cut_line.result.1.now ≡ 0 = grind (arith, common_steps) in
    IfOk-weaker c.envelope_reply.result _ _
    (λ reply. only_line c.args.log_kind c.args.text.now c.cut_line.result.0.now c.cut_line.result.1.now
    (printed_of reply) c.decode_line.new.buffer.items c.cut_line.ensures.line
    (c.in_ok-decode_line.ensures.bytes (ap Ok good)) none)
    (rw c.as_slice.ensures.value at c.envelope_reply.ensures)

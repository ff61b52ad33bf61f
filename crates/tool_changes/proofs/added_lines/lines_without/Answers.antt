use Rattle.std.proofs.Common.{◌++◌, ap, append_assoc, codes, string_bytes, sym, ◌∙◌, rules}
use Rattle.std.specs.Prelude.{filter, not}
use lib.Utf8.{encode}
use Rattle.std.proofs.lemmas.Iterator.Consumers.{YieldsList-end}
use Rattle.std.proofs.lemmas.Iterator.Splits.{YieldsList-from_lines}
use Rattle.warg_audit.specs.Files.RecordLines.{texts}
use Rattle.warg_audit.specs.Files.Texts.{all_lines}
use Rattle.tool_changes.specs.Additions.{is_none_of}
use Rattle.tool_changes.proofs.AddedLineLemmas.{kept_more, passed_more}
use Rattle.tool_changes.proofs.added_lines.lines_without.Goals as goal
use Rattle.tool_changes.proofs.added_lines.lines_without.Goals.{then-not-is_among+in_ok-push_str+in_ok-push, else-not-is_among}

pub loop-line-preserved : goal.loop-line-preserved
unfolding encode
loop-line-preserved c =
    let test = is_none_of (texts c.args.known.now) in
    let said = c.in-Some.line in
    let before = string_bytes c.loop-line.kept in
    elim c.if-not-is_among.branch [
      | then-not-is_among+in_ok-push_str+in_ok-push w ↦
          kept_more test c.loop-line.yielded said before (string_bytes c.if-not-is_among.kept) c.loop-line.invariant
          (ap not (sym w.if-not-is_among.ensures))
          (ap string_bytes w.kept-is ∙ w.in_ok-push.ensures.bytes ∙ ap (λ t. t ++ codes "\n") w.in_ok-push_str.ensures.bytes
          ∙ append_assoc before said.now (codes "\n"))
      | else-not-is_among w ↦
          ap string_bytes w.kept-is ∙ passed_more test c.loop-line.yielded said before c.loop-line.invariant (ap not (sym w.if-not-is_among.ensures))
    ]

pub returns : goal.returns
returns c =
    let end = YieldsList-end (YieldsList-from_lines c.args.text.now (search rules)) c.loop-line.yielded _ c.loop-line.yielded_by _ _ c.in-None.is c.next.ensures.steps in
    c.loop-line.invariant ∙ ap (λ ls. all_lines (filter (is_none_of (texts c.args.known.now)) ls)) end.0

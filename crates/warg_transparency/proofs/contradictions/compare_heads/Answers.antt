use Rattle.std.proofs.Common.{◌≡◌, true}
use Rattle.warg_transparency.specs.ShownTwice.{AreHeadsShown}
use Rattle.warg_transparency.proofs.ShownTwiceLemmas.{head_and_none, head_case_by, heads_not_shown, same_head, two_heads}
use Rattle.warg_transparency.proofs.contradictions.compare_heads.Goals as goal

pub returns : goal.returns
returns c =
    let root = c.args.map_root.now in
    let log_id = c.args.log_id.now in
    let one = c.args.one.now in
    let other = c.args.other.now in
    let case = c.head_case.result in
    let is = head_case_by (c.are_heads_shown-are_shown.result ≡ true) (AreHeadsShown root log_id one other) one.head other.head case c.are_heads_shown-are_shown.ensures c.head_case.ensures in
    record {
      same = same_head root log_id one other case is;
      two = two_heads root log_id one other case is;
      one_and_none = head_and_none root log_id one other case is;
      not_shown = heads_not_shown root log_id one other case is;
    }

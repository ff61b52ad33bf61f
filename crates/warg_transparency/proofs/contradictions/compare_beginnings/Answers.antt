use Rattle.std.proofs.Common.{◌≡◌, true}
use Rattle.warg_transparency.specs.ShownTwice.{AreBeginningsShown}
use Rattle.warg_transparency.proofs.ShownTwiceLemmas.{beginning_case_by, beginning_fork, beginnings_not_shown, collision, same_beginning, two_lengths}
use Rattle.warg_transparency.proofs.contradictions.compare_beginnings.Goals as goal

pub returns : goal.returns
returns c =
    let new = c.args.new.now in
    let one = c.args.one.now in
    let other = c.args.other.now in
    let case = c.beginning_case.result in
    let is = beginning_case_by (c.are_beginnings_shown-are_shown.result ≡ true) (AreBeginningsShown new one other) one.checkpoint.now other.checkpoint.now case c.are_beginnings_shown-are_shown.ensures c.beginning_case.ensures in
    record {
      same = same_beginning new one other case is;
      fork = beginning_fork new one other case is;
      collision = collision new one other case is;
      two_lengths = two_lengths new one other case is;
      not_shown = beginnings_not_shown new one other case is;
    }

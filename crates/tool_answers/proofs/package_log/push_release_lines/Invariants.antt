use Rattle.std.proofs.Common.{◌≡◌, ◌++◌, List, ℕ, string_bytes}
use Rattle.tool_answers.proofs.ShownWordLemmas.{AreFirstLines}
use Rattle.tool_answers.proofs.package_log.push_release_lines.Given as goal

abbrev pub invariant-loop-release : goal.invariant-loop-release
invariant-loop-release l =
    (so_far : List ℕ) × AreFirstLines l.release-iterator l.fn.releases so_far × (string_bytes l.text ≡ string_bytes l.fn.text ++ so_far)

use Rattle.std.proofs.Common.{◌≡◌, ◌++◌, string_bytes}
use Rattle.warg_package_log.specs.State.{view_of}
use Rattle.warg_audit.specs.ReleaseLines.{release_lines}
use Rattle.warg_audit.proofs.package_log.LogStateReport.append_lines.Given as goal

-- what is appended so far, and the lines of the releases that are left, are all
abbrev pub invariant-releases : goal.invariant-releases
invariant-releases l =
    string_bytes l.text ++ release_lines l.release-iterator ≡ string_bytes l.fn.text ++ release_lines (view_of l.fn.self).state.own_state

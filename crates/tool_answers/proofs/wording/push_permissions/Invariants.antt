use Rattle.std.proofs.Common.{◌≡◌, ◌++◌, map, string_bytes, take}
use Rattle.tool_answers.specs.ShownWords.{after_spaces}
use Rattle.tool_answers.proofs.wording.push_permissions.Given as goal

-- the texts of the permissions so far
abbrev pub invariant-loop-permission : goal.invariant-loop-permission
invariant-loop-permission g l =
    string_bytes l.text ≡ string_bytes l.fn.text ++ after_spaces (map g.P.LogPermission.text_of (take l.permission-index l.permissions))

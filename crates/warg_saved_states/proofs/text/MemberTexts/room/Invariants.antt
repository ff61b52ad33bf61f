use Rattle.std.proofs.Common.{◌+◌, ◌≤◌}
use Rattle.warg_saved_states.specs.Texts.{room_of, texts_view}
use Rattle.warg_saved_states.proofs.text.MemberTexts.room.Given as goal

-- the room so far and that of the members that are left are no more than the room of all, with its two braces again
abbrev pub invariant-members : goal.invariant-members
invariant-members l = l.room + room_of (texts_view l.name-iterator) ≤ 2 + room_of l.fn.self

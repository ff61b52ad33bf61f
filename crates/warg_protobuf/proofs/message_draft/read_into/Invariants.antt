use Rattle.std.proofs.Common.{◌≡◌, length}
use Rattle.warg_protobuf.specs.Reading.{fields_of}
use Rattle.warg_protobuf.specs.Values.{kept_of}
use Rattle.warg_protobuf.proofs.message_draft.read_into.Given as goal

abbrev pub invariant-loop-rest : goal.invariant-loop-rest
invariant-loop-rest g l = kept_of g.D.MessageDraft.with_field (g.D.MessageDraft.kept_data l.draft) (fields_of g.D.MessageDraft.table l.rest) ≡ kept_of g.D.MessageDraft.with_field (g.D.MessageDraft.kept_data l.fn.draft) (fields_of g.D.MessageDraft.table l.bytes)

abbrev pub decreases-loop-rest : goal.decreases-loop-rest
decreases-loop-rest g l = length l.rest

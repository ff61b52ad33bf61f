use Rattle.std.proofs.Common.{◌≡◌, [], take}
use Rattle.warg_audit.specs.Files.Answers.{output_data}
use Rattle.tool_changes.specs.ManyAudits.{IsWithWords}
use Rattle.warg_audit.specs.Files.RecordLines.{texts}
use Rattle.tool_changes.proofs.many_audits.audits_answer.Given as goal

-- the lines of the words so far, and no file is changed
abbrev pub invariant-loop-log : goal.invariant-loop-log
invariant-loop-log g l = record {
  said : IsWithWords l.verdicts.is_json l.verdicts.kind (g.V.Verifier.belongs l.verdicts.verifier.now) (g.S.Store.files l.fn.store) l.verdicts.allows_empty
      (texts (take l.log-index l.logs)) (record { text = []; status = 0 }) (output_data l.all);
  kept : g.S.Store.files l.store ≡ g.S.Store.files l.fn.store;
}

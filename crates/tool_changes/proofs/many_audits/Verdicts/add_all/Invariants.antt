use Rattle.std.proofs.Common.{◌≡◌, filter, map}
use Rattle.warg_audit.specs.Files.Answers.{output_data}
use Rattle.tool_changes.specs.ManyAudits.{is_path, IsWithAll}
use Rattle.tool_changes.proofs.many_audits.Verdicts.add_all.Given as goal

-- the lines of the paths so far, and no file is changed
abbrev pub invariant-loop-line : goal.invariant-loop-line
invariant-loop-line g l = record {
  said : IsWithAll l.self.is_json l.self.kind (g.V.Verifier.belongs l.self.verifier.now) (g.S.Store.files l.fn.store) l.self.allows_empty
      (filter is_path (map (λ it. it.now) l.yielded)) (output_data l.fn.all) (output_data l.all);
  kept : g.S.Store.files l.store ≡ g.S.Store.files l.fn.store;
}

use Rattle.tool_changes.proofs.json.object_of_line.Goals as goal

pub returns : goal.returns
returns c = rw c.line_forms.ensures at c.line_object.ensures

use Rattle.tool_changes.proofs.json.object_of_path.Goals as goal

pub returns : goal.returns
returns c = rw c.line_forms.ensures at c.path_object.ensures

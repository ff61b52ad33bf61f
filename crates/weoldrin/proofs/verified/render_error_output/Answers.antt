use Rattle.weoldrin.proofs.verified.render_error_output.Goals as goal

pub returns-in-Output : goal.returns-in-Output
returns-in-Output c = rw c.in-Output.is c.render.ensures

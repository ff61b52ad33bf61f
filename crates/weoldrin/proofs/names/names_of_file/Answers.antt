use Rattle.std.proofs.Common.{◌∙◌}
use Rattle.weoldrin.proofs.NameLemmas.{unlisted_bytes, unlisted_text}
use Rattle.weoldrin.proofs.names.names_of_file.Goals as goal

pub returns-in-Ok-clause-ok : goal.returns-in-Ok-clause-ok
returns-in-Ok-clause-ok c = rw (c.in-Ok.ensures.cases.0, c.as_slice.ensures.value) at c.names_of.ensures.ok

pub returns-in-Ok-clause-err : goal.returns-in-Ok-clause-err
returns-in-Ok-clause-err c =
    unlisted_text c.args.input.now.bytes.items c.in-Ok.text.now c.names_of.result (c.in-Ok.ensures.cases.0 ∙ c.as_slice.ensures.value)
    c.names_of.ensures.err

pub returns-in-Err-clause-err : goal.returns-in-Err-clause-err
returns-in-Err-clause-err c =
    unlisted_bytes c.args.input.now.bytes.items c.file_error.result (rw c.as_slice.ensures.value at c.in-Err.ensures.cases.0) c.file_error.ensures

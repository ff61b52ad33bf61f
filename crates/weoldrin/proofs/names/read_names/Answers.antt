use Rattle.std.proofs.lemmas.Result.{IfOk-weaker}
use Rattle.warg_audit.proofs.FilesLemmas.UnusableLemmas.{file_unread}
use Rattle.weoldrin.proofs.NameLemmas.{unlisted_file}
use Rattle.weoldrin.proofs.names.read_names.Goals as goal

pub returns-in-Ok-clause-ok : goal.returns-in-Ok-clause-ok
returns-in-Ok-clause-ok g c =
    IfOk-weaker c.names_of_file.result _ _
    (λ names said. record { bytes = c.in-Ok.input.bytes.items; held = c.in-Ok.ensures.bytes; said = said })
    c.names_of_file.ensures.ok

pub returns-in-Ok-clause-err : goal.returns-in-Ok-clause-err
returns-in-Ok-clause-err g c =
    unlisted_file _ _ c.in-Ok.input.bytes.items c.names_of_file.result c.in-Ok.ensures.bytes c.names_of_file.ensures.err

pub returns-in-Err-clause-err : goal.returns-in-Err-clause-err
returns-in-Err-clause-err g c = file_unread _ _ _ c.in-Err.error c.in-Err.ensures.err

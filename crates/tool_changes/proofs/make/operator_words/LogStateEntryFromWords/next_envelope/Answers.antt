use Rattle.std.proofs.Common.{List, ℕ, subst}
use Rattle.std.proofs.lemmas.Result.{IfOk-weaker}
use Rattle.tool_changes.specs.Make.NextRecords.{operator_prefix}
use Rattle.tool_changes.specs.Make.Sealed.{IsSigned}
use Rattle.tool_changes.proofs.MakeLemmas.RecordLemmas.{operator_content_is}
use Rattle.tool_changes.proofs.make.operator_words.LogStateEntryFromWords.next_envelope.Goals as goal

pub returns-clause-ok : goal.returns-clause-ok
returns-clause-ok g c =
    let it = c.next_record.ensures in
    let same = operator_content_is c.next_record.result _ _ _ it.prev it.version it.said.0 it.said.1 in
    IfOk-weaker c.enveloped.result _ _
    (λ made is. subst (λ (content : List ℕ).
    IsSigned (g.S.Signer.gives c.args.signer.now) (g.S.Signer.key_of c.args.signer.now) operator_prefix content made.envelope) same is)
    c.enveloped.ensures.ok

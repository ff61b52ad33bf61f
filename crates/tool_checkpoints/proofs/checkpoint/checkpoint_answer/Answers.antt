use Rattle.tool_checkpoints.proofs.checkpoint.checkpoint_answer.Goals as goal

pub returns-in-Message-clause-answered : goal.returns-in-Message-clause-answered
returns-in-Message-clause-answered g c = rw c.in-Message.is c.message_answer.ensures.answered

pub returns-in-Signature-clause-answered : goal.returns-in-Signature-clause-answered
returns-in-Signature-clause-answered g c = rw c.in-Signature.is c.signature_answer.ensures.answered

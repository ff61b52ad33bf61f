use Rattle.warg_crypto.proofs.json.laws.versions_are_of_texts.Goals as goal

pub returns-clause-written : goal.returns-clause-written
returns-clause-written g c = g.met.T.JsonValue.versions_written

pub returns-clause-read : goal.returns-clause-read
returns-clause-read g c = g.met.T.JsonValue.versions_read

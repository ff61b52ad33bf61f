use Rattle.tool_laws.proofs.PlainLemmas.ByteLemmas.{hash_bytes, sha256_bytes}
use Rattle.tool_laws.proofs.PlainLemmas.WordLemmas.{hash_plain}
use Rattle.tool_laws.proofs.plain.laws.hashes_are_plain.Goals as goal

pub returns-clause-text : goal.returns-clause-text
returns-clause-text c = hash_plain

pub returns-clause-digest : goal.returns-clause-digest
returns-clause-digest c = sha256_bytes

pub returns-clause-read : goal.returns-clause-read
returns-clause-read c = hash_bytes

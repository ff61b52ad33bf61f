use Rattle.std.proofs.Common.{◌≡◌, Ok, rules}
use Rattle.serde_json.specs.View.{view}
use Rattle.warg_crypto.specs.Json.JsonTexts.{key_json}
use Rattle.warg_crypto.proofs.JsonLemmas.JsonTextLaws.{key_reads_back}
use Rattle.warg_crypto.proofs.json.texts.PublicKeyJsonValue.to_value.Goals as goal

pub returns-clause-back : goal.returns-clause-back
returns-clause-back c =
    let written : key_json c.args.self.now ≡ Ok (view c.string_value.result) = search rules in
    let read = key_reads_back c.args.self.now _ (record { name = c.algorithm-name.ensures.named; bytes = c.bytes-bytes.ensures.are_bytes }) written in
    λ _. record { again = read.again; is = read.is; equal = read.equal }

use Rattle.std.proofs.Common.{◌≡◌, List, ℕ, Ok, length, rules, subst}
use Rattle.serde_json.specs.View.{view}
use Rattle.warg_crypto.specs.Json.JsonTexts.{hash_json}
use Rattle.warg_crypto.proofs.JsonLemmas.JsonTextLaws.{hash_reads_back}
use Rattle.warg_crypto.proofs.json.texts.AnyHashJsonValue.to_value.Goals as goal

pub returns-clause-back : goal.returns-clause-back
returns-clause-back c =
    let len : length c.args.self.now.bytes ≡ 32 = subst (λ (xs : List ℕ). length xs ≡ 32) c.bytes-bytes.ensures.value c.bytes-bytes.ensures.len in
    let written : hash_json c.args.self.now ≡ Ok (view c.string_value.result) = search rules in
    let read = hash_reads_back c.args.self.now _ (record { len = len; bytes = c.bytes-bytes.ensures.are_bytes }) written in
    λ _. record { again = read.again; is = read.is; equal = read.equal }

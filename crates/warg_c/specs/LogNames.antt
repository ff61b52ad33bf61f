-- The ids of logs by the names of their packages, and the leaf of a record.
use Rattle.std.specs.Prelude.{◌≡◌, ◌≢◌, ◌⊎◌, ℕ, zero, suc, List, []}
use Rattle.std.specs.Str.{IsUtf8}
use Rattle.warg_crypto.specs.HashText.{hash_of, hash_text, sha256_hash_of}
use Rattle.warg_registry.specs.KebabNames.{IsPackageText}
use Rattle.warg_registry.specs.LogIds.{operator_log_message, package_log_message}
use Rattle.warg_registry.specs.PrefixEncodings.{log_leaf_encoding_of}
use Rattle.warg_registry.specs.declared.leaf.LogLeaf.{LogLeaf}
use Rattle.warg_c.specs.ProofAnswers.{AreLeafTexts, IsNoText}
use Rattle.warg_c.specs.declared.argument_error.ArgumentError.{ArgumentError}
use Rattle.warg_c.specs.declared.argument_error.ArgumentError.TheVariants.{NoKind, BadName}

-- the text of the id that hashes a message
abbrev pub id_text_of : List ℕ → List ℕ
id_text_of message = hash_text (sha256_hash_of message)

-- the text is that of the id of a log of the kind that the number names: of the package's of this name, or of the
-- operators', which has no name
abbrev pub log_id_tells : ℕ → List ℕ → List ℕ → Type 0
log_id_tells zero name text = IsPackageText name × (text ≡ id_text_of (package_log_message name))
log_id_tells (suc zero) name text = (name ≡ []) × (text ≡ id_text_of operator_log_message)
log_id_tells (suc (suc n)) name text = ⊥

-- no log of the kind has the name, or the number names no kind
abbrev pub log_id_bad : ℕ → List ℕ → Type 0
log_id_bad zero name = IsUtf8 name → IsPackageText name → ⊥
log_id_bad (suc zero) name = name ≢ []
log_id_bad (suc (suc n)) name = Unit {0}

-- what is wrong then
abbrev pub log_id_error : ℕ → ArgumentError
log_id_error zero = BadName
log_id_error (suc zero) = BadName
log_id_error (suc (suc n)) = NoKind

-- the bytes are those of the leaf of a record of a log, by the texts of their ids
pub record IsLeafOf (log_id record_id bytes : List ℕ) : Type 0 where
  pub leaf : LogLeaf
  pub texts : AreLeafTexts log_id record_id leaf
  pub encoding : bytes ≡ log_leaf_encoding_of leaf

-- one of both texts is none of an id
abbrev pub IsNoLeaf : List ℕ → List ℕ → Type 0
IsNoLeaf log_id record_id = IsNoText hash_of log_id ⊎ IsNoText hash_of record_id

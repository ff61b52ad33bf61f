-- What is asked of the JSON of a checkpoint is enough for it.
use Rattle.std.specs.Prelude.{◌≡◌, ◌^◌, ℕ, List, codes, Ok, refl}
use Rattle.std.proofs.Common.{sym, ◌∙◌}
use Rattle.serde_json.specs.Data.{Data}
use Rattle.warg_crypto.specs.Json.JsonTexts.{hash_in}
use Rattle.warg_crypto.specs.Json.Numbers.{number_in}
use Rattle.warg_registry.specs.RegistryJson.{checkpoint_in}
use Rattle.warg_registry.specs.declared.checkpoint.Checkpoint.{Checkpoint}
use Rattle.warg_saved_states.specs.Asked.{IsAskedOfText}
use Rattle.warg_saved_states.specs.Next.{AsksFor}
use Rattle.warg_saved_states.proofs.AskedLaws.{number_asked, read_member_asked}
use Rattle.tool_checkpoints.specs.Proofs.{checkpoint_members, IsCheckpoint}
use Rattle.tool_checkpoints.proofs.WordLemmas.{said_of}

hash_asked : AsksFor checkpoint_members 0 hash_in
hash_asked d v like = rw like.text refl

checkpoint_asked : AsksFor checkpoint_members 1 checkpoint_in
checkpoint_asked d v like =
    read_member_asked checkpoint_members 0 (codes "logRoot") d v hash_in _ _ refl hash_asked like (λ log_root.
    read_member_asked checkpoint_members 0 (codes "logLength") d v number_in _ _ refl (number_asked checkpoint_members 0 (2 ^ 64)) like (λ log_length.
    read_member_asked checkpoint_members 0 (codes "mapRoot") d v hash_in _ _ refl hash_asked like (λ map_root. refl)))

module _ (bytes : List ℕ) (v : Data) (is : IsAskedOfText checkpoint_members 1 bytes v) where
  -- what is asked says a checkpoint where the whole does
  pub said_by_asked : (checkpoint : Checkpoint) → checkpoint_in v ≡ Ok checkpoint → checkpoint_in is.whole ≡ Ok checkpoint
  said_by_asked checkpoint said = sym (checkpoint_asked is.whole v is.asked) ∙ said

  pub asked_said : (checkpoint : Checkpoint) → IsCheckpoint bytes checkpoint → (value : Checkpoint) × (checkpoint_in v ≡ Ok value)
  asked_said checkpoint it =
      let told = said_of bytes is.whole is.is checkpoint it in
      (told.0, checkpoint_asked is.whole v is.asked ∙ told.1)

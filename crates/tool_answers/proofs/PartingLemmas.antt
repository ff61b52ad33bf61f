-- Where logs part, by the places of their records.
use Rattle.std.proofs.Common.{◌≡◌, ◌∙◌, ◌<◌, ℕ, All, List, length, slice_index_or, Option, Some, Result, ap, subst, sym}
use Rattle.std.specs.List.{slice_get}
use Rattle.std.specs.Option.{option_map}
use Rattle.std.proofs.lemmas.List.{length-map}
use Rattle.std.proofs.lemmas.Option.{slice_get-get_or, slice_get-map}
use Rattle.warg_protocol.specs.Records.{RecordId}
use Rattle.warg_protocol.specs.Logs.{DecodedEnvelope, IsComparison, ContentsMatchBytes, contents, envelopes}
use Rattle.warg_replay.specs.declared.audited_log.comparison.Comparison.{Comparison}
use Rattle.warg_replay.specs.declared.audited_log.comparison.Comparison.TheVariants.{Same, LeftIsPrefix, RightIsPrefix, Fork, Collision}
use Rattle.tool_answers.specs.Texts.{PartsWithin}
use Rattle.warg_audit.specs.Printouts.{OutputData}
use Rattle.warg_audit.specs.Files.Answers.{output_data, IfOutput, IsSideError}
use Rattle.warg_audit.specs.Files.Texts.{side_text}
use Rattle.warg_audit.specs.declared.files.command_error.CommandError.{CommandError}
use Rattle.warg_audit.specs.declared.files.command_error.CommandError.TheVariants as command_error

pub length-contents : {C : Type 0} (records : List (DecodedEnvelope C)) → length (contents (envelopes records)) ≡ length records
length-contents records = length-map (envelopes records) (λ e. e.content) ∙ length-map records (λ e. e.envelope)

-- the envelope of the record at a place, and what its content bytes say
module _ {C : Type 0} (records : List (DecodedEnvelope C)) (place : ℕ) (it : DecodedEnvelope C) (low : place < length records) (is : it ≡ slice_index_or records place it) where
  pub envelope_at : slice_get (envelopes records) place ≡ Some it.envelope
  envelope_at =
      slice_get-map (λ (e : DecodedEnvelope C). e.envelope) records place
      ∙ ap (option_map (λ (e : DecodedEnvelope C). e.envelope)) (slice_get-get_or records place it low ∙ ap Some (sym is))

  pub honest_at : {M F : Type 0} (read : List ℕ → Result M F) (meaning : C → M) → All (ContentsMatchBytes read meaning) records → ContentsMatchBytes read meaning it
  honest_at read meaning all = subst (ContentsMatchBytes read meaning) (sym is) (all place it low)

-- a comparison's places are those of records
pub parts_within : (old_head new_head : Option RecordId) (old new : List (List ℕ)) (comparison : Comparison)
    → IsComparison old_head new_head old new comparison → PartsWithin old new comparison
parts_within old_head new_head old new Same h = tt
parts_within old_head new_head old new (LeftIsPrefix place) h = tt
parts_within old_head new_head old new (RightIsPrefix place) h = tt
parts_within old_head new_head old new (Fork place) h = (h.1.in_left, h.1.in_right)
parts_within old_head new_head old new (Collision here there) h = (h.1.in_left, h.1.in_right)

-- the error of a command for want of a side
pub end_of_side : (name : List ℕ) (own named : CommandError) (P : OutputData → Type 0) → IsSideError name own named → IfOutput P own
    → IfOutput (λ printed. (it : OutputData) × (P it × (printed ≡ side_text name it))) named
end_of_side name own (command_error.Output answer) P is h = (output_data is.0, (rw is.1 at h, is.2))
end_of_side name own command_error.OutOfMemory P is h = tt

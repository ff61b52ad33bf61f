-- What is answered of a leaf, and of two views of a registry.
use Rattle.std.proofs.Common.{◌≡◌, ℕ, true, List, ◌++◌, codes, Option, refl, inl, inr}
use Rattle.std.specs.Fmt.{decimal}
use Rattle.hex.specs.Hex.{encode_lower}
use Rattle.warg_registry.specs.PrefixEncodings.{log_leaf_encoding_of}
use Rattle.warg_registry.specs.declared.checkpoint.Checkpoint.{Checkpoint}
use Rattle.warg_registry.specs.declared.leaf.LogLeaf.{LogLeaf}
use Rattle.warg_transparency.specs.declared.contradictions.BeginningComparison.{BeginningComparison}
use Rattle.warg_transparency.specs.declared.contradictions.BeginningComparison.TheVariants as beginnings
use Rattle.warg_transparency.specs.declared.contradictions.HeadComparison.{HeadComparison}
use Rattle.warg_transparency.specs.declared.contradictions.HeadComparison.TheVariants as heads
use Rattle.warg_transparency.specs.declared.forks.CheckpointComparison.{CheckpointComparison}
use Rattle.warg_transparency.specs.declared.forks.CheckpointComparison.TheVariants as checkpoints
use Rattle.warg_transparency.specs.declared.forks.LeafComparison.{LeafComparison}
use Rattle.warg_transparency.specs.declared.forks.LeafComparison.TheVariants as leaves
use Rattle.warg_audit.specs.Files.Files.{Files}
use Rattle.warg_audit.specs.Files.OutputData.{OutputData}
use Rattle.warg_audit.specs.Files.Texts.{line, yes}
use Rattle.tool_checkpoints.specs.Comparisons.{AreCompared, IsCheckpointsAnswer, IsComparison, IsLeavesAnswer, IsViewsAnswer, checkpoint_text, leaf_text}
use Rattle.tool_checkpoints.specs.LeafTexts.{IsLeafAnswer, IsLeafLine}
use Rattle.tool_checkpoints.specs.ShownTwice.{IsBeginningsAnswer, IsHeadsAnswer, beginning_text, head_text}
use Rattle.tool_words.specs.declared.statement.LeafIds.{LeafIds}
use Rattle.tool_words.specs.declared.views.BeginningFiles.{BeginningFiles}
use Rattle.tool_words.specs.declared.views.HeadWords.{HeadWords}
use Rattle.tool_words.specs.declared.views.ShownIds.{ShownIds}
use Rattle.tool_words.specs.declared.views.Views.{Views}
use Rattle.tool_words.specs.declared.views.Views.TheVariants as views
use Rattle.tool_laws.specs.Plain.Plain.{is_plain}
use Rattle.tool_laws.proofs.FileLemmas.{by_file_clean, words_clean}
use Rattle.tool_laws.proofs.LineLemmas.{IsClean, IsOneLine, clean_line, plain_front, plain_line, word_front}
use Rattle.tool_laws.proofs.PlainLemmas.ByteLemmas.{bytes_from}
use Rattle.tool_laws.proofs.PlainLemmas.WordLemmas.{decimal_plain, hex_plain}

-- ---- leaves in hex

leaf_line_clean : (leaf : LogLeaf) (printed : OutputData) → IsLeafLine leaf printed → IsClean printed
leaf_line_clean leaf printed h =
    let entry = log_leaf_encoding_of leaf in
    clean_line printed (yes (line (encode_lower entry))) h.is (plain_line (encode_lower entry) (hex_plain entry (bytes_from entry h.are_bytes)))

-- the leaf of two ids
pub leaf_clean : (ids : LeafIds) (printed : OutputData) → IsLeafAnswer ids printed → IsClean printed
leaf_clean ids printed h = words_clean printed h (λ leaf said. leaf_line_clean leaf printed)

-- ---- comparisons

number_one : (word : List ℕ) (n : ℕ) → is_plain word ≡ true → IsOneLine (word ++ (decimal n ++ codes "\n"))
number_one word n h = plain_front word (decimal n ++ codes "\n") h (plain_line (decimal n) (decimal_plain n))

numbers_one : (word : List ℕ) (old new : ℕ) → is_plain word ≡ true
    → IsOneLine (word ++ (decimal old ++ (codes " " ++ (decimal new ++ codes "\n"))))
numbers_one word old new h =
    let last : List ℕ = decimal new ++ codes "\n" in
    plain_front word (decimal old ++ (codes " " ++ last)) h
    (word_front (decimal old) last (decimal_plain old) (plain_line (decimal new) (decimal_plain new)))

checkpoint_one : (old new : ℕ) (case : CheckpointComparison) → IsOneLine (checkpoint_text old new case).text
checkpoint_one old new checkpoints.Same = number_one (codes "same ") old refl
checkpoint_one old new checkpoints.GoesOn = numbers_one (codes "goes on ") old new refl
checkpoint_one old new checkpoints.GoesBack = numbers_one (codes "rolled back ") old new refl
checkpoint_one old new checkpoints.Fork = number_one (codes "fork ") old refl
checkpoint_one old new checkpoints.NotShown = numbers_one (codes "not shown ") old new refl

compared_clean : (old new : Checkpoint) (proof : List (List ℕ)) (printed : OutputData) → AreCompared old new proof printed → IsClean printed
compared_clean old new proof printed h =
    clean_line printed (checkpoint_text old.log_length new.log_length h.case) h.text (checkpoint_one old.log_length new.log_length h.case)

leaf_one : (case : LeafComparison) → IsOneLine (leaf_text case).text
leaf_one leaves.Same = plain_line (codes "same") refl
leaf_one leaves.Fork = plain_line (codes "fork") refl
leaf_one leaves.NotShown = plain_line (codes "not shown") refl

head_one : (case : HeadComparison) → IsOneLine (head_text case).text
head_one heads.Same = plain_line (codes "same") refl
head_one heads.Two = plain_line (codes "two") refl
head_one heads.OneAndNone = plain_line (codes "one and none") refl
head_one heads.NotShown = plain_line (codes "not shown") refl

beginning_one : (case : BeginningComparison) → IsOneLine (beginning_text case).text
beginning_one beginnings.Same = plain_line (codes "same") refl
beginning_one beginnings.Fork = plain_line (codes "fork") refl
beginning_one beginnings.Collision = plain_line (codes "collision") refl
beginning_one beginnings.TwoLengths = plain_line (codes "two lengths") refl
beginning_one beginnings.NotShown = plain_line (codes "not shown") refl

module _ (files : Option Files) where
  comparison_clean : (proof : List ℕ) (old new : Checkpoint) (printed : OutputData) → IsComparison files proof old new printed → IsClean printed
  comparison_clean proof old new printed (inl h) = by_file_clean files proof printed h.1 (λ hashes. compared_clean old new hashes printed)
  comparison_clean proof old new printed (inr h) = compared_clean old new _ printed h.1

  checkpoints_said : (old new proof : List ℕ) (printed : OutputData) → IsCheckpointsAnswer files old new proof printed → IsClean printed
  checkpoints_said old new proof printed h =
      by_file_clean files old printed h (λ before by_old.
      by_file_clean files new printed by_old (λ after.
      comparison_clean proof before.contents.checkpoint after.contents.checkpoint printed))

  leaves_said : (place : List ℕ) (old new : ShownIds) (printed : OutputData) → IsLeavesAnswer files place old new printed → IsClean printed
  leaves_said place old new printed h =
      words_clean printed h (λ index said by_place.
      words_clean printed by_place (λ leaf said by_ids.
      by_file_clean files old.checkpoint.now printed by_ids (λ signed by_view.
      by_file_clean files old.proof.now printed by_view (λ proof by_old.
      words_clean printed by_old (λ leaf said by_ids.
      by_file_clean files new.checkpoint.now printed by_ids (λ signed by_view.
      by_file_clean files new.proof.now printed by_view (λ proof is.
      clean_line printed (leaf_text is.case) is.text (leaf_one is.case))))))))

  heads_said : (checkpoint log_id : List ℕ) (one other : HeadWords) (printed : OutputData)
      → IsHeadsAnswer files checkpoint log_id one other printed → IsClean printed
  heads_said checkpoint log_id one other printed h =
      words_clean printed h (λ log said by_log.
      by_file_clean files checkpoint printed by_log (λ signed by_view.
      words_clean printed by_view (λ head said by_head.
      by_file_clean files one.proof.now printed by_head (λ proof by_one.
      words_clean printed by_one (λ head said by_head.
      by_file_clean files other.proof.now printed by_head (λ proof is.
      clean_line printed (head_text is.case) is.text (head_one is.case)))))))

  beginnings_said : (one other : BeginningFiles) (new : List ℕ) (printed : OutputData)
      → IsBeginningsAnswer files one other new printed → IsClean printed
  beginnings_said one other new printed h =
      by_file_clean files one.checkpoint.now printed h (λ signed by_view.
      by_file_clean files one.proof.now printed by_view (λ proof by_one.
      by_file_clean files other.checkpoint.now printed by_one (λ signed by_view.
      by_file_clean files other.proof.now printed by_view (λ proof by_both.
      by_file_clean files new printed by_both (λ newer is.
      clean_line printed (beginning_text is.case) is.text (beginning_one is.case))))))

  -- what two views of a registry show of one another
  pub views_clean : (it : Views) (printed : OutputData) → IsViewsAnswer files it printed → IsClean printed
  views_clean (views.Checkpoints old new proof) printed h = checkpoints_said old.now new.now proof.now printed h
  views_clean (views.Leaves place old new) printed h = leaves_said place.now old new printed h
  views_clean (views.Heads checkpoint log_id one other) printed h = heads_said checkpoint.now log_id.now one other printed h
  views_clean (views.Beginnings one other new) printed h = beginnings_said one other new.now printed h

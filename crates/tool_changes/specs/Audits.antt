-- What is answered to the lines of a log of which something may be demanded.
use Rattle.std.specs.Prelude.{◌≡◌, ◌==◌, ℕ, Bool, true, false, ◌&&◌, not, nat_le, if◌then◌else◌, List, [], ◌∷◌, ◌++◌, codes, length, Option, Some, None}
use Rattle.std.specs.Borrow.{Bor}
use Rattle.std.specs.Fmt.{decimal}
use Rattle.std.specs.Str.Lines.{lines}
use Rattle.warg_protocol.specs.Logs.{IsComparison, SignatureRelation, contents}
use Rattle.warg_protocol.specs.Records.{RecordId}
use Rattle.warg_replay.specs.declared.audited_log.comparison.Comparison.{Comparison}
use Rattle.warg_replay.specs.declared.audited_log.comparison.Comparison.TheVariants.{Same, LeftIsPrefix, RightIsPrefix, Fork, Collision}
use Rattle.warg_audit.specs.declared.log_kind.LogKind.{LogKind}
use Rattle.warg_audit.specs.declared.log_kind.LogKind.TheVariants.{Package, Operator}
use Rattle.warg_audit.specs.LogAnswers.{LogDisplay, head_text, log_shown, view_of}
use Rattle.warg_audit.specs.LogKinds.{package_log, operator_log}
use Rattle.warg_audit.specs.Printouts.{OutputData}
use Rattle.warg_audit.specs.Files.Texts.{no, side_text}
use Rattle.tool_answers.specs.IdWords.{begins_as_said, is_id_word}
use Rattle.tool_answers.specs.Texts.{collision_line, fork_line}
use Rattle.tool_answers.specs.Verdicts.{IsLawful, IsNegative, IsPrintedOf, envelopes_of}
use Rattle.tool_words.specs.declared.request.Demands.{Demands}

-- ---- what is demanded of a log alone

-- there are no records, where there have to be some
abbrev pub lacks_records : Demands → ℕ → Bool
lacks_records demands count = not demands.allows_empty && (count == 0)

-- the head has the id that a word says, if one is demanded
abbrev pub has_head : Option (Bor (List ℕ)) → Option RecordId → Bool
has_head None head = true
has_head (Some word) head = begins_as_said word.now (head_text head)

-- there are as many records as are demanded
abbrev pub has_least : Option ℕ → ℕ → Bool
has_least None count = true
has_least (Some least) count = nat_le least count

-- the line of the first demand that a log does not meet, which has so many records and this head
abbrev pub unmet : Demands → ℕ → Option RecordId → Option (List ℕ)
unmet demands count head =
    if lacks_records demands count then Some (codes "empty\n")
    else if not (has_head demands.head head) then Some (codes "other head " ++ (head_text head ++ codes "\n"))
    else if not (has_least demands.least count) then Some (codes "too short " ++ (decimal count ++ codes "\n"))
    else None

-- no more is demanded of a log than records, unless it may have none
abbrev pub records_alone : Bool → Demands
records_alone allows_empty = record { allows_empty = allows_empty; head = None; least = None; older = None }

-- the word for the head says the beginning of an id, if one is demanded
abbrev pub SaysHead : Demands → Type 0
SaysHead demands = says demands.head
  where
    says : Option (Bor (List ℕ)) → Type 0
    says None = Unit {0}
    says (Some word) = is_id_word word.now ≡ true

-- ---- what is demanded by an older copy

-- the line that tells how a log does not go on from an older copy, if it does not: by its head, and the contents of both
abbrev pub parted : (List ℕ → RecordId) → Option RecordId → List (List ℕ) → List (List ℕ) → Comparison → Option (List ℕ)
parted id head old new Same = None
parted id head old new (LeftIsPrefix place) = None
parted id head old new (RightIsPrefix place) = Some (codes "rolled back " ++ (decimal (length new) ++ (codes " " ++ (head_text head ++ codes "\n"))))
parted id head old new (Fork place) = Some (fork_line id old new place)
parted id head old new (Collision here there) = Some (collision_line id old here there)

-- the line is printed, or else the verdict
abbrev pub line_or : OutputData → Option (List ℕ) → OutputData
line_or verdict None = verdict
line_or verdict (Some text) = no text

module _ {Meaning Fault View Offence : Type 0} (log : LogDisplay Meaning Fault View Offence) where
  -- the verdict on the inputs of a lawful log
  abbrev pub verdict_on : List (List ℕ) → OutputData
  verdict_on inputs = log_shown log (length inputs) (view_of log inputs)

  -- what is printed of inputs beside those of an older copy
  pub record IsBeside (before inputs : List (List ℕ)) (printed : OutputData) : Type 0 where
    pub comparison : Comparison
    pub compares : IsComparison (log.kind.head (view_of log before)) (log.kind.head (view_of log inputs))
        (contents (envelopes_of log before)) (contents (envelopes_of log inputs)) comparison
    pub is : printed ≡ line_or (verdict_on inputs)
        (parted log.kind.id (log.kind.head (view_of log inputs)) (contents (envelopes_of log before)) (contents (envelopes_of log inputs)) comparison)

  module _ (belongs : SignatureRelation) where
    -- the same by the lines of the older copy: of those, where they are no lawful log, or have no records, where there have to be some
    pub data IsBesideLines (demands : Demands) (older inputs : List (List ℕ)) (printed : OutputData) : Type 0 where
      of_older : (it : OutputData) → IsNegative log belongs older it → printed ≡ side_text (codes "older") it → IsBesideLines demands older inputs printed
      older_empty : (before : List (List ℕ)) → IsLawful log belongs older before → lacks_records demands (length (envelopes_of log before)) ≡ true
          → printed ≡ side_text (codes "older") (no (codes "empty\n")) → IsBesideLines demands older inputs printed
      beside : (before : List (List ℕ)) → IsLawful log belongs older before → lacks_records demands (length (envelopes_of log before)) ≡ false
          → IsBeside before inputs printed → IsBesideLines demands older inputs printed

    -- the same, if there is an older copy; else the verdict
    abbrev pub IsBesideAny : Demands → Option (List (List ℕ)) → List (List ℕ) → OutputData → Type 0
    IsBesideAny demands None inputs printed = printed ≡ verdict_on inputs
    IsBesideAny demands (Some older) inputs printed = IsBesideLines demands older inputs printed

    -- what is printed of the inputs of a lawful log: the first demand on it alone that is not met; else by the older copy
    pub data IsDemanded (demands : Demands) (older : Option (List (List ℕ))) (inputs : List (List ℕ)) (printed : OutputData) : Type 0 where
      not_met : (text : List ℕ) → unmet demands (length inputs) (log.kind.head (view_of log inputs)) ≡ Some text
          → printed ≡ no text → IsDemanded demands older inputs printed
      met : unmet demands (length inputs) (log.kind.head (view_of log inputs)) ≡ None → IsBesideAny demands older inputs printed
          → IsDemanded demands older inputs printed

    -- the answer to the lines of a log: the audit's, where they are no lawful log
    abbrev pub IsAudited : Demands → Option (List (List ℕ)) → List (List ℕ) → OutputData → Type 0
    IsAudited demands older lines printed = IsPrintedOf log belongs (IsDemanded demands older) lines printed

-- the answer to the lines of a log of this type
abbrev pub IsAuditOf : LogKind → SignatureRelation → Demands → Option (List (List ℕ)) → List (List ℕ) → OutputData → Type 0
IsAuditOf Package belongs demands older lines printed = IsAudited package_log belongs demands older lines printed
IsAuditOf Operator belongs demands older lines printed = IsAudited operator_log belongs demands older lines printed

-- ---- first lines

-- the first of lines, if there is one
abbrev pub first_of : List (List ℕ) → List ℕ
first_of [] = []
first_of (line ∷ more) = line

-- the first line and the status are those of an answer that P holds of
pub record BeginsAs (P : OutputData → Type 0) (printed : OutputData) : Type 0 where
  pub whole : OutputData
  pub holds : P whole
  pub line : first_of (lines printed.text) ≡ first_of (lines whole.text)
  pub status : printed.status ≡ whole.status

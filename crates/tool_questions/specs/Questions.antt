-- What is printed to each question about the inputs of lawful logs.
use Rattle.std.specs.Prelude.{◌≡◌, ◌<◌, ℕ, Bool, List, [], ◌∷◌, codes, Option, Result}
use Rattle.warg_protocol.specs.Records.{RecordId}
use Rattle.warg_protocol.specs.Json.{JsonError}
use Rattle.warg_protocol.specs.Logs.{EnvelopeData, Kind, SignatureRelation, Effects, IsComparison, IsChainAnswer, contents}
use Rattle.warg_replay.specs.declared.audited_log.link.Link.{Link}
use Rattle.warg_replay.specs.declared.audited_log.comparison.Comparison.{Comparison}
use Rattle.warg_audit.specs.LogAnswers.{LogDisplay}
use Rattle.warg_audit.specs.Printouts.{OutputData}
use Rattle.warg_audit.specs.Files.Texts.{side_text}
use Rattle.tool_answers.specs.ShownWords.{RecordWords}
use Rattle.tool_answers.specs.Texts.{json_text, permissions_text, IsChainPrinted, IsComparisonPrinted}
use Rattle.tool_answers.specs.Verdicts.{IsLawful, IsNegative, IsViewOf, envelopes_of}
use Rattle.tool_questions.specs.AskedKeys.{IsAsked}

module _ (Says : List ℕ → RecordWords → Type 0) where
  -- how a log compares with an older copy, by the heads of both and their envelopes
  pub record IsComparisonTold (id : List ℕ → RecordId) (old_head new_head : Option RecordId) (old new : List EnvelopeData) (printed : OutputData) : Type 0 where
    pub comparison : Comparison
    pub compares : IsComparison old_head new_head (contents old) (contents new) comparison
    pub is : IsComparisonPrinted Says id old_head old new comparison printed

  -- the same of the envelopes of two lawful logs of a kind
  abbrev pub IsComparisonOf : {View Offence : Type 0} → Kind View Offence → List EnvelopeData → List EnvelopeData → OutputData → Type 0
  IsComparisonOf kind old new printed =
      IsComparisonTold kind.id (kind.head (kind.view_of old)) (kind.head (kind.view_of new)) old new printed

  -- by which entries of these envelopes the key came to hold the permission
  pub record IsChainTold {P : Type 0} (effects : Effects P) (envelopes : List EnvelopeData) (key : List ℕ) (permission : P) (printed : OutputData) : Type 0 where
    pub chain : Option (List Link)
    pub is_chain : IsChainAnswer effects envelopes key permission chain
    pub is : IsChainPrinted Says envelopes key chain printed

  -- the same of the key that a word asks for, of those of a state that stands for the envelopes
  pub record IsAskedChain {S View P : Type 0} (view : S → View) (has_key : S → List ℕ → Bool) (view_of : List EnvelopeData → View) (effects : Effects P) (envelopes : List EnvelopeData)
      (word : List ℕ) (permission : P) (printed : OutputData) : Type 0 where
    pub state : S
    pub stands : view state ≡ view_of envelopes
    pub key : List ℕ
    pub asked : IsAsked (has_key state) word key
    pub told : IsChainTold effects envelopes key permission printed

-- the records of the links are among so many
abbrev pub AreWithin : ℕ → List Link → Type 0
AreWithin count [] = Unit {0}
AreWithin count (link ∷ more) = (link.record_index < count) × AreWithin count more

-- the permissions that the key holds that a word asks for, if a record spoke of it
pub record ArePermissionsTold {P : Type 0} (has_key knows : List ℕ → Bool) (held : List ℕ → P → Bool) (order : List P) (text_of : P → List ℕ) (word : List ℕ) (printed : OutputData) : Type 0 where
  pub key : List ℕ
  pub asked : IsAsked has_key word key
  pub is : printed ≡ permissions_text (knows key) order text_of (held key)

module _ {Meaning Fault View Offence : Type 0} (log : LogDisplay Meaning Fault View Offence) where
  -- what is printed of a state that stands for the inputs
  pub record IsStateText {S : Type 0} (view : S → View) (text : S → OutputData) (inputs : List (List ℕ)) (printed : OutputData) : Type 0 where
    pub state : S
    pub stands : IsViewOf log (view state) inputs
    pub is : printed ≡ text state

  -- the permissions, after the inputs, of the key that a word asks for
  pub record IsPermissionsText {S P : Type 0} (view : S → View) (has_key : S → List ℕ → Bool) (knows : S → List ℕ → Bool) (held : View → List ℕ → P → Bool) (order : List P)
      (text_of : P → List ℕ) (word : List ℕ) (inputs : List (List ℕ)) (printed : OutputData) : Type 0 where
    pub state : S
    pub stands : IsViewOf log (view state) inputs
    pub told : ArePermissionsTold (has_key state) (knows state) (held (view state)) order text_of word printed

  module _ (Says : List ℕ → RecordWords → Type 0) where
    -- by which entries the key that a word asks for came to hold the permission after the inputs
    abbrev pub IsChainText : {S P : Type 0} → (S → View) → (S → List ℕ → Bool) → Effects P → List ℕ → P → List (List ℕ) → OutputData → Type 0
    IsChainText view has_key effects word permission inputs printed =
        IsAskedChain Says view has_key log.kind.view_of effects (envelopes_of log inputs) word permission printed

    -- how the inputs of two lawful logs compare, the older ones first
    abbrev pub IsComparisonText : List (List ℕ) → List (List ℕ) → OutputData → Type 0
    IsComparisonText old new printed = IsComparisonOf Says log.kind (envelopes_of log old) (envelopes_of log new) printed

    -- the answer to a lawful older copy and the lines of a newer one: of the newer where that is not lawful
    pub data IsComparedWith (belongs : SignatureRelation) (before : List (List ℕ)) (new : List (List ℕ)) (printed : OutputData) : Type 0 where
      of_new : (it : OutputData) → IsNegative log belongs new it → printed ≡ side_text (codes "new") it → IsComparedWith belongs before new printed
      both : (after : List (List ℕ)) → IsLawful log belongs new after → IsComparisonText before after printed → IsComparedWith belongs before new printed

    -- the answer to the lines of two copies of a log: of the older one where that is not lawful, else by the newer one
    pub data IsCompared (belongs : SignatureRelation) (old new : List (List ℕ)) (printed : OutputData) : Type 0 where
      of_old : (it : OutputData) → IsNegative log belongs old it → printed ≡ side_text (codes "old") it → IsCompared belongs old new printed
      by_new : (before : List (List ℕ)) → IsLawful log belongs old before → IsComparedWith belongs before new printed → IsCompared belongs old new printed

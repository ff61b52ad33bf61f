-- The texts that commands print.
use Rattle.std.specs.Prelude.{◌≡◌, ℕ, ◌<◌, Bool, List, [], ◌∷◌, ◌++◌, codes, length, nat_lt, Option, Some, None, unwrap_or, if◌then◌else◌, slice_index_or, filter, map, Result, Ok, Err}
use Rattle.std.specs.Fmt.{decimal}
use Rattle.std.specs.List.{slice_get}
use Rattle.std.specs.Option.{option_map}
use Rattle.warg_protocol.specs.Logs.{EnvelopeData, contents}
use Rattle.warg_protocol.specs.Records.{hash_text, RecordId}
use Rattle.warg_protocol.specs.Json.{JsonError}
use Rattle.warg_audit.specs.Files.OutputData.{OutputData}
use Rattle.warg_printable.specs.Json.{json_printable}
use Rattle.warg_printable.specs.Printable.{printable}
use Rattle.warg_audit.specs.Files.Texts.{yes, no, silent, line, all_lines}
use Rattle.warg_audit.specs.LogAnswers.{head_text}
use Rattle.warg_replay.specs.declared.audited_log.link.Link.{Link}
use Rattle.warg_replay.specs.declared.audited_log.comparison.Comparison.{Comparison}
use Rattle.warg_replay.specs.declared.audited_log.comparison.Comparison.TheVariants.{Same, LeftIsPrefix, RightIsPrefix, Fork, Collision}
use Rattle.tool_answers.specs.ShownWords.{IsLineOf, IsTimeText, RecordWords}

-- what is printed, unless its text has more bytes than the limit
abbrev pub within : ℕ → OutputData → OutputData
within limit printed = if nat_lt limit (length printed.text) then silent 2 else printed

-- the JSON of a state on a line, with no hidden character in it, within the limit; where a time in it lies before the
-- epoch, there is none
abbrev pub json_text : ℕ → Result (List ℕ) JsonError → OutputData
json_text limit (Ok text) = within limit (yes (line (json_printable text)))
json_text limit (Err fault) = no (codes "no json TimeBeforeEpoch\n")

-- the same of a state, by its JSON
abbrev pub saved_text : {S : Type 0} → ℕ → (S → Result (List ℕ) JsonError) → S → OutputData
saved_text limit json state = json_text limit (json state)

-- the permissions that pass the test, a line each in the order of the kind; `unknown` of a key that no record spoke of
abbrev pub permissions_text : {P : Type 0} → Bool → List P → (P → List ℕ) → (P → Bool) → OutputData
permissions_text known order text_of held = if known then yes (all_lines (map text_of (filter held order))) else no (codes "unknown\n")

-- the id of the key that signed the record at a place
abbrev pub signer_at : List EnvelopeData → ℕ → Option (List ℕ)
signer_at es place = option_map (λ e. e.key_id) (slice_get es place)

-- whom the entry of a link gives to: the signer of the next link's record; the last one, the key that is asked for
abbrev pub receiver : List EnvelopeData → List ℕ → List Link → List ℕ
receiver es key [] = key
receiver es key (next ∷ more) = unwrap_or (signer_at es next.record_index) key

-- a link's line by its parts: the places of the record and of the entry, the record's time and signer, and whom the entry gives to
abbrev pub link_text : Link → List ℕ → List ℕ → List ℕ → List ℕ
link_text link time signer to =
    line (printable (decimal link.record_index ++ (codes " " ++ (decimal link.entry_index ++ (codes " " ++ (time ++ (codes " " ++ (signer ++ (codes " to " ++ to)))))))))

module _ (Says : List ℕ → RecordWords → Type 0) (es : List EnvelopeData) where
  -- a link's line: its record is the one at its place, which content bytes say
  pub record IsLinkLine (link : Link) (to text : List ℕ) : Type 0 where
    pub envelope : EnvelopeData
    pub at : slice_get es link.record_index ≡ Some envelope
    pub words : RecordWords
    pub says : Says envelope.content words
    pub time : List ℕ
    pub is_time : IsTimeText words.time time
    pub is : text ≡ link_text link time envelope.key_id to

  -- the lines of links, each with the links after it
  abbrev pub AreLinkLines : List ℕ → List Link → List ℕ → Type 0
  AreLinkLines key [] text = text ≡ []
  AreLinkLines key (link ∷ more) text =
      (first : List ℕ) × (rest : List ℕ) × IsLinkLine link (receiver es key more) first × (text ≡ first ++ rest) × AreLinkLines key more rest

  -- the lines of a chain, or `none`
  abbrev pub IsChainPrinted : List ℕ → Option (List Link) → OutputData → Type 0
  IsChainPrinted key None printed = printed ≡ no (codes "none\n")
  IsChainPrinted key (Some links) printed = (text : List ℕ) × AreLinkLines key links text × (printed ≡ yes text)

-- the text of the id of the content at a place
abbrev pub id_text_at : (List ℕ → RecordId) → List (List ℕ) → ℕ → List ℕ
id_text_at id contents place = hash_text (id (slice_index_or contents place [])).hash

-- where two logs fork: the place, and the ids of both records there
abbrev pub fork_line : (List ℕ → RecordId) → List (List ℕ) → List (List ℕ) → ℕ → List ℕ
fork_line id old new place = codes "fork " ++ (decimal place ++ (codes " " ++ (id_text_at id old place ++ (codes " " ++ (id_text_at id new place ++ codes "\n")))))

-- where two records that differ have one id: both places, and the id
abbrev pub collision_line : (List ℕ → RecordId) → List (List ℕ) → ℕ → ℕ → List ℕ
collision_line id old here there = codes "collision " ++ (decimal here ++ (codes " " ++ (decimal there ++ (codes " " ++ (id_text_at id old here ++ codes "\n")))))

-- what is said of a record of one of two logs, on a line behind the log's name
abbrev pub named_line : List ℕ → List ℕ → List ℕ
named_line name said = line (printable (name ++ (codes " " ++ said)))

module _ (Says : List ℕ → RecordWords → Type 0) where
  -- the line of the record at a place of a log of this name
  pub record IsNamedLine (name : List ℕ) (es : List EnvelopeData) (place : ℕ) (text : List ℕ) : Type 0 where
    pub envelope : EnvelopeData
    pub at : slice_get es place ≡ Some envelope
    pub said : List ℕ
    pub is_said : IsLineOf Says envelope said
    pub is : text ≡ named_line name said

  -- where two logs fork: the line that says so, and those of both records there
  pub record IsForkText (id : List ℕ → RecordId) (old new : List EnvelopeData) (place : ℕ) (text : List ℕ) : Type 0 where
    pub of_old : List ℕ
    pub is_old : IsNamedLine (codes "old") old place of_old
    pub of_new : List ℕ
    pub is_new : IsNamedLine (codes "new") new place of_new
    pub is : text ≡ fork_line id (contents old) (contents new) place ++ (of_old ++ of_new)

  module _ (id : List ℕ → RecordId) (head : Option RecordId) (old new : List EnvelopeData) where
    -- how a log compares with an older copy, by the older one's head and the envelopes of both: it is the same, it goes on, it was
    -- rolled back, or they part
    abbrev pub IsComparisonPrinted : Comparison → OutputData → Type 0
    IsComparisonPrinted Same printed = printed ≡ yes (codes "same " ++ (decimal (length old) ++ (codes " " ++ (head_text head ++ codes "\n"))))
    IsComparisonPrinted (LeftIsPrefix place) printed =
        printed ≡ yes (codes "goes on " ++ (decimal (length old) ++ (codes " " ++ (decimal (length new) ++ codes "\n"))))
    IsComparisonPrinted (RightIsPrefix place) printed =
        printed ≡ no (codes "rolled back " ++ (decimal (length old) ++ (codes " " ++ (decimal (length new) ++ codes "\n"))))
    IsComparisonPrinted (Fork place) printed = (text : List ℕ) × IsForkText id old new place text × (printed ≡ no text)
    IsComparisonPrinted (Collision here there) printed = printed ≡ no (collision_line id (contents old) here there)

-- the lists have items at the places where they part
abbrev pub PartsWithin : List (List ℕ) → List (List ℕ) → Comparison → Type 0
PartsWithin old new (Fork place) = (place < length old) × (place < length new)
PartsWithin old new (Collision here there) = (here < length old) × (there < length new)
PartsWithin old new Same = Unit {0}
PartsWithin old new (LeftIsPrefix place) = Unit {0}
PartsWithin old new (RightIsPrefix place) = Unit {0}

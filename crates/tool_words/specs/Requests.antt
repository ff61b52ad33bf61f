-- Which request a command with its places and options is.
use Rattle.std.specs.Prelude.{◌≡◌, ◌+◌, ℕ, Bool, true, false, List, [], ◌∷◌, codes, drop, map, Option, Some, None}
use Rattle.std.specs.Borrow.{Bor}
use Rattle.std.specs.Option.{option_map}
use Rattle.tool_words.specs.Parts.{has, place, value}
use Rattle.tool_words.specs.Rules.{is_one_log, key_text, kind_of, limit_in, number_in, schemes_in, signer_in, SignerData, toy}
use Rattle.tool_words.specs.declared.command.Command.{Command}
use Rattle.tool_words.specs.declared.command.Command.TheVariants as command
use Rattle.tool_words.specs.declared.command.Asking.TheVariants as asking
use Rattle.tool_words.specs.declared.command.Comparing.TheVariants as comparing
use Rattle.tool_words.specs.declared.command.Doing.TheVariants as doing
use Rattle.tool_words.specs.declared.command.Naming.TheVariants as naming
use Rattle.tool_words.specs.declared.command.Proving.TheVariants as proving
use Rattle.tool_words.specs.declared.command.Verifying.TheVariants as verifying
use Rattle.tool_words.specs.declared.checkpoint.CheckpointQuery.{CheckpointQuery}
use Rattle.tool_words.specs.declared.checkpoint.CheckpointQuery.TheVariants as query
use Rattle.tool_words.specs.declared.request.Demands.{Demands}
use Rattle.tool_words.specs.declared.request.LogQuery.{LogQuery}
use Rattle.tool_words.specs.declared.request.LogQuery.TheVariants as question
use Rattle.tool_words.specs.declared.request.Request.{Request}
use Rattle.tool_words.specs.declared.request.Request.TheVariants as request
use Rattle.tool_words.specs.declared.statement.NamedLog.{NamedLog}
use Rattle.tool_words.specs.declared.statement.NamedLog.TheVariants as named
use Rattle.tool_words.specs.declared.statement.Statement.{Statement}
use Rattle.tool_words.specs.declared.statement.Statement.TheVariants as statement
use Rattle.tool_words.specs.declared.statement.Wanted.{Wanted}
use Rattle.tool_words.specs.declared.statement.Wanted.TheVariants as wanted
use Rattle.tool_words.specs.declared.task.NewRecord.{NewRecord}
use Rattle.tool_words.specs.declared.task.Signer.{Signer}
use Rattle.tool_words.specs.declared.task.Signer.TheVariants as signer
use Rattle.tool_words.specs.declared.task.Task.{Task}
use Rattle.tool_words.specs.declared.task.Task.TheVariants as task
use Rattle.tool_words.specs.declared.views.BeginningFiles.{BeginningFiles}
use Rattle.tool_words.specs.declared.views.HeadWords.{HeadWords}
use Rattle.tool_words.specs.declared.views.ShownIds.{ShownIds}
use Rattle.tool_words.specs.declared.views.Views.{Views}
use Rattle.tool_words.specs.declared.views.Views.TheVariants as views

-- what texts are behind references
abbrev pub texts : List (Bor (List ℕ)) → List (List ℕ)
texts words = map (λ word. word.now) words

-- what text is behind a reference, if there is one
abbrev pub text_in : Option (Bor (List ℕ)) → Option (List ℕ)
text_in word = option_map (λ it. it.now) word

-- who signs, by the texts
abbrev pub signer_view : Signer → SignerData
signer_view (signer.Toy name) = toy name.now
signer_view (signer.KeyText text) = key_text text.now

-- the demands on one log
pub record AreDemands (given : List (List ℕ × List ℕ)) (it : Demands) : Type 0 where
  pub allows_empty : it.allows_empty ≡ has (codes "--allow-empty") given
  pub head : text_in it.head ≡ value (codes "--expect-head") given
  pub least : it.least ≡ number_in (value (codes "--at-least") given)
  pub older : text_in it.older ≡ value (codes "--goes-on-from") given

-- the record that is to be made
pub record IsNewRecord (places : List (List ℕ)) (given : List (List ℕ × List ℕ)) (it : NewRecord) : Type 0 where
  pub signer : Some (signer_view it.signer) ≡ signer_in given
  pub clock : it.clock ≡ None
  pub time : it.time.now ≡ place 2 places
  pub entries : texts it.entries.items ≡ drop 3 places

-- the leaf that a registry shows, by the four words from a place on
pub record AreShownIds (i : ℕ) (places : List (List ℕ)) (it : ShownIds) : Type 0 where
  pub checkpoint : it.checkpoint.now ≡ place i places
  pub log_id : it.leaf.log_id.now ≡ place (i + 1) places
  pub record_id : it.leaf.record_id.now ≡ place (i + 2) places
  pub proof : it.proof.now ≡ place (i + 3) places

-- the answer about a log's head, by the two words from a place on
pub record AreHeadWords (i : ℕ) (places : List (List ℕ)) (it : HeadWords) : Type 0 where
  pub record_id : it.record_id.now ≡ place i places
  pub proof : it.proof.now ≡ place (i + 1) places

-- the older checkpoint, by the two words from a place on
pub record AreBeginningFiles (i : ℕ) (places : List (List ℕ)) (it : BeginningFiles) : Type 0 where
  pub checkpoint : it.checkpoint.now ≡ place i places
  pub proof : it.proof.now ≡ place (i + 1) places

module _ (called : Command) (places : List (List ℕ)) (given : List (List ℕ × List ℕ)) where
  -- the question on logs of one kind
  abbrev pub IsLogQuery : LogQuery → Type 0
  IsLogQuery (question.State log limit) = (called ≡ command.Ask asking.State) × (log.now ≡ place 1 places) × (limit ≡ limit_in given)
  IsLogQuery (question.Resume state log limit) =
      (called ≡ command.Ask asking.Resume) × (state.now ≡ place 1 places) × (log.now ≡ place 2 places) × (limit ≡ limit_in given)
  IsLogQuery (question.Head log) = (called ≡ command.Ask asking.Head) × (log.now ≡ place 1 places)
  IsLogQuery (question.ResumedHead state log count) =
      (called ≡ command.Ask asking.ResumedHead) × (state.now ≡ place 1 places) × (log.now ≡ place 2 places)
      × (count ≡ number_in (value (codes "--count") given))
  IsLogQuery (question.Permissions key_id log) =
      (called ≡ command.Ask asking.Permissions) × (key_id.now ≡ place 1 places) × (log.now ≡ place 2 places)
  IsLogQuery (question.Chain key_id permission log) =
      (called ≡ command.Ask asking.Chain) × (key_id.now ≡ place 1 places) × (permission.now ≡ place 2 places) × (log.now ≡ place 3 places)
  IsLogQuery (question.Compare old new) =
      (called ≡ command.Ask asking.Compare) × (old.now ≡ place 1 places) × (new.now ≡ place 2 places)

  -- what is done with a log
  abbrev pub IsTask : Task → Type 0
  IsTask (task.Claims log limit) = (called ≡ command.Do doing.Claims) × (log.now ≡ place 1 places) × (limit ≡ limit_in given)
  IsTask (task.Make log draft) = (called ≡ command.Do doing.Make) × (log.now ≡ place 1 places) × IsNewRecord places given draft
  IsTask (task.Append log lines limit) =
      (called ≡ command.Do doing.Append) × (log.now ≡ place 1 places) × (lines.now ≡ place 2 places) × (limit ≡ limit_in given)

  -- the log whose id is wanted
  abbrev pub IsNamedLog : NamedLog → Type 0
  IsNamedLog (named.Package name) = (called ≡ command.LogId naming.Package) × (name.now ≡ place 0 places)
  IsNamedLog named.Operator = called ≡ command.LogId naming.Operator

  -- what is proved
  abbrev pub IsWanted : Wanted → List ℕ → Type 0
  IsWanted wanted.Checkpoint leaves = (called ≡ command.Prove proving.Checkpoint) × (leaves ≡ place 0 places)
  IsWanted (wanted.Inclusion at) leaves =
      (called ≡ command.Prove proving.Inclusion) × (at.now ≡ place 0 places) × (leaves ≡ place 1 places)
  IsWanted (wanted.Consistency length) leaves =
      (called ≡ command.Prove proving.Consistency) × (length.now ≡ place 0 places) × (leaves ≡ place 1 places)
  IsWanted (wanted.Head log_id) leaves =
      (called ≡ command.Prove proving.Head) × (log_id.now ≡ place 0 places) × (leaves ≡ place 1 places)

  -- what is verified
  abbrev pub IsStatement : Statement → Type 0
  IsStatement (statement.Inclusion checkpoint at leaf proof) =
      (called ≡ command.Verify verifying.Inclusion) × (checkpoint.now ≡ place 0 places) × (at.now ≡ place 1 places)
      × (leaf.log_id.now ≡ place 2 places) × (leaf.record_id.now ≡ place 3 places) × (proof.now ≡ place 4 places)
  IsStatement (statement.Consistency old new proof) =
      (called ≡ command.Verify verifying.Consistency) × (old.now ≡ place 0 places) × (new.now ≡ place 1 places) × (proof.now ≡ place 2 places)
  IsStatement (statement.Head checkpoint leaf proof) =
      (called ≡ command.Verify verifying.Head) × (checkpoint.now ≡ place 0 places) × (leaf.log_id.now ≡ place 1 places)
      × (leaf.record_id.now ≡ place 2 places) × (proof.now ≡ place 3 places)
  IsStatement (statement.Absence checkpoint log_id proof) =
      (called ≡ command.Verify verifying.Absence) × (checkpoint.now ≡ place 0 places) × (log_id.now ≡ place 1 places) × (proof.now ≡ place 2 places)

  -- what is compared
  abbrev pub AreViews : Views → Type 0
  AreViews (views.Checkpoints old new proof) =
      (called ≡ command.Compare comparing.Checkpoints) × (old.now ≡ place 0 places) × (new.now ≡ place 1 places) × (proof.now ≡ place 2 places)
  AreViews (views.Leaves at old new) =
      (called ≡ command.Compare comparing.Leaves) × (at.now ≡ place 0 places) × AreShownIds 1 places old × AreShownIds 5 places new
  AreViews (views.Heads checkpoint log_id one other) =
      (called ≡ command.Compare comparing.Heads) × (checkpoint.now ≡ place 0 places) × (log_id.now ≡ place 1 places)
      × AreHeadWords 2 places one × AreHeadWords 4 places other
  AreViews (views.Beginnings one other new) =
      (called ≡ command.Compare comparing.Beginnings) × AreBeginningFiles 0 places one × AreBeginningFiles 2 places other × (new.now ≡ place 4 places)

  -- what is asked of a checkpoint
  abbrev pub IsCheckpointQuery : CheckpointQuery → Type 0
  IsCheckpointQuery (query.Message checkpoint time) =
      (called ≡ command.Message) × (checkpoint.now ≡ place 0 places) × (time.now ≡ place 1 places)
  IsCheckpointQuery (query.Signature checkpoint log schemes) =
      (called ≡ command.Verify verifying.Checkpoint) × (checkpoint.now ≡ place 0 places) × (log.now ≡ place 1 places)
      × (schemes ≡ schemes_in given)

  -- what is asked
  abbrev pub IsRequest : Request → Type 0
  IsRequest (request.Id kind log) = (called ≡ command.Id) × (kind ≡ kind_of (place 0 places)) × (log.now ≡ place 1 places)
  IsRequest (request.Audit kind log demands shows_path) =
      (called ≡ command.Audit) × (is_one_log places ≡ true) × (kind ≡ kind_of (place 0 places)) × (log.now ≡ place 1 places)
      × AreDemands given demands × (shows_path ≡ has (codes "--paths") given)
  IsRequest (request.Audits kind logs allows_empty) =
      (called ≡ command.Audit) × (is_one_log places ≡ false) × (kind ≡ kind_of (place 0 places)) × (texts logs.items ≡ drop 1 places)
      × (allows_empty ≡ has (codes "--allow-empty") given)
  IsRequest (request.Show kind log) = (called ≡ command.Show) × (kind ≡ kind_of (place 0 places)) × (log.now ≡ place 1 places)
  IsRequest (request.Latest requirement log) = (called ≡ command.Latest) × (requirement.now ≡ place 0 places) × (log.now ≡ place 1 places)
  IsRequest (request.LogId log) = IsNamedLog log
  IsRequest (request.Leaf leaf) =
      (called ≡ command.Leaf) × (leaf.log_id.now ≡ place 0 places) × (leaf.record_id.now ≡ place 1 places)
  IsRequest (request.Prove wanted leaves) = IsWanted wanted leaves.now
  IsRequest (request.Verify statement) = IsStatement statement
  IsRequest (request.Compare views) = AreViews views
  IsRequest (request.Checkpoint query) = IsCheckpointQuery query
  IsRequest (request.Ask kind question) = (kind ≡ kind_of (place 0 places)) × IsLogQuery question
  IsRequest (request.Do kind task) = (kind ≡ kind_of (place 0 places)) × IsTask task

-- What has to be said of a record that is made and printed in hex digits: its definition says of it only that it is a list of
-- numbers which is an envelope.
use Rattle.std.specs.Prelude.{◌≢◌, ℕ, List}
use Rattle.std.specs.List.{AllByRecursion}
use Rattle.tool_words.specs.declared.request.Request.{Request}
use Rattle.tool_words.specs.declared.request.Request.TheVariants as request
use Rattle.tool_words.specs.declared.task.Task.{Task}
use Rattle.tool_words.specs.declared.task.Task.TheVariants as task

-- no byte of the text is 0, so what its hex digits spell is bytes: a number above them has no digit
abbrev pub HasNoNul : List ℕ → Type 0
HasNoNul text = AllByRecursion (λ b. b ≢ 0) text

-- the same of what is answered to a task, if that makes a record
abbrev pub IfMade : Task → List ℕ → Type 0
IfMade (task.Claims path limit) text = Unit {0}
IfMade (task.Make path draft) text = HasNoNul text
IfMade (task.Append path lines limit) text = Unit {0}

-- the same of a request, if it is such a task
abbrev pub IfMakes : Request → List ℕ → Type 0
IfMakes (request.Id kind path) text = Unit {0}
IfMakes (request.Audit kind path demands shows_path) text = Unit {0}
IfMakes (request.Audits kind paths allows_empty) text = Unit {0}
IfMakes (request.Show kind path) text = Unit {0}
IfMakes (request.Latest requirement path) text = Unit {0}
IfMakes (request.LogId log) text = Unit {0}
IfMakes (request.Leaf leaf) text = Unit {0}
IfMakes (request.Prove wanted path) text = Unit {0}
IfMakes (request.Verify statement) text = Unit {0}
IfMakes (request.Compare views) text = Unit {0}
IfMakes (request.Checkpoint query) text = Unit {0}
IfMakes (request.Ask kind question) text = Unit {0}
IfMakes (request.Do kind it) text = IfMade it text

-- What is printed and told where files can't be changed.
use Rattle.std.specs.Prelude.{◌≡◌, ℕ, List, codes}
use Rattle.warg_audit.specs.Files.OutputData.{OutputData}
use Rattle.warg_audit.specs.Files.ReadErrors.{unread_text}
use Rattle.warg_audit.specs.Files.Texts.{silent}
use Rattle.warg_audit.specs.declared.files.change.HoldError.{HoldError}
use Rattle.warg_audit.specs.declared.files.change.HoldError.TheVariants as hold
use Rattle.warg_audit.specs.declared.files.change.UnwrittenError.{UnwrittenError}
use Rattle.warg_audit.specs.declared.files.change.UnwrittenError.TheVariants as why

-- what is printed of a file that can't be held: a line, where another process holds it
abbrev pub unheld : HoldError → OutputData
unheld (hold.Unread fault) = silent (unread_text fault).status
unheld hold.Busy = record { text = codes "busy\n"; status = 3 }
unheld hold.Special = silent 2
unheld hold.ManyNames = silent 2
unheld hold.ReadOnly = silent 2
unheld hold.DeadLink = silent 2
unheld hold.NoFolder = silent 2
unheld hold.Unlocked = silent 3

-- the same of some reason
abbrev pub IsUnheld : OutputData → Type 0
IsUnheld printed = (fault : HoldError) × (printed ≡ unheld fault)

-- what became of a file that could not be written, in words
abbrev pub unwritten_text : UnwrittenError → List ℕ
unwritten_text why.Failed = codes "it could not be written, and is as it was"
unwritten_text why.Owner = codes "its owner and group can't be kept, so it is as it was"
unwritten_text why.OutOfMemory = codes "out of memory: it is as it was"

-- Why files can't be read, in words.
use Rattle.std.specs.Prelude.{◌≡◌, ◌≢◌, ℕ, List, codes, Option}
use Rattle.warg_audit.specs.Files.Files.{Files, Lacks}
use Rattle.warg_audit.specs.Files.OutputData.{OutputData}
use Rattle.warg_audit.specs.Files.Texts.{silent}
use Rattle.warg_audit.specs.declared.files.input.ReadError.{ReadError}
use Rattle.warg_audit.specs.declared.files.input.ReadError.TheVariants as fault

-- what is printed of a log that can't be read
abbrev pub unread_text : ReadError → OutputData
unread_text fault.Missing = record { text = codes "there is no such file"; status = 2 }
unread_text fault.Folder = record { text = codes "it is a folder"; status = 2 }
unread_text fault.Closed = record { text = codes "it can't be opened"; status = 2 }
unread_text fault.TooLong = record { text = codes "it has more bytes than the limit; --limit BYTES sets another"; status = 2 }
unread_text fault.Failed = record { text = codes "a read failed"; status = 3 }
unread_text fault.OutOfMemory = record { text = codes "out of memory"; status = 3 }

-- nothing is printed for want of a file, and the status is that of the fault
abbrev pub IsUnreadFor : ReadError → OutputData → Type 0
IsUnreadFor why printed = printed ≡ silent (unread_text why).status

-- the file of a path can't be read; it is told missing only where there is none
pub record IsUnread (files : Option Files) (path : List ℕ) (printed : OutputData) : Type 0 where
  pub why : ReadError
  pub missing : why ≡ fault.Missing → Lacks files path
  pub is : IsUnreadFor why printed

-- a log can't be read that may be missing
pub record IsLogUnread (printed : OutputData) : Type 0 where
  pub why : ReadError
  pub found : why ≢ fault.Missing
  pub is : IsUnreadFor why printed

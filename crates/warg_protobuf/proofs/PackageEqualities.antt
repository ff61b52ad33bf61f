-- When entries and records of a package log are equal: where their plain data are one.
use Rattle.std.specs.Prelude.{◌≡◌, Bool, refl}
use Rattle.std.specs.Bool.{Decides}
use Rattle.std.specs.Global.{Vec}
use Rattle.std.proofs.lemmas.Bool.Decides.{Decides-like}
use Rattle.warg_protobuf.specs.Entry.{FirstOwn, SecondOwn}
use Rattle.warg_protobuf.specs.PackageEntry.{package_member_view, package_entry_view}
use Rattle.warg_protobuf.specs.PackageRecord.{package_record_view}
use Rattle.warg_protobuf.specs.contracts.package_entry.ContentsPartialEq.TheImpl as members
use Rattle.warg_protobuf.specs.contracts.package_entry.PackageEntryPartialEq.TheImpl as entries
use Rattle.warg_protobuf.specs.declared.package_entry.Contents.{Contents}
use Rattle.warg_protobuf.specs.declared.package_entry.Contents.TheVariants as contents
use Rattle.warg_protobuf.specs.declared.package_entry.PackageEntry.{PackageEntry}
use Rattle.warg_protobuf.specs.declared.record.Record.{Record}
use Rattle.warg_protobuf.proofs.Equalities.{options_decided, cases_decided, case_of, begun_decided, granted_decided, revoked_decided, release_decided, yank_decided, same_record, record_decided}

abbrev same_contents : Contents → Contents → Bool
same_contents = (members.ghosts).eq

abbrev same_entry : PackageEntry → PackageEntry → Bool
same_entry = (entries.ghosts).eq

pub contents_decided : (a b : Contents) → Decides (same_contents a b) (package_member_view a ≡ package_member_view b)
contents_decided (contents.Init m) (contents.Init n) = begun_decided m n
contents_decided (contents.GrantFlat m) (contents.GrantFlat n) = granted_decided m n
contents_decided (contents.RevokeFlat m) (contents.RevokeFlat n) = revoked_decided m n
contents_decided (contents.Release m) (contents.Release n) =
    Decides-like _ (λ h i. FirstOwn (h i)) (λ (h : package_member_view (contents.Release m) ≡ package_member_view (contents.Release n)). cc) (release_decided m n)
contents_decided (contents.Yank m) (contents.Yank n) =
    Decides-like _ (λ h i. SecondOwn (h i)) (λ (h : package_member_view (contents.Yank m) ≡ package_member_view (contents.Yank n)). cc) (yank_decided m n)
contents_decided a b = cases_decided case_of (same_contents a b) (package_member_view a) (package_member_view b) refl refl

pub entry_decided : (a b : PackageEntry) → Decides (same_entry a b) (package_entry_view a ≡ package_entry_view b)
entry_decided a b = options_decided package_member_view same_contents contents_decided a.contents b.contents

pub said_decided : (a b : Record (Vec PackageEntry))
    → Decides (same_record same_entry a b) (package_record_view a ≡ package_record_view b)
said_decided a b = record_decided package_entry_view same_entry entry_decided a b

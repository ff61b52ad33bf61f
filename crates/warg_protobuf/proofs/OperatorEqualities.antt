-- When entries and records of an operator log are equal: where their plain data are one.
use Rattle.std.specs.Prelude.{◌≡◌, Bool, refl}
use Rattle.std.specs.Bool.{Decides}
use Rattle.std.specs.Global.{Vec}
use Rattle.std.proofs.lemmas.Bool.Decides.{Decides-like}
use Rattle.warg_protobuf.specs.Entry.{FirstOwn, SecondOwn}
use Rattle.warg_protobuf.specs.OperatorEntry.{operator_member_view, operator_entry_view}
use Rattle.warg_protobuf.specs.OperatorRecord.{operator_record_view}
use Rattle.warg_protobuf.specs.contracts.operator_entry.ContentsPartialEq.TheImpl as members
use Rattle.warg_protobuf.specs.contracts.operator_entry.OperatorEntryPartialEq.TheImpl as entries
use Rattle.warg_protobuf.specs.declared.operator_entry.Contents.{Contents}
use Rattle.warg_protobuf.specs.declared.operator_entry.Contents.TheVariants as contents
use Rattle.warg_protobuf.specs.declared.operator_entry.OperatorEntry.{OperatorEntry}
use Rattle.warg_protobuf.specs.declared.record.Record.{Record}
use Rattle.warg_protobuf.proofs.Equalities.{options_decided, cases_decided, case_of, begun_decided, granted_decided, revoked_decided, definition_decided, import_decided, same_record, record_decided}

abbrev same_contents : Contents → Contents → Bool
same_contents = (members.ghosts).eq

abbrev same_entry : OperatorEntry → OperatorEntry → Bool
same_entry = (entries.ghosts).eq

pub contents_decided : (a b : Contents) → Decides (same_contents a b) (operator_member_view a ≡ operator_member_view b)
contents_decided (contents.Init m) (contents.Init n) = begun_decided m n
contents_decided (contents.GrantFlat m) (contents.GrantFlat n) = granted_decided m n
contents_decided (contents.RevokeFlat m) (contents.RevokeFlat n) = revoked_decided m n
contents_decided (contents.DefineNamespace m) (contents.DefineNamespace n) =
    Decides-like _ (λ h i. FirstOwn (h i)) (λ (h : operator_member_view (contents.DefineNamespace m) ≡ operator_member_view (contents.DefineNamespace n)). cc) (definition_decided m n)
contents_decided (contents.ImportNamespace m) (contents.ImportNamespace n) =
    Decides-like _ (λ h i. SecondOwn (h i)) (λ (h : operator_member_view (contents.ImportNamespace m) ≡ operator_member_view (contents.ImportNamespace n)). cc) (import_decided m n)
contents_decided a b = cases_decided case_of (same_contents a b) (operator_member_view a) (operator_member_view b) refl refl

pub entry_decided : (a b : OperatorEntry) → Decides (same_entry a b) (operator_entry_view a ≡ operator_entry_view b)
entry_decided a b = options_decided operator_member_view same_contents contents_decided a.contents b.contents

pub said_decided : (a b : Record (Vec OperatorEntry))
    → Decides (same_record same_entry a b) (operator_record_view a ≡ operator_record_view b)
said_decided a b = record_decided operator_entry_view same_entry entry_decided a b

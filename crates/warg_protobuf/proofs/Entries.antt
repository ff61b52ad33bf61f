-- What is made of what is kept of an entry is what its fields say.
use Rattle.std.proofs.Common.{◌≡◌, ℕ, List, Option, Some, Result, Ok, refl, sym, ap, ◌∙◌}
use Rattle.std.specs.List.{fold}
use Rattle.warg_protobuf.specs.declared.error.WireError.{WireError}
use Rattle.warg_protobuf.specs.Field.{Field}
use Rattle.warg_protobuf.specs.Table.{Table, Fits, knows}
use Rattle.warg_protobuf.specs.Values.{last_member}
use Rattle.warg_protobuf.specs.Init.{init_from}
use Rattle.warg_protobuf.specs.GrantFlat.{grant_flat_from}
use Rattle.warg_protobuf.specs.RevokeFlat.{revoke_flat_from}
use Rattle.warg_protobuf.specs.Release.{release_table, release_from}
use Rattle.warg_protobuf.specs.Yank.{yank_table, yank_from}
use Rattle.warg_protobuf.specs.DefineNamespace.{define_namespace_table, define_namespace_from}
use Rattle.warg_protobuf.specs.ImportNamespace.{import_namespace_table, import_namespace_from}
use Rattle.warg_protobuf.specs.Entry.{Member, entry_table, numbered_of, entry_from}
use Rattle.warg_protobuf.specs.Entry as oneof
use Rattle.warg_protobuf.specs.PackageEntry.{package_entry_table, package_entry_from}
use Rattle.warg_protobuf.specs.OperatorEntry.{operator_entry_table, operator_entry_from}
use Rattle.warg_protobuf.specs.MessageDrafts.{one_text_with, no_text, two_texts_with, no_texts, MemberKept, Absent, Init, GrantFlat, RevokeFlat, FirstOwn, SecondOwn, init_so_far, grant_flat_so_far, revoke_flat_so_far, first_own_so_far, second_own_so_far, member_with, init_made, grant_flat_made, revoke_flat_made, release_made, yank_made, define_namespace_made, import_namespace_made, entry_made, package_entry_made, operator_entry_made}
use Rattle.warg_protobuf.proofs.Finishing.{Finishes, init_finishes, grant_flat_finishes, revoke_flat_finishes, release_finishes, yank_finishes, define_namespace_finishes, import_namespace_finishes}
use Rattle.warg_protobuf.proofs.Members.{number_of, number_after, member_init_finishes, member_grant_flat_finishes, member_revoke_flat_finishes, first_own_finishes, second_own_finishes}

module _ {F G A B : Type 0}
    (first_own : Table) (first_with : F → Field → F) (no_first : F) (first_from : List Field → Result A WireError) (first_made : F → A)
    (first_finishes : Finishes first_own first_from first_with no_first first_made)
    (second_own : Table) (second_with : G → Field → G) (no_second : G) (second_from : List Field → Result B WireError) (second_made : G → B)
    (second_finishes : Finishes second_own second_from second_with no_second second_made) where
  abbrev step : MemberKept F G → Field → MemberKept F G
  step = member_with first_own first_with no_first second_own second_with no_second

  abbrev said : Option ℕ → List Field → Result (Option (Member A B)) WireError
  said = numbered_of first_own first_from second_own second_from

  abbrev last_of : List Field → Option ℕ
  last_of fs = last_member (knows (entry_table first_own second_own)) fs

  abbrev made : MemberKept F G → Option (Member A B)
  made = entry_made first_made second_made

  abbrev one : Member A B → Result (Option (Member A B)) WireError
  one m = Ok (Some m)

  at_number : (fs : List Field) → Fits (entry_table first_own second_own) fs → (m : MemberKept F G) → fold step Absent fs ≡ m → said (last_of fs) fs ≡ said (number_of m) fs
  at_number fs fit m h = ap (λ (o : Option ℕ). said o fs) (sym (number_after first_own first_with no_first second_own second_with no_second fs Absent fit) ∙ ap number_of h)

  by_member : (fs : List Field) → Fits (entry_table first_own second_own) fs → (m : MemberKept F G) → fold step Absent fs ≡ m → said (last_of fs) fs ≡ Ok (made m)
  by_member fs fit Absent h = at_number fs fit Absent h
  by_member fs fit (Init t) h =
      at_number fs fit (Init t) h
      ∙ member_init_finishes first_own first_with no_first second_own second_with no_second init_from init_made (λ m. oneof.Init m) init_finishes fs fit
      ∙ ap (λ (j : MemberKept F G). one (oneof.Init (init_made (init_so_far j)))) h
  by_member fs fit (GrantFlat t) h =
      at_number fs fit (GrantFlat t) h
      ∙ member_grant_flat_finishes first_own first_with no_first second_own second_with no_second grant_flat_from grant_flat_made (λ m. oneof.GrantFlat m) grant_flat_finishes fs fit
      ∙ ap (λ (j : MemberKept F G). one (oneof.GrantFlat (grant_flat_made (grant_flat_so_far j)))) h
  by_member fs fit (RevokeFlat t) h =
      at_number fs fit (RevokeFlat t) h
      ∙ member_revoke_flat_finishes first_own first_with no_first second_own second_with no_second revoke_flat_from revoke_flat_made (λ m. oneof.RevokeFlat m) revoke_flat_finishes fs fit
      ∙ ap (λ (j : MemberKept F G). one (oneof.RevokeFlat (revoke_flat_made (revoke_flat_so_far j)))) h
  by_member fs fit (FirstOwn t) h =
      at_number fs fit (FirstOwn t) h
      ∙ first_own_finishes first_own first_with no_first second_own second_with no_second first_from first_made (λ m. oneof.FirstOwn m) first_finishes fs fit
      ∙ ap (λ (j : MemberKept F G). one (oneof.FirstOwn (first_made (first_own_so_far no_first j)))) h
  by_member fs fit (SecondOwn t) h =
      at_number fs fit (SecondOwn t) h
      ∙ second_own_finishes first_own first_with no_first second_own second_with no_second second_from second_made (λ m. oneof.SecondOwn m) second_finishes fs fit
      ∙ ap (λ (j : MemberKept F G). one (oneof.SecondOwn (second_made (second_own_so_far no_second j)))) h

  entry_finishes : Finishes (entry_table first_own second_own) (entry_from first_own first_from second_own second_from) step Absent made
  entry_finishes fs fit = by_member fs fit (fold step Absent fs) refl

pub package_entry_finishes : Finishes package_entry_table package_entry_from (member_with release_table two_texts_with no_texts yank_table one_text_with no_text) Absent package_entry_made
unfolding package_entry_from
package_entry_finishes fs fit =
    entry_finishes release_table two_texts_with no_texts release_from release_made release_finishes
    yank_table one_text_with no_text yank_from yank_made yank_finishes fs fit

pub operator_entry_finishes : Finishes operator_entry_table operator_entry_from (member_with define_namespace_table one_text_with no_text import_namespace_table two_texts_with no_texts) Absent operator_entry_made
unfolding operator_entry_from
operator_entry_finishes fs fit =
    entry_finishes define_namespace_table one_text_with no_text define_namespace_from define_namespace_made define_namespace_finishes
    import_namespace_table two_texts_with no_texts import_namespace_from import_namespace_made import_namespace_finishes fs fit

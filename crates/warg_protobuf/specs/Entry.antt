-- An entry of a log of either kind: a oneof of five messages. Three are the same in both kinds, and two are the kind's
-- own.
use Rattle.std.specs.Prelude.{◌≡◌, ℕ, List, MatchBool, Option, Some, None, Result, Ok, ◌==◌, if◌then◌else◌, [], ◌∷◌}
use Rattle.warg_protobuf.specs.declared.error.WireError.{WireError}
use Rattle.warg_protobuf.specs.Field.{Field}
use Rattle.warg_protobuf.specs.Table.{Table, End, MessageAt, knows}
use Rattle.warg_protobuf.specs.Values.{last_member, member_of}
use Rattle.warg_protobuf.specs.Meaning.{IsMember}
use Rattle.warg_protobuf.specs.Init.{init_table, InitValue, IsInitOf, init_from, init_bytes, IsSoundInit}
use Rattle.warg_protobuf.specs.GrantFlat.{grant_flat_table, GrantFlatValue, IsGrantFlatOf, grant_flat_from, grant_flat_bytes, IsSoundGrantFlat}
use Rattle.warg_protobuf.specs.RevokeFlat.{revoke_flat_table, RevokeFlatValue, IsRevokeFlatOf, revoke_flat_from, revoke_flat_bytes, IsSoundRevokeFlat}
use Rattle.warg_protobuf.specs.Writing.{content_field}

-- all its numbers are members of the oneof, the last two those of the kind's own
abbrev pub entry_table : Table → Table → Table
entry_table first_own second_own = MessageAt 1 init_table (MessageAt 2 grant_flat_table (MessageAt 3 revoke_flat_table (MessageAt 4 first_own (MessageAt 5 second_own End))))

-- the message that an entry holds, as plain data
pub data Member (F G : Type 0) : Type 0 where
  Init : InitValue → Member F G
  GrantFlat : GrantFlatValue → Member F G
  RevokeFlat : RevokeFlatValue → Member F G
  FirstOwn : F → Member F G
  SecondOwn : G → Member F G

module _ {F G : Type 0} (first_own : Table) (IsFirstOf : List Field → F → Type 0) (second_own : Table) (IsSecondOf : List Field → G → Type 0) where
  -- the member, by the number of the last one
  abbrev pub IsNumbered : Option ℕ → List Field → Option (Member F G) → Type 0
  IsNumbered None fs o = o ≡ None
  IsNumbered (Some n) fs o =
      MatchBool (n == 1) (IsMember (knows (entry_table first_own second_own)) 1 init_table IsInitOf Init fs o)
      (MatchBool (n == 2) (IsMember (knows (entry_table first_own second_own)) 2 grant_flat_table IsGrantFlatOf GrantFlat fs o)
      (MatchBool (n == 3) (IsMember (knows (entry_table first_own second_own)) 3 revoke_flat_table IsRevokeFlatOf RevokeFlat fs o)
      (MatchBool (n == 4) (IsMember (knows (entry_table first_own second_own)) 4 first_own IsFirstOf FirstOwn fs o)
      (IsMember (knows (entry_table first_own second_own)) 5 second_own IsSecondOf SecondOwn fs o))))

  -- the fields say this
  abbrev pub IsEntryOf : List Field → Option (Member F G) → Type 0
  IsEntryOf fs o = IsNumbered (last_member (knows (entry_table first_own second_own)) fs) fs o

module _ {F G : Type 0} (first_own : Table) (first_from : List Field → Result F WireError) (second_own : Table) (second_from : List Field → Result G WireError) where
  -- the member by the number of the last one, computed
  abbrev pub numbered_of : Option ℕ → List Field → Result (Option (Member F G)) WireError
  numbered_of None fs = Ok None
  numbered_of (Some n) fs =
      if n == 1 then member_of (knows (entry_table first_own second_own)) 1 init_table init_from Init fs
      else (if n == 2 then member_of (knows (entry_table first_own second_own)) 2 grant_flat_table grant_flat_from GrantFlat fs
      else (if n == 3 then member_of (knows (entry_table first_own second_own)) 3 revoke_flat_table revoke_flat_from RevokeFlat fs
      else (if n == 4 then member_of (knows (entry_table first_own second_own)) 4 first_own first_from FirstOwn fs
      else member_of (knows (entry_table first_own second_own)) 5 second_own second_from SecondOwn fs)))

  -- what the fields say, computed
  abbrev pub entry_from : List Field → Result (Option (Member F G)) WireError
  entry_from fs = numbered_of (last_member (knows (entry_table first_own second_own)) fs) fs

-- what is written, by what is written of the kind's own
abbrev pub entry_fields : {F G : Type 0} → (F → List ℕ) → (G → List ℕ) → Option (Member F G) → List Field
entry_fields first_bytes second_bytes None = []
entry_fields first_bytes second_bytes (Some (Init m)) = content_field 1 (init_bytes m) ∷ []
entry_fields first_bytes second_bytes (Some (GrantFlat m)) = content_field 2 (grant_flat_bytes m) ∷ []
entry_fields first_bytes second_bytes (Some (RevokeFlat m)) = content_field 3 (revoke_flat_bytes m) ∷ []
entry_fields first_bytes second_bytes (Some (FirstOwn m)) = content_field 4 (first_bytes m) ∷ []
entry_fields first_bytes second_bytes (Some (SecondOwn m)) = content_field 5 (second_bytes m) ∷ []

-- each part can be one of a message's
abbrev pub IsSoundEntry : {F G : Type 0} → (F → Type 0) → (G → Type 0) → Option (Member F G) → Type 0
IsSoundEntry IsSoundFirst IsSoundSecond None = Unit {0}
IsSoundEntry IsSoundFirst IsSoundSecond (Some (Init m)) = IsSoundInit m
IsSoundEntry IsSoundFirst IsSoundSecond (Some (GrantFlat m)) = IsSoundGrantFlat m
IsSoundEntry IsSoundFirst IsSoundSecond (Some (RevokeFlat m)) = IsSoundRevokeFlat m
IsSoundEntry IsSoundFirst IsSoundSecond (Some (FirstOwn m)) = IsSoundFirst m
IsSoundEntry IsSoundFirst IsSoundSecond (Some (SecondOwn m)) = IsSoundSecond m

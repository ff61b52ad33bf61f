-- What words say as an entry of a log, and what is wrong with words that say none.
use Rattle.std.specs.Prelude.{◌≡◌, ◌≢◌, ◌<◌, ◌⊎◌, ℕ, List, [], ◌∷◌, ◌++◌, codes, length, true, false, Option, Some, None, Ok, IsErr}
use Rattle.std.specs.Char.{is_not_whitespace}
use Rattle.std.specs.List.{AllByRecursion}
use Rattle.std.specs.Str.{NoCharPasses}
use Rattle.semver.specs.Parse.{version_parts}
use Rattle.warg_crypto.specs.HashText.{sha256_hash_of}
use Rattle.warg_crypto.specs.NamedBytes.{NamedBytes}
use Rattle.warg_crypto.specs.declared.hash.HashAlgorithm.TheVariants.{Sha256}
use Rattle.warg_protocol.specs.Operator.{OperatorOwnEntry}
use Rattle.warg_protocol.specs.Operator as in_operator
use Rattle.warg_protocol.specs.Package.{PackageOwnEntry}
use Rattle.warg_protocol.specs.Package as in_package
use Rattle.warg_protocol.specs.Records.{EntryData, SharedEntry}
use Rattle.warg_log_records.specs.OperatorEntries.{DefineNamespace, ImportNamespace}
use Rattle.warg_log_records.specs.PackageEntries.{Release, Yank}
use Rattle.warg_log_records.specs.RecordData.{GrantFlat, Init, Own, RevokeFlat, Shared}
use Rattle.tool_changes.specs.Make.KeyWords.{IsIdOf, IsKeyOf}
use Rattle.tool_changes.specs.Make.Words.{AreNamed, HasUnknown, HasWord, behind_word, first_word, has_no_space}
use Rattle.tool_changes.specs.declared.make.error.EntryFault.{EntryFault}
use Rattle.tool_changes.specs.declared.make.error.EntryFault.TheVariants as fault
use Rattle.tool_changes.specs.declared.make.rest.Rest.{Rest}
use Rattle.tool_changes.specs.declared.make.rest.Rest.TheVariants as rest

-- ---- what an entry has behind its second word

-- the text is what the entry has there
abbrev pub Fits : Rest → List ℕ → Type 0
Fits rest.Nothing text = text ≡ []
Fits rest.Word text = (0 < length text) × (has_no_space text ≡ true)
Fits rest.Words text = HasWord text
Fits rest.Text text = 0 < length text

-- a word is missing there
abbrev pub TooFew : Rest → List ℕ → Type 0
TooFew rest.Nothing text = ⊥
TooFew rest.Word text = text ≡ []
TooFew rest.Words text = NoCharPasses is_not_whitespace text
TooFew rest.Text text = text ≡ []

-- a word is too many there
abbrev pub TooMany : Rest → List ℕ → Type 0
TooMany rest.Nothing text = 0 < length text
TooMany rest.Word text = has_no_space text ≡ false
TooMany rest.Words text = ⊥
TooMany rest.Text text = ⊥

-- the first words of a kind's entries, and what each has behind its second word
abbrev pub Verbs : Type 0
Verbs = List (List ℕ × Rest)

-- the word is one of them, and P is so of what it has there
abbrev pub IsVerb : (Rest → Type 0) → Verbs → List ℕ → Type 0
IsVerb P [] verb = ⊥
IsVerb P (known ∷ more) verb = ((verb ≡ known.0) × P known.1) ⊎ IsVerb P more verb

-- the word is none of them
abbrev pub IsNoVerb : Verbs → List ℕ → Type 0
IsNoVerb verbs verb = AllByRecursion (λ known. verb ≢ known.0) verbs

-- the first word is one of them, and the rest is what it has
abbrev pub HasItsRest : Verbs → List ℕ → List ℕ → Type 0
HasItsRest verbs verb object = IsVerb (λ known. Fits known object) verbs verb

-- the first word is none of them, or the rest is not what it has
abbrev pub LacksItsRest : Verbs → List ℕ → List ℕ → EntryFault → Type 0
LacksItsRest verbs verb object fault.UnknownEntry = IsNoVerb verbs verb
LacksItsRest verbs verb object fault.MissingWord = IsVerb (λ known. TooFew known object) verbs verb
LacksItsRest verbs verb object fault.ExtraWord = IsVerb (λ known. TooMany known object) verbs verb
LacksItsRest verbs verb object fault.BadKey = ⊥
LacksItsRest verbs verb object fault.BadPermission = ⊥
LacksItsRest verbs verb object fault.BadVersion = ⊥
LacksItsRest verbs verb object fault.OutOfMemory = ⊥

-- ---- the words of an entry: what is done, to what or to whom, and the rest

-- the words say the entry, if its parts do, and are just as many as it has
pub record SaysByParts {T : Type 0} (verbs : Verbs) (Says : List ℕ → List ℕ → List ℕ → T → Type 0) (text : List ℕ) (entry : T) : Type 0 where
  pub spaced : has_no_space text ≡ false
  pub rest : HasItsRest verbs (first_word text) (behind_word (behind_word text))
  pub says : Says (first_word text) (first_word (behind_word text)) (behind_word (behind_word text)) entry

-- the words say no entry, in this order: they are one word alone; they are of no entry, too few or too many; their parts lack what an entry has
pub data LacksByParts (verbs : Verbs) (Lacks : List ℕ → List ℕ → List ℕ → EntryFault → Type 0) (text : List ℕ) (it : EntryFault) : Type 0 where
  one_word : has_no_space text ≡ true → it ≡ fault.MissingWord → LacksByParts verbs Lacks text it
  in_rest : has_no_space text ≡ false → LacksItsRest verbs (first_word text) (behind_word (behind_word text)) it → LacksByParts verbs Lacks text it
  in_parts : has_no_space text ≡ false → HasItsRest verbs (first_word text) (behind_word (behind_word text))
      → Lacks (first_word text) (first_word (behind_word text)) (behind_word (behind_word text)) it → LacksByParts verbs Lacks text it

-- ---- entries of both kinds of logs

-- a word names the item
abbrev pub Names : {P : Type 0} → (List ℕ → Option P) → List ℕ → P → Type 0
Names named word item = named word ≡ Some item

-- a word names none
abbrev pub NamesNone : {P : Type 0} → (List ℕ → Option P) → List ℕ → Type 0
NamesNone named word = named word ≡ None

-- an entry that both kinds have
abbrev pub SaysShared : {P : Type 0} → (List ℕ → Option P) → List ℕ → List ℕ → List ℕ → SharedEntry P → Type 0
SaysShared named verb subject object (Init algorithm key) = (verb ≡ codes "init") × (algorithm ≡ Sha256) × IsKeyOf subject key
SaysShared named verb subject object (GrantFlat key permissions) = (verb ≡ codes "grant") × IsKeyOf subject key × AreNamed (Names named) object permissions
SaysShared named verb subject object (RevokeFlat key_id permissions) = (verb ≡ codes "revoke") × IsIdOf subject key_id × AreNamed (Names named) object permissions

-- the word says a key
abbrev pub SaysKey : List ℕ → Type 0
SaysKey word = (key : NamedBytes) × IsKeyOf word key

-- the fault of words whose key, permissions or version is none: of a grant's, the key comes first
abbrev pub Lacks : {P : Type 0} → (List ℕ → Option P) → List ℕ → List ℕ → List ℕ → EntryFault → Type 0
Lacks named verb subject object fault.UnknownEntry = ⊥
Lacks named verb subject object fault.MissingWord = ⊥
Lacks named verb subject object fault.ExtraWord = ⊥
Lacks named verb subject object fault.BadKey = ((verb ≡ codes "init") ⊎ (verb ≡ codes "grant")) × ((key : NamedBytes) → IsKeyOf subject key → ⊥)
Lacks named verb subject object fault.BadPermission =
    (((verb ≡ codes "grant") × SaysKey subject) ⊎ (verb ≡ codes "revoke")) × HasUnknown (NamesNone named) object
Lacks named verb subject object fault.BadVersion = ((verb ≡ codes "release") ⊎ (verb ≡ codes "yank")) × IsErr (version_parts subject)
Lacks named verb subject object fault.OutOfMemory = Unit {0}

-- what both kinds do
abbrev pub shared_verbs : Verbs
shared_verbs = (codes "init", rest.Nothing) ∷ (codes "grant", rest.Words) ∷ (codes "revoke", rest.Words) ∷ []

-- ---- entries of package logs

abbrev pub PackageEntryData : Type 0
PackageEntryData = EntryData in_package.Permission PackageOwnEntry

-- what is done in package logs
abbrev pub package_verbs : Verbs
package_verbs = shared_verbs ++ (codes "release", rest.Text) ∷ (codes "yank", rest.Nothing) ∷ []

abbrev pub SaysPackageParts : List ℕ → List ℕ → List ℕ → PackageEntryData → Type 0
SaysPackageParts verb subject object (Shared entry) = SaysShared in_package.permission_in verb subject object entry
SaysPackageParts verb subject object (Own (Release version content)) = (verb ≡ codes "release") × (version_parts subject ≡ Ok version) × (content ≡ sha256_hash_of object)
SaysPackageParts verb subject object (Own (Yank version)) = (verb ≡ codes "yank") × (version_parts subject ≡ Ok version)

-- the words say the entry of a package log
abbrev pub SaysPackageEntry : List ℕ → PackageEntryData → Type 0
SaysPackageEntry text entry = SaysByParts package_verbs SaysPackageParts text entry

-- the words say no entry of a package log, for this fault
abbrev pub LacksPackageEntry : List ℕ → EntryFault → Type 0
LacksPackageEntry text it = LacksByParts package_verbs (Lacks in_package.permission_in) text it

-- ---- entries of operator logs

abbrev pub OperatorEntryData : Type 0
OperatorEntryData = EntryData in_operator.Permission OperatorOwnEntry

-- what is done in operator logs
abbrev pub operator_verbs : Verbs
operator_verbs = shared_verbs ++ (codes "define", rest.Nothing) ∷ (codes "import", rest.Word) ∷ []

abbrev pub SaysOperatorParts : List ℕ → List ℕ → List ℕ → OperatorEntryData → Type 0
SaysOperatorParts verb subject object (Shared entry) = SaysShared in_operator.permission_in verb subject object entry
SaysOperatorParts verb subject object (Own (DefineNamespace namespace)) = (verb ≡ codes "define") × (namespace ≡ subject)
SaysOperatorParts verb subject object (Own (ImportNamespace namespace registry)) = (verb ≡ codes "import") × (namespace ≡ subject) × (registry ≡ object)

-- the words say the entry of an operator log
abbrev pub SaysOperatorEntry : List ℕ → OperatorEntryData → Type 0
SaysOperatorEntry text entry = SaysByParts operator_verbs SaysOperatorParts text entry

-- the words say no entry of an operator log, for this fault
abbrev pub LacksOperatorEntry : List ℕ → EntryFault → Type 0
LacksOperatorEntry text it = LacksByParts operator_verbs (Lacks in_operator.permission_in) text it

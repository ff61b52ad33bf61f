-- What is wrong with the text of a proof.
use Rattle.std.specs.Prelude.{◌≡◌, ℕ, zero, suc, List, Result, Ok, Err, IsOk, codes}
use Rattle.std.specs.Str.{IsUtf8}
use Rattle.warg_transparency.specs.Texts.{log_proof_of, map_proof_of}
use Rattle.warg_transparency.specs.declared.error.ProofTextError.{ProofTextError}
use Rattle.warg_transparency.specs.declared.error.ProofTextError.TheVariants as fault
use Rattle.warg_c.specs.declared.call_error.CallError.{CallError}
use Rattle.warg_c.specs.declared.call_error.CallError.TheVariants.{BadArgument}
use Rattle.warg_c.specs.declared.proof_text.Tree.{Tree}
use Rattle.warg_c.specs.declared.proof_text.Tree.TheVariants.{Log, Map}

-- the tree that a number names
abbrev pub tree_numbered : ℕ → Result Tree CallError
tree_numbered zero = Ok Log
tree_numbered (suc zero) = Ok Map
tree_numbered (suc (suc n)) = Err BadArgument

-- the proof on a tree that a text is of, or its first fault
abbrev pub proof_on : Tree → List ℕ → Result (List (List ℕ)) ProofTextError
proof_on Log text = log_proof_of text
proof_on Map text = map_proof_of text

-- the same of any bytes: those that are no UTF-8 are no base64
pub record IsFaultOf (tree : Tree) (bytes : List ℕ) (e : ProofTextError) : Type 0 where
  pub of_text : IsUtf8 bytes → proof_on tree bytes ≡ Err e
  pub of_others : (IsUtf8 bytes → ⊥) → e ≡ fault.BadBase64

abbrev pub proof_fault_name : ProofTextError → List ℕ
proof_fault_name fault.TooLong = codes "TooLong"
proof_fault_name fault.BadBase64 = codes "BadBase64"
proof_fault_name fault.BadLength = codes "BadLength"
proof_fault_name fault.EmptySibling = codes "EmptySibling"
proof_fault_name fault.OutOfMemory = codes "OutOfMemory"

-- the text is the name of the fault of the bytes, as a proof on the tree of that number
abbrev pub FaultTells : ℕ → List ℕ → List ℕ → Type 0
FaultTells n bytes text = (tree : Tree) × (e : ProofTextError) × (tree_numbered n ≡ Ok tree) × IsFaultOf tree bytes e × (text ≡ proof_fault_name e)

-- the bytes are the text of such a proof
abbrev pub FaultLacks : ℕ → List ℕ → Type 0
FaultLacks n bytes = (tree : Tree) × (tree_numbered n ≡ Ok tree) × IsOk (proof_on tree bytes)

-- the number names no tree
abbrev pub IsNoTree : ℕ → Type 0
IsNoTree n = tree_numbered n ≡ Err BadArgument

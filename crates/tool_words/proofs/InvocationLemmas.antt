-- Which call words are.
use Rattle.std.proofs.Common.{◌≡◌, Bool, true, false, ◌&&◌, ◌||◌, not, codes, List, ℕ, drop, Some, None, refl, sym, ◌∙◌, ap}
use Rattle.std.proofs.lemmas.List.{drop-map}
use Rattle.std.specs.Borrow.{Bor}
use Rattle.tool_words.specs.Invocations.{call_if_taken, IsCalled, Says}
use Rattle.tool_words.specs.Parts.{has, Parts, value}
use Rattle.tool_words.specs.Requests.{texts}
use Rattle.tool_words.specs.Rules.{has_demand, is_number, is_one_log, is_taken, reads_once, signer_in, stdin_files, stdin_options, stdin_places, takes_places}
use Rattle.tool_words.specs.declared.command.Command.{Command}
use Rattle.tool_words.specs.declared.command.Command.TheVariants as command
use Rattle.tool_words.specs.declared.command.Doing.TheVariants as doing
use Rattle.tool_words.specs.declared.request.Invocation.{Invocation}

-- a command that takes its parts is called
pub taken_call : (called : Command) (parts : Parts) → is_taken called parts.places parts.given ≡ true
    → call_if_taken called (Some parts) ≡ Some (record { called = called; parts = parts })
taken_call called parts e = rw e refl

-- and one that does not take them is not
pub untaken_call : (called : Command) (parts : Parts) → is_taken called parts.places parts.given ≡ false
    → call_if_taken called (Some parts) ≡ None
untaken_call called parts e = rw e refl

-- what says a call is said to be it
pub said_call : (words : List (List ℕ)) (called : Command) (parts : Parts) (it : Invocation) → is_taken called parts.places parts.given ≡ true
    → Says words (record { called = called; parts = parts }) it → IsCalled (call_if_taken called (Some parts)) words (Some it)
said_call words called parts it taken says = (record { called = called; parts = parts }, taken_call called parts taken, says)

no_signer : (p q n m k rest : Bool) → (p && ((q && (n && (m && (k && false)))) && rest)) ≡ false
no_signer false q n m k rest = refl
no_signer true false n m k rest = refl
no_signer true true false m k rest = refl
no_signer true true true false k rest = refl
no_signer true true true true false rest = refl
no_signer true true true true true rest = refl

-- a record is made by no one
pub unsigned : (places : List (List ℕ)) (given : List (List ℕ × List ℕ)) → signer_in given ≡ None
    → is_taken (command.Do doing.Make) places given ≡ false
unsigned places given e =
    rw e (no_signer
    (takes_places (command.Do doing.Make) places)
    (not (has (codes "--toy") given && has (codes "--verified") given))
    (is_number (value (codes "--at-least") given))
    (is_number (value (codes "--limit") given))
    (is_number (value (codes "--count") given))
    (reads_once (stdin_places (command.Do doing.Make) places) (stdin_files (command.Do doing.Make) places) (stdin_options given)
    && (is_one_log places || not (has_demand given))))

-- the texts of the words from a place on
pub texts_from : (n : ℕ) (words rest : List (Bor (List ℕ))) → rest ≡ drop n words → texts rest ≡ drop n (texts words)
texts_from n words rest e = ap texts e ∙ sym (drop-map (λ (word : Bor (List ℕ)). word.now) n words)

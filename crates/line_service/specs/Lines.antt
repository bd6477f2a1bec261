-- What a service answers to a line.
use Rattle.std.specs.Prelude.{ℕ, ◌<◌, ◌≤◌, ◌==◌, List, [], ◌∷◌, ◌++◌, length, take, drop, codes, Option, Some, None}
use Rattle.std.specs.List.{position_or_len}
use Rattle.std.specs.Io.BufRead.{drop_through, first_piece}
use Rattle.std.specs.Io.KnownBytes.{Appends}
use Rattle.wasm_values.specs.declared.outcome.Outcome.TheVariants as outcome
use Rattle.wasm_types.specs.Tree.{ModuleTree}
use Rattle.pool_limits.specs.declared.numbers.Numbers.{Numbers}
use Rattle.pool_model.specs.declared.kinds.Kind.TheVariants.{Instance, Memory, Table}
use Rattle.instance_calls.specs.CallWords.{run_limits}
use Rattle.pool_host.specs.declared.answers.Answer.{Answer}
use Rattle.pool_host.specs.declared.answers.Answer.TheVariants.{Done, NoExport, BadArgs, Retired, Full}
use Rattle.pool_host.specs.CallWords.{IsHostAnswer}
use Rattle.line_service.specs.declared.lines.TheConstants.{MOST_REQUEST, FUEL}

-- where the first space of a line is, or its end
abbrev pub first_space : List ℕ → ℕ
first_space line = position_or_len (λ b. b == 32) line

-- a line begins with the name of an export, and behind the first space it has the request
abbrev pub export_of : List ℕ → List ℕ
export_of line = take (first_space line) line

abbrev pub request_of : List ℕ → List ℕ
request_of line = drop 1 (drop (first_space line) line)

-- it is answered as the host answers its call, with those bytes, or not called where its request is too long
abbrev pub IsSaid : Numbers → ModuleTree → (line : List ℕ) → Option Answer → (bytes : List ℕ) → Type 0
IsSaid config m line None bytes = MOST_REQUEST < length (request_of line)
IsSaid config m line (Some answer) bytes = (length (request_of line) ≤ MOST_REQUEST)
    × IsHostAnswer m (run_limits config) (export_of line) [] (request_of line) FUEL answer bytes

-- the word for an answer
abbrev pub word_of : Answer → List ℕ
word_of (Done (outcome.Done value)) = codes "ok "
word_of (Done (outcome.Trap kind)) = codes "trap"
word_of (Done outcome.Fuel) = codes "out of fuel"
word_of NoExport = codes "no such export"
word_of BadArgs = codes "wants arguments"
word_of Retired = codes "retired"
word_of (Full Instance) = codes "all instances are in use"
word_of (Full Memory) = codes "all memories are in use"
word_of (Full Table) = codes "all tables are in use"

-- the line that is written: the word, then the bytes that the call answered
abbrev pub line_of : Option Answer → (bytes : List ℕ) → List ℕ
line_of None bytes = codes "too long" ++ 10 ∷ []
line_of (Some answer) bytes = word_of answer ++ bytes ++ 10 ∷ []

-- a line was answered so, and this was written
pub record IsAnswered (config : Numbers) (m : ModuleTree) (line : List ℕ) (before after : Option (List ℕ)) : Type 0 where
  pub said : Option Answer
  pub bytes : List ℕ
  pub said_is : IsSaid config m line said bytes
  pub written : Appends before after (line_of said bytes)

-- The lines of a text are answered one after another: the first one, and then those behind its line feed.
pub data AreAnswered (config : Numbers) (m : ModuleTree) : (text : List ℕ) → (before after : Option (List ℕ)) → Type 0 where
  Finished : {written : Option (List ℕ)} → AreAnswered config m [] written written
  Answered : {text : List ℕ} {before between after : Option (List ℕ)} → 0 < length text → IsAnswered config m (first_piece 10 text) before between
      → AreAnswered config m (drop_through 10 text) between after → AreAnswered config m text before after

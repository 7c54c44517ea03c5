-- What the functions below the call promise. Assumes nothing.
use Rattle.std.specs.Prelude.{◌≡◌, List, ◌++◌, ℕ, length, take, drop, Result, Ok, Err}
use Rattle.rules.specs.Actions.{Answer, answered, refused, if_answered}
use Rattle.rules.specs.Program.{limits, Program}
use Rattle.rules.specs.Machine.{start, run}
use Rattle.rules.specs.Bound.{bound}
use Rattle.rules.specs.Frames.{Analysis, analyze}
use Rattle.memory.specs.Memory.{zeros, Blank}
use Rattle.program.specs.View.{ProgramReady}
use Rattle.program.specs.declared.Counts.{Counts}
use Rattle.answer.specs.Layout.{answer_length}
use Rattle.answer.specs.Record.{answer_record}
use Rattle.answer.specs.Image.{image_of}
use Rattle.machine.specs.Analysed.{Suited}
use Rattle.program.specs.Layout.{program_size}
use Rattle.state.specs.Layout.{state_length}
use Rattle.chains.specs.Layout.{program_length}
use Rattle.refusals.specs.declared.Refusal.{Refusal}
use Rattle.refusals.specs.Refusals as Q
use Rattle.call.specs.Call.{number_of, Lent, lent, left, answer_of, ended}

-- the tables of the program part, in front of its index
unfoldable pub front_of : List ℕ → List ℕ
front_of p = take program_size p

-- the answer's image, or a refusal
abbrev pub imaged : Answer Analysis → Answer (List ℕ)
imaged x = if_answered x (λ a. answered (answer_of a))

-- the analysis of a program: the image of the state at its end, or a refusal
unfoldable pub analyzed : Program → Answer (List ℕ)
analyzed p = if_answered (if_answered (start limits p) (run limits p (bound p))) (λ e. answered (image_of (answer_record p e)))

-- an outcome, with the answer memory where it is an answer
abbrev pub found : Result (Unit {0}) Refusal → List ℕ → Answer (List ℕ)
found (Ok x) a = answered a
found (Err e) a = refused (Q.number_of e)

-- parts of the published lengths
pub record PartsSized (a p w : List ℕ) : Type 0 where
  pub answer : length a ≡ answer_length
  pub program : length p ≡ program_length
  pub state : length w ≡ state_length

-- the same, and the answer part is cleared
pub record PartsFresh (a p w : List ℕ) : Type 0 where
  pub answer : Blank a answer_length
  pub program : length p ≡ program_length
  pub state : length w ≡ state_length

-- the tables t hold a program that was read
pub record Parsed (s t : List ℕ) (c : Counts) : Type 0 where
  pub suited : Suited s t c limits
  pub ready : ProgramReady t c

-- the analysis of a script is done, and nothing is cleared yet
pub record PartsAnalyzed (script : List ℕ) (r : Result (Unit {0}) Refusal) (a p w : List ℕ) : Type 0 where
  pub is : found r a ≡ imaged (analyze limits script)
  pub sized : PartsSized a p w

-- the answer part, cleared if it was a refusal
abbrev pub kept_of : Result (Unit {0}) Refusal → List ℕ → List ℕ
kept_of (Ok x) a = a
kept_of (Err e) a = zeros (length a)

pub record PartsCleared (r : Result (Unit {0}) Refusal) (a p w a' p' w' : List ℕ) : Type 0 where
  pub answer : a' ≡ kept_of r a
  pub program : p' ≡ zeros (length p)
  pub state : w' ≡ zeros (length w)

-- the call on parts of the published lengths
pub record PartsRan (script : List ℕ) (r : Result (Unit {0}) Refusal) (a p w : List ℕ) : Type 0 where
  pub is : (l : Lent) → ended (analyze limits script) l ≡ left (number_of r) (lent (a ++ drop answer_length l.answer) (p ++ drop program_length l.program) (w ++ drop state_length l.state))

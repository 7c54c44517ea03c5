-- The call: what it gives and what it leaves in the lent memory (01, "The call"; "Questions on the way", 1 and 2 and the last paragraph). Assumes nothing.
use Rattle.std.specs.Prelude.{Bool as 𝔹, ◌&&◌, List, ◌++◌, ℕ, leb, length, drop, Result, Ok, Err}
use Rattle.std.proofs.Math.Option.{Option, none, some}
use Rattle.rules.specs.Actions.{Answer, answered, refused, choose}
use Rattle.rules.specs.Program.{limits}
use Rattle.rules.specs.Frames.{Analysis, analyze}
use Rattle.memory.specs.Memory.{zeros}
use Rattle.answer.specs.Layout.{answer_length}
use Rattle.answer.specs.Record.{answer_record}
use Rattle.answer.specs.Image.{image_of}
use Rattle.state.specs.Layout.{state_length}
use Rattle.chains.specs.Layout.{program_length}
use Rattle.refusals.specs.declared.Refusal.{Refusal}
use Rattle.refusals.specs.Refusals as Q

-- 01's number of what the call gives; "answered" has none
abbrev pub number_of : Result (Unit {0}) Refusal → Option ℕ
number_of (Ok x) = none
number_of (Err e) = some (Q.number_of e)

-- the lent memory
pub record Lent : Type 0 where
  pub answer : List ℕ
  pub program : List ℕ
  pub state : List ℕ

-- what a call gives, and the lent memory after it
pub record CallLeft : Type 0 where
  pub number : Option ℕ
  pub lent : Lent

abbrev pub lent : List ℕ → List ℕ → List ℕ → Lent
lent a p w = record { answer = a; program = p; state = w }

abbrev pub left : Option ℕ → Lent → CallLeft
left n l = record { number = n; lent = l }

-- the answer memory of an analysis
abbrev pub answer_of : Analysis → List ℕ
answer_of a = image_of (answer_record a.program a.state)

-- the published places of the answer part hold t, those of the work memory are cleared; places beyond them stay
abbrev pub holding : List ℕ → Lent → Lent
holding t l = lent (t ++ drop answer_length l.answer) (zeros program_length ++ drop program_length l.program) (zeros state_length ++ drop state_length l.state)

-- an answer, or a refusal on the way to it, which clears the answer part too
abbrev pub ended : Answer Analysis → Lent → CallLeft
ended (answered a) l = left none (holding (answer_of a) l)
ended (refused n) l = left (some n) (holding (zeros answer_length) l)

-- question n before the reading: a "no" changes no memory
abbrev pub before : ℕ → 𝔹 → Lent → (Unit {0} → CallLeft) → CallLeft
before n yes? l rest = choose yes? rest (λ _. left (some n) l)

-- each part has its published length
abbrev pub long_enough : Lent → 𝔹
long_enough l = leb answer_length (length l.answer) && leb program_length (length l.program) && leb state_length (length l.state)

-- question 1, question 2, then the reading and the analysis
unfoldable pub after : List ℕ → Lent → CallLeft
after script l =
    before 1 (leb (length script) limits.script) l (λ _.
    before 2 (long_enough l) l (λ _.
    ended (analyze limits script) l))

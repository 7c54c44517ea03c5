-- A script of a batch, and why a program stops. Assumes nothing.
use Rattle.std.specs.Prelude.{◌≡◌, List, [], ◌∷◌, ◌++◌, ℕ, ◌≤◌, length, take, Option, Result, IfOk, IfSome}
use Rattle.rules.specs.Lists.{bytes}
use Rattle.replay.specs.declared.batches.Stop.{Stop}
use Rattle.replay.specs.declared.batches.Stop.TheVariants.{Unread, Cut, Unwritten, Enough}

-- a script that was read stands at the start of its memory
abbrev pub TurnWithin : List ℕ → Result (Option ℕ) Stop → Type 0
TurnWithin d r = IfOk r (λ s. IfSome s (λ n. (n ≤ length d) × (n ≡ length (take n d))))

-- what is said on standard error
abbrev pub line_of : Stop → List ℕ
line_of Unread = bytes "replay: standard input can't be read" ++ 10 ∷ []
line_of Cut = bytes "replay: no batch: a script is cut or too long" ++ 10 ∷ []
line_of Unwritten = bytes "replay: standard output can't be written" ++ 10 ∷ []
line_of Enough = bytes "replay: no more scripts are read" ++ 10 ∷ []

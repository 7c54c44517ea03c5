-- What the program does with its input. Assumes nothing.
use Rattle.std.specs.Prelude.{List, ℕ, ◌≤◌, Option, Result, Ok, Err, length, take}
use Rattle.std.specs.Io.KnownBytes.{Appends, Keeps}
use Rattle.rules.specs.Program.{limits}
use Rattle.rules.specs.Frames.{analyze, live}
use Rattle.streams.specs.Moved.{taken_of}
use Rattle.printing.specs.Sent.{number_in, SentTells}
use Rattle.live.specs.declared.Ran.{Ran}

-- so many bytes were read into d, and the frames of just these are told
abbrev pub Runs : List ℕ → Ran → Type 0
Runs d r = let s = take r.read d in (r.read ≤ length d) × SentTells (number_in (analyze limits s)) (live s) r.told

-- of an input that is known, however long: the frames of all of it are told, and the output holds as many of their bytes behind what it held;
-- or nothing was written
abbrev pub Prints : {E : Type 0} → List ℕ → Option (List ℕ) → Option (List ℕ) → Result Ran E → Type 0
Prints input old new (Ok r) = SentTells (number_in (analyze limits input)) (live input) r.told × Appends old new (take (taken_of (live input) r.told) (live input))
Prints input old new (Err e) = Keeps old new

-- What was handed to standard output, in bytes; no contract can say what arrived there. Assumes nothing.
use Rattle.std.specs.Prelude.{◌≡◌, List, ℕ, ◌<◌, length, Option, None, Some, Result, Ok, Err}
use Rattle.refusals.specs.declared.Refusal.{Refusal}
use Rattle.refusals.specs.Refusals.{number_of}
use Rattle.rules.specs.Actions.{Answer, answered, refused}
use Rattle.rules.specs.Frames.{Analysis}
use Rattle.streams.specs.declared.Unwritten.{Unwritten}
use Rattle.printing.specs.declared.Told.{Told}

-- of a text t: all of its bytes, or fewer
abbrev pub Sends : List ℕ → Result ℕ Unwritten → Type 0
Sends t (Ok n) = n ≡ length t
Sends t (Err e) = e.taken < length t

-- 01's number of an outcome; an answer has none
abbrev pub number_in : Answer Analysis → Option ℕ
number_in (answered a) = None
number_in (refused n) = Some n

abbrev pub number_told : Option Refusal → Option ℕ
number_told None = None
number_told (Some e) = Some (number_of e)

-- all of the text t is told, of an outcome with that number; or fewer bytes of it
abbrev pub SentTells : Option ℕ → List ℕ → Result Told Unwritten → Type 0
SentTells o t (Ok r) = (o ≡ number_told r.refusal) × (r.bytes ≡ length t)
SentTells o t (Err e) = e.taken < length t

-- what is told where that many bytes were written, all or fewer
abbrev pub told_of : Option Refusal → Result ℕ Unwritten → Result Told Unwritten
told_of o (Ok n) = Ok (record { refusal = o; bytes = n })
told_of o (Err e) = Err e

-- What the program writes for its input. Assumes nothing.
use Rattle.std.specs.Prelude.{◌≡◌, List, ℕ, ◌<◌, length, take, Option, Result, Ok, Err, IfSome}
use Rattle.std.specs.Io.KnownBytes.{Appends, Keeps}
use Rattle.rules.specs.Actions.{Answer, answered, refused}
use Rattle.rules.specs.Lists.{bytes}
use Rattle.rules.specs.Frames.{refusal_frame}
use Rattle.decode.specs.declared.Loaded.{Loaded}
use Rattle.decode.specs.Stored.{Stored, write, read_text}
use Rattle.decode.specs.Load.{told, held}
use Rattle.reread.specs.declared.Stop.{Stop}
use Rattle.reread.specs.declared.Stop.TheVariants as S
use Rattle.reread.specs.declared.NoInput.TheVariants as N

-- the lines of what was read, or that of the reader's refusal
abbrev pub lines_of : Answer Stored → List ℕ
lines_of (answered s) = write s
lines_of (refused n) = refusal_frame n

unfoldable pub again : List ℕ → List ℕ
again t = lines_of (read_text t)

-- what was read is what a text tells; where the input is known, it tells the same
pub record Loads (known : Option (List ℕ)) (l : Loaded) (m : List ℕ) : Type 0 where
  pub text : List ℕ
  pub all : IfSome known (λ input. read_text input ≡ read_text text)
  pub is : held (read_text text) ≡ (told l, m)

-- all of it was written behind what the output held, or as much of it as the output took
abbrev pub Rereads : List ℕ → Option (List ℕ) → Option (List ℕ) → Result ℕ Stop → Type 0
Rereads input old new (Ok n) = (n ≡ length (again input)) × Appends old new (again input)
Rereads input old new (Err (S.Input e)) = Keeps old new
Rereads input old new (Err (S.Output e)) = (e.taken < length (again input)) × Appends old new (take e.taken (again input))

-- what is said on standard error
abbrev pub line_of : Stop → List ℕ
line_of (S.Input N.Failed) = bytes "standard input can't be read"
line_of (S.Input N.Endless) = bytes "standard input has no end"
line_of (S.Output e) = bytes "standard output can't be written"

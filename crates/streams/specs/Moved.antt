-- What was read of the input, and how much of a text was written. Assumes nothing.
use Rattle.std.specs.Prelude.{◌≡◌, List, ℕ, ◌≤◌, ◌<◌, Option, Result, length, take, Ok, Err, IfOk, MatchResult}
use Rattle.std.specs.Io.KnownBytes.{Consumes, IsAtEnd}
use Rattle.streams.specs.declared.Unwritten.{Unwritten}

-- how many bytes of a text were taken: all, or those before the write that failed
abbrev pub taken_of : {A : Type 0} → List ℕ → Result A Unwritten → ℕ
taken_of t (Ok v) = length t
taken_of t (Err e) = e.taken

module _ {E : Type 0} where
  -- as many bytes as the buffer has room for, at most
  abbrev pub InputFits : List ℕ → Result ℕ E → Type 0
  InputFits d r = IfOk r (λ n. (n ≤ length d) × (n ≡ length (take n d)))

  -- Of a reader whose bytes are known: its next bytes, and fewer than there is room for only at its end. Where a read fails, those before it are gone.
  abbrev pub InputTaken : Option (List ℕ) → Option (List ℕ) → List ℕ → Result ℕ E → Type 0
  InputTaken old new d r = MatchResult r (λ n. Consumes old new (take n d) × (n < length d → IsAtEnd new)) (λ e. (k : ℕ) × Consumes old new (take k d))

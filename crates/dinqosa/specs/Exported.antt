-- What the exported calls give: a number and the lent memory (01, "The call"). Assumes nothing.
use Rattle.std.proofs.Math.Option.{Option, none, some}
use Rattle.std.specs.Prelude.{◌≡◌, List, ℕ, ◌+◌}
use Rattle.call.specs.Call.{Lent, CallLeft}
use Rattle.decode.specs.Load.{Outcome, an_answer, a_refusal, not_read}

-- no refusal has the number 0
abbrev pub byte_of : Option ℕ → ℕ
byte_of none = 0
byte_of (some n) = n

-- the byte r and the memory m are what a call leaves
pub record Gives (x : CallLeft) (r : ℕ) (m : Lent) : Type 0 where
  pub byte : r ≡ byte_of x.number
  pub memory : m ≡ x.lent

-- a refusal that was read has a number of its own
abbrev pub number_of : Outcome → ℕ
number_of an_answer = 0
number_of (a_refusal n) = 256 + n
number_of (not_read n) = n

-- the number r and the memory m are what a reading leaves
pub record Reads (x : Outcome × List ℕ) (r : ℕ) (m : List ℕ) : Type 0 where
  pub number : r ≡ number_of x.0
  pub memory : m ≡ x.1

-- Lent memory as a list of numbers: cleared places, and tables in it (01, "The call": what a call clears and what it leaves). Assumes nothing.
use Rattle.std.specs.Prelude.{◌≡◌, List, ◌++◌, ℕ, ◌+◌, ◌-◌, length, take, drop, replicate}

-- n cleared places
unfoldable pub zeros : ℕ → List ℕ
zeros n = replicate n 0

-- memory of n places, all cleared
pub record Blank (d : List ℕ) (n : ℕ) : Type 0 where
  pub is : d ≡ zeros n
  pub len : length d ≡ n

-- memory d with the table t in the places from `at` on
unfoldable pub over : ℕ → List ℕ → List ℕ → List ℕ
over at t d = take at d ++ (t ++ drop (at + length t) d)

-- a table in n places: those that it does not use are cleared
unfoldable pub filled : ℕ → List ℕ → List ℕ
filled n t = t ++ zeros (n - length t)

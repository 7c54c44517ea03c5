-- Names: places in the script. Assumes nothing.
use Rattle.std.specs.Prelude.{List, ℕ, take, drop}

-- the n bytes from a on, as far as the script goes
unfoldable pub name : List ℕ → ℕ → ℕ → List ℕ
name s a n = take n (drop a s)

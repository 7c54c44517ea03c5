-- A worklist kept in a ring of worklist_most words of a memory. Assumes nothing.
use Rattle.std.specs.Prelude.{List, [], ◌∷◌, ℕ, zero, suc, ◌+◌, ◌%◌, ◌<◌, get_or}
use Rattle.memory.specs.Layout.{worklist_most}

-- the n entries from head on, in the ring whose first word is at base
unfoldable pub waiting : List ℕ → ℕ → ℕ → ℕ → List ℕ
waiting m base head zero = []
waiting m base head (suc n) = get_or m (base + head % worklist_most) 0 ∷ waiting m base (suc head) n

-- each of them is below lim
abbrev pub RingBelow : List ℕ → ℕ → ℕ → ℕ → ℕ → Type 0
RingBelow m base head n lim = (k : ℕ) → k < n → get_or m (base + (head + k) % worklist_most) 0 < lim

-- The bound on the count (01, "The analysis", last paragraph). Assumes nothing.
use Rattle.std.specs.Prelude.{Bool as 𝔹, true, ℕ, ◌+◌, ◌*◌, length}
use Rattle.rules.specs.Lists.{sum, places, has}
use Rattle.rules.specs.Program.{Op, Instruction, Class, Program, about, returned}
use Rattle.rules.specs.Uses.{uses}

module _ (p : Program) where
  -- how many instructions pass a test
  abbrev pub number : (Op → 𝔹) → ℕ
  number f = length (places (λ (x : Instruction). f x.op) p.instructions)

  -- the lengths of all uses lists together
  abbrev pub use_count : ℕ
  use_count = sum (λ i. length (uses p i)) (places (λ (x : Instruction). true) p.instructions)

  -- the formula, of instructions, uses, calls, returns, attribute reads, declared attributes, parameters, functions, and the number of classes plus two
  abbrev pub bound_by : ℕ → ℕ → ℕ → ℕ → ℕ → ℕ → ℕ → ℕ → ℕ → ℕ
  bound_by N E S R G D P F h = 3 * (N + h * E + S * R * (1 + h) + G * D * h) * (1 + P) + S * F

  -- from the program's own numbers
  unfoldable pub bound : ℕ
  bound =
      bound_by (length p.instructions) use_count (number (λ o. has (about o).callee)) (number (λ o. has (returned o))) (number (λ o. has (about o).gets))
      (sum (λ (c : Class). length c.ivars) p.classes) (number (λ o. has (about o).place)) (length p.functions) (length p.classes + 2)

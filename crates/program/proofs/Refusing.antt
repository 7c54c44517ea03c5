-- A refusal's number is none of an answer. Assumes nothing.
use mathlib.Core.Path.{◌≡◌}
use native.Mathlib.Omega.{arith}
use Rattle.refusals.specs.Refusals.{number_of}
use Rattle.refusals.specs.declared.Refusal.{Refusal}

pub positive : (e : Refusal) → number_of e ≡ 0 → ⊥
positive = grind arith

-- What a change that can fail comes to. Assumes nothing.
use Rattle.std.specs.Prelude.{ℕ, Result, Ok, Err}
use Rattle.refusals.specs.declared.Refusal.{Refusal}
use Rattle.refusals.specs.Refusals.{number_of}
use Rattle.state.specs.declared.Regs.{Regs}

-- the registers after it, or the number of a refusal
pub data Acted : Type 0 where
  On : Regs → Acted
  Refused : ℕ → Acted

-- by the registers that a call leaves and what it gives back
abbrev pub acted_of : Regs → Result (Unit {0}) Refusal → Acted
acted_of q (Ok a) = On q
acted_of q (Err e) = Refused (number_of e)

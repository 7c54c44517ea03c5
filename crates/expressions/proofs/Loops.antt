-- Loops of the rules, a turn at a time. Assumes nothing.
use mathlib.Core.Path.{◌≡◌, refl}
use mathlib.Core.List.{List}
use Prim.Native.Nat.{ℕ, zero, suc, ◌+◌, ◌≤◌, ◌<◌}
use native.Mathlib.Omega.{arith}
use lib.ListN.{length}
use Rattle.rules.specs.Actions.{answered, refused, Turn, again, ends, loop}
use Rattle.rules.specs.Reading.{Parser, Reads, turns}

-- what is left of a loop, from the place `at` on, is the whole; and there are turns enough
pub record Loops {A B : Type 0} (turn : A → Reads (Turn A B)) (s : List ℕ) (a₀ : A) (r₀ : Parser) (a : A) (r : Parser) (at : ℕ) : Type 0 where
  pub left : ℕ
  pub same : loop turn left a r ≡ loop turn (turns s) a₀ r₀
  pub enough : length s < left + at

module _ {A B : Type 0} (turn : A → Reads (Turn A B)) (s : List ℕ) where
  pub loops_start : (a : A) (r : Parser) (at : ℕ) → Loops turn s a r a r at
  loops_start a r at = record { left = turns s; same = refl; enough = omega arith }

  module _ {a₀ : A} {r₀ : Parser} {a : A} {r : Parser} {at : ℕ} (l : Loops turn s a₀ r₀ a r at) (inside : at ≤ length s) where
    pub loops_on : (a' : A) (r' : Parser) (at' : ℕ) → answered (again a', r') ≡ turn a r → at < at' → Loops turn s a₀ r₀ a' r' at'
    loops_on a' r' at' e h = go l.left l.same l.enough
      where
        go : (k : ℕ) → loop turn k a r ≡ loop turn (turns s) a₀ r₀ → length s < k + at → Loops turn s a₀ r₀ a' r' at'
        go zero f g = absurd (omega arith)
        go (suc k) f g = record { left = k; same = rw (← e) at f; enough = omega arith }

    pub loops_end : (b : B) (r' : Parser) → answered (ends b, r') ≡ turn a r → answered (b, r') ≡ loop turn (turns s) a₀ r₀
    loops_end b r' e = go l.left l.same l.enough
      where
        go : (k : ℕ) → loop turn k a r ≡ loop turn (turns s) a₀ r₀ → length s < k + at → answered (b, r') ≡ loop turn (turns s) a₀ r₀
        go zero f g = absurd (omega arith)
        go (suc k) f g = rw (← e) at f

    pub loops_stop : (n : ℕ) → refused n ≡ turn a r → refused n ≡ loop turn (turns s) a₀ r₀
    loops_stop n e = go l.left l.same l.enough
      where
        go : (k : ℕ) → loop turn k a r ≡ loop turn (turns s) a₀ r₀ → length s < k + at → refused n ≡ loop turn (turns s) a₀ r₀
        go zero f g = absurd (omega arith)
        go (suc k) f g = rw (← e) at f

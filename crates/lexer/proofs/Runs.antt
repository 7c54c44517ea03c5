-- Runs of bytes and literals: what their loops keep, on plain values. Assumes nothing.
use Rattle.std.proofs.Common.{◌≡◌, ℕ, suc, ◌+◌, ◌-◌, ◌*◌, ◌≤◌, ◌<◌, ◌^◌, Bool, true, refl, sym, List, [], ◌∷◌, length, drop, get_or, Some, None, w64, arith, add-one, drop-cons}
use borrow.Author.Tests.{lt-ltb, le-ltb}
use lib.ListN.{drop_of_length-le}
use Rattle.std.specs.Prelude.{ℤ, pos, ◌+ℤ◌, ◌*ℤ◌, FitsSigned}
use Rattle.rules.specs.Words.{run, decimal}
use Rattle.lexer.specs.Lexed.{fitting}

-- a skip at its loop's head
pub record Skipping (f : ℕ → Bool) (s : List ℕ) (at i : ℕ) : Type 0 where
  pub same : i + run f (drop i s) ≡ at + run f (drop at s)

pub run-yes : (f : ℕ → Bool) (b : ℕ) (l : List ℕ) → f b ≡ true → run f (b ∷ l) ≡ suc (run f l)
run-yes f b l e = rw (run, e)

pub decimal_le : (n : ℕ) (l : List ℕ) → n ≤ decimal n l
decimal_le n [] = omega arith
decimal_le n (d ∷ l) = omega (arith, decimal_le (n * 10 + (d - 48)) l)

too_large : {n : ℕ} → 2 ^ 63 ≤ n → None ≡ fitting n
unfolding fitting
too_large {n} h = rw (le-ltb n (2 ^ 63) h)

fits : {n : ℕ} → n < 2 ^ 63 → Some (pos n) ≡ fitting n
unfolding fitting
fits {n} h = rw (lt-ltb n (2 ^ 63) h)

-- what i64 doesn't hold is 2 ^ 63 or more
large : {n : ℕ} → (FitsSigned w64 (pos n) → ⊥) → 2 ^ 63 ≤ n
large {n} h = let g : n < 2 ^ 63 → ⊥ = λ l. h (record { sfits = l }) in omega (arith, g)

-- behind the last digit, for a way out of `literal` that no answer names
pub decimal-end : (n i : ℕ) (digits : List ℕ) → length digits ≤ i → decimal n (drop i digits) ≡ n
decimal-end n i digits h = rw (drop_of_length-le digits {i = i} h) refl

pub fitting-small : (n : ℕ) → n < 2 ^ 63 → fitting n ≡ Some (pos n)
fitting-small n h = sym (fits h)

pub ruleset ends = (decimal-end, fitting-small)

-- a literal at its loop's head: what is left writes, behind v, what the whole writes
pub record Counting (digits : List ℕ) (v : ℤ) (i : ℕ) : Type 0 where
  pub read : ℕ
  pub value : v ≡ pos read
  pub small : read < 2 ^ 63
  pub same : decimal read (drop i digits) ≡ decimal 0 digits

module _ {digits : List ℕ} {v : ℤ} {i : ℕ} (g : Counting digits v i) where
  next : ℕ
  next = g.read * 10 + (get_or digits i 0 - 48)

  more : i < length digits → decimal next (drop (i + 1) digits) ≡ decimal 0 digits
  unfolding next
  more h = rw add-one (rw (drop-cons digits i 0 h) at g.same)

  least : i < length digits → g.read * 10 + (get_or digits i 0 - 48) ≤ decimal 0 digits
  unfolding next
  least h = omega (arith, decimal_le next (drop (i + 1) digits), more h)

  pub literal-more : i < length digits → {tens digit sum : ℤ} {d : ℕ} → tens ≡ v *ℤ pos 10 → d ≡ get_or digits i 0 - 48 → digit ≡ pos d
      → FitsSigned w64 (tens +ℤ digit) × (sum ≡ tens +ℤ digit) → Counting digits sum (i + 1)
  unfolding next
  literal-more h e d p f = record { read = next; value = rw (f.1, p, d, e, g.value) refl; small = (rw (p, d, e, g.value) at f.0).sfits; same = more h }

  pub tens_large : i < length digits → (FitsSigned w64 (v *ℤ pos 10) → ⊥) → None ≡ fitting (decimal 0 digits)
  tens_large h n = let t = large (rw g.value at n) in too_large (omega (arith, t, least h))

  pub sum_large : i < length digits → {tens digit : ℤ} {d : ℕ} → tens ≡ v *ℤ pos 10 → d ≡ get_or digits i 0 - 48 → digit ≡ pos d → (FitsSigned w64 (tens +ℤ digit) → ⊥)
      → None ≡ fitting (decimal 0 digits)
  sum_large h e d p n = let t = large (rw (p, d, e, g.value) at n) in too_large (omega (arith, t, least h))

  pub literal-done : length digits ≤ i → Some v ≡ fitting (decimal 0 digits)
  literal-done h = rw (g.value, ← (rw (decimal-end g.read i digits h) at g.same)) (fits g.small)

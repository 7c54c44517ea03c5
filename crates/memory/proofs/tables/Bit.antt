-- Laws of the bits of words and of rows: which bit a union with a power of two sets, and the lowest bit. Assumes nothing.
use mathlib.Core.Bool.{true, false, not}
use mathlib.Core.Path.{◌≡◌, refl, sym, ap, ◌∙◌}
use mathlib.Core.List.{List}
use Prim.Native.Nat.{ℕ, zero, suc, ◌+◌, ◌-◌, ◌*◌, ◌/◌, ◌%◌, ◌^◌, ◌≤◌, ◌<◌, max}
use native.Mathlib.Nat.{zero-div, div_self, pow-suc, mod-lt, div-eq_of_lt}
use native.Mathlib.Decide.{ℕ_discrete, dec_lt}
use native.Mathlib.Omega.{arith}
use mir.Syntax.{w64}
use mir.Val.{Fits}
use lib.Dec.{eqb, lit<}
use lib.Pow.{pow_pos, pow-lt, shr-shr}
use lib.Bits.{bit_or, or_shr}
use lib.Count.{count_trailing_zeros, under, trailing_le}
use lib.ListN.{length, get_or, set, length-set}
use lib.Seq.{get_or-set_same, get_or-set_other}
use Rattle.ids.proofs.Bits.{or_low, one_shl}
use Rattle.memory.specs.Layout.{instructions_most}
use Rattle.memory.specs.tables.Bits.{bit_at, with_bit}

pub shr_suc : (n j : ℕ) → n / 2 ^ suc j ≡ n / 2 / 2 ^ j
shr_suc n j = sym (shr-shr n 1 j ∙ ap (λ (x : ℕ). n / 2 ^ x) (let e : 1 + j ≡ suc j = omega arith in e))

-- a power of two has no other bit
other_bit : (k j : ℕ) → (j ≡ k → ⊥) → 2 ^ k / 2 ^ j % 2 ≡ 0
other_bit zero zero h = absurd (h refl)
other_bit (suc k) zero h = omega (arith, pow-suc 2 k)
other_bit zero (suc j) h = ap (λ (x : ℕ). x % 2) (div-eq_of_lt (pow-lt {i = 0} {j = suc j} (omega arith)))
other_bit (suc k) (suc j) h =
    ap (λ (x : ℕ). x % 2) (shr_suc (2 ^ suc k) j ∙ ap (λ (x : ℕ). x / 2 ^ j) (let p = pow-suc 2 k in let e : 2 ^ suc k / 2 ≡ 2 ^ k = omega arith in e))
    ∙ other_bit k j (λ e. h (ap suc e))

pub or_bit : (w p j : ℕ) → bit_or w p / 2 ^ j % 2 ≡ max (w / 2 ^ j % 2) (p / 2 ^ j % 2)
or_bit w p j = ap (λ (x : ℕ). x % 2) (or_shr w p j) ∙ or_low (w / 2 ^ j) (p / 2 ^ j)

or_sets : (w k : ℕ) → bit_or w (2 ^ k) / 2 ^ k % 2 ≡ 1
or_sets w k =
    let e = ap (λ (x : ℕ). x % 2) (div_self (pow_pos k)) in
    omega (arith, or_bit w (2 ^ k) k, e, mod-lt (w / 2 ^ k) (lit< {m = 0} {n = 2} tt))

or_keeps : (w k j : ℕ) → (j ≡ k → ⊥) → bit_or w (2 ^ k) / 2 ^ j % 2 ≡ w / 2 ^ j % 2
or_keeps w k j h = omega (arith, or_bit w (2 ^ k) j, other_bit k j h)

module _ (m : List ℕ) (base n : ℕ) (fits : base + n / 64 < length m) where
  pub bit_set : bit_at (with_bit m base n) base n ≡ true
  unfolding bit_at with_bit
  bit_set = rw (get_or-set_same m (base + n / 64) (bit_or (get_or m (base + n / 64) 0) (2 ^ (n % 64))) 0 fits, or_sets (get_or m (base + n / 64) 0) (n % 64))

  -- every other bit stays
  pub bit_other : (b k : ℕ) → (b + k / 64 ≡ base + n / 64 → k % 64 ≡ n % 64 → ⊥) → bit_at (with_bit m base n) b k ≡ bit_at m b k
  unfolding bit_at with_bit
  bit_other b k h =
      elim (ℕ_discrete (b + k / 64) (base + n / 64)) [
        | yes e ↦ ap (λ (x : ℕ). not (eqb x 0)) (ap (λ (x : ℕ). x / 2 ^ (k % 64) % 2)
            (ap (λ (x : ℕ). get_or (set m (base + n / 64) (bit_or (get_or m (base + n / 64) 0) (2 ^ (n % 64)))) x 0) e
            ∙ get_or-set_same m (base + n / 64) (bit_or (get_or m (base + n / 64) 0) (2 ^ (n % 64))) 0 fits)
            ∙ or_keeps (get_or m (base + n / 64) 0) (n % 64) (k % 64) (h e) ∙ ap (λ (x : ℕ). get_or m x 0 / 2 ^ (k % 64) % 2) (sym e))
        | no e ↦ ap (λ (x : ℕ). not (eqb (x / 2 ^ (k % 64) % 2) 0)) (get_or-set_other m (base + n / 64) (b + k / 64) (bit_or (get_or m (base + n / 64) 0) (2 ^ (n % 64))) 0 e)
      ]

-- the code's store
pub bit_stored : (m : List ℕ) (base i : ℕ) → set m (base + i / 64) (bit_or (get_or m (base + i / 64) 0) (1 * 2 ^ (i % 64) % 2 ^ 64)) ≡ with_bit m base i
unfolding with_bit
bit_stored m base i = rw (one_shl 64 (i % 64) (omega arith))

-- a bit depends on its word alone
pub bit_same : (m w : List ℕ) (base n : ℕ) → get_or w (base + n / 64) 0 ≡ get_or m (base + n / 64) 0 → bit_at w base n ≡ bit_at m base n
unfolding bit_at
bit_same m w base n e = ap (λ (x : ℕ). not (eqb (x / 2 ^ (n % 64) % 2) 0)) e

pub bit_length : (m : List ℕ) (base n : ℕ) → length (with_bit m base n) ≡ length m
unfolding with_bit
bit_length m base n = length-set m (base + n / 64) (bit_or (get_or m (base + n / 64) 0) (2 ^ (n % 64)))

-- words elsewhere stay
pub word-other : (m : List ℕ) (base n j : ℕ) → (j ≡ base + n / 64 → ⊥) → get_or (with_bit m base n) j 0 ≡ get_or m j 0
unfolding with_bit
word-other m base n j h = get_or-set_other m (base + n / 64) j (bit_or (get_or m (base + n / 64) 0) (2 ^ (n % 64))) 0 h

-- what trailing zeros find
pub record Lowest (d s t : ℕ) : Type 0 where
  pub below : t < d
  pub one : s / 2 ^ t % 2 ≡ 1
  pub zeros : (j : ℕ) → j < t → s / 2 ^ j % 2 ≡ 0

pub lowest : (d s : ℕ) → 0 < s → s < 2 ^ d → Lowest d s (count_trailing_zeros d s)
unfolding count_trailing_zeros
lowest zero s p h = absurd (omega arith)
lowest (suc d) s p h = go (s % 2) refl (λ q. lowest d (s / 2) q (let e = pow-suc 2 d in omega arith))
  where
    go : (r : ℕ) → s % 2 ≡ r → (0 < s / 2 → Lowest d (s / 2) (count_trailing_zeros d (s / 2))) → Lowest (suc d) s (under r (count_trailing_zeros d (s / 2)))
    go (suc r) e ih = record { below = omega arith; one = omega (arith, mod-lt s (lit< {m = 0} {n = 2} tt)); zeros = λ j lt. absurd (omega arith) }
    go zero e ih =
        let t = count_trailing_zeros d (s / 2) in
        let l = ih (omega arith) in
        record { below = omega (arith, l.below); one = ap (λ (x : ℕ). x % 2) (shr_suc s t) ∙ l.one; zeros = zeros l }
      where
        zeros : Lowest d (s / 2) (count_trailing_zeros d (s / 2)) → (j : ℕ) → j < suc (count_trailing_zeros d (s / 2)) → s / 2 ^ j % 2 ≡ 0
        zeros l zero lt = omega arith
        zeros l (suc j) lt = ap (λ (x : ℕ). x % 2) (shr_suc s j) ∙ l.zeros j (omega arith)

-- the count of trailing zeros fits, and so does a place that it is added to
pub zeros-fit : (x : ℕ) → Fits w64 (count_trailing_zeros 64 x)
zeros-fit x = record { fits = omega (arith, trailing_le 64 x) }

pub place-fits : (i n x : ℕ) → i < n → n ≤ instructions_most → Fits w64 (i + count_trailing_zeros 64 x)
place-fits i n x h k = record { fits = omega (arith, trailing_le 64 x) }

module _ (m : List ℕ) (base i : ℕ) where
  -- what is left of the word of bit i, from that bit on
  abbrev pub rest : ℕ
  rest = get_or m (base + i / 64) 0 / 2 ^ (i % 64)

  ahead : (d : ℕ) → i % 64 + d < 64 → get_or m (base + (i + d) / 64) 0 / 2 ^ ((i + d) % 64) % 2 ≡ rest / 2 ^ d % 2
  ahead d h =
      let a : (i + d) / 64 ≡ i / 64 = omega arith in
      let b : (i + d) % 64 ≡ i % 64 + d = omega arith in
      rw (a, b, shr-shr)

  pub bit_ahead : (d r : ℕ) → i % 64 + d < 64 → rest / 2 ^ d % 2 ≡ r → bit_at m base (i + d) ≡ not (eqb r 0)
  unfolding bit_at
  bit_ahead d r h e = ap (λ (x : ℕ). not (eqb x 0)) (ahead d h ∙ e)

  -- nothing is left: clear to the word's end
  pub clear-word : rest ≡ 0 → (j : ℕ) → i ≤ j → j < i - i % 64 + 64 → bit_at m base j ≡ false
  clear-word e j lo hi =
      let d : i + (j - i) ≡ j = omega arith in
      rw d at (bit_ahead (j - i) 0 (omega arith) (ap (λ (x : ℕ). x / 2 ^ (j - i) % 2) e ∙ ap (λ (x : ℕ). x % 2) (zero-div (2 ^ (j - i)))))

  module _ (pos : 0 < rest) (fits : get_or m (base + i / 64) 0 < 2 ^ 64) where
    low : Lowest 64 rest (count_trailing_zeros 64 rest)
    low = lowest 64 rest pos (omega (arith, lib.Pow.shr_le (get_or m (base + i / 64) 0) (i % 64)))

    inside : i % 64 + count_trailing_zeros 64 rest < 64
    inside = elim (dec_lt (i % 64 + count_trailing_zeros 64 rest) 64) [ yes y ↦ y | no y ↦ absurd (over y) ]
      where
        over : (i % 64 + count_trailing_zeros 64 rest < 64 → ⊥) → ⊥
        over y =
            let t = count_trailing_zeros 64 rest in
            let g : 2 ^ 64 ≤ 2 ^ (i % 64 + t) = lib.Pow.pow_mono {i = 64} {j = i % 64 + t} (omega arith) in
            let z : rest / 2 ^ t ≡ 0 = shr-shr (get_or m (base + i / 64) 0) (i % 64) t ∙ div-eq_of_lt (omega arith) in
            let o = sym low.one ∙ ap (λ (x : ℕ). x % 2) z in
            omega arith

    -- the lowest bit that is left
    pub found_bit : bit_at m base (i + count_trailing_zeros 64 rest) ≡ true
    found_bit = bit_ahead (count_trailing_zeros 64 rest) 1 inside low.one

    pub clear-below : (j : ℕ) → i ≤ j → j < i + count_trailing_zeros 64 rest → bit_at m base j ≡ false
    clear-below j lo hi =
        let d : i + (j - i) ≡ j = omega arith in
        let h = inside in
        rw d at (bit_ahead (j - i) 0 (omega arith) (low.zeros (j - i) (omega arith)))

    pub trailing_below : count_trailing_zeros 64 rest < 64
    trailing_below = low.below

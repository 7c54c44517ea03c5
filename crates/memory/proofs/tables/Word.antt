-- The words of a row of bits, cut at the row's end. Assumes nothing.
use mathlib.Core.Bool.{false, not}
use mathlib.Core.Path.{◌≡◌, refl, sym, ap, ◌∙◌}
use mathlib.Core.List.{List}
use Prim.Native.Nat.{ℕ, zero, suc, ◌+◌, ◌-◌, ◌*◌, ◌/◌, ◌%◌, ◌^◌, ◌≤◌, ◌<◌}
use native.Mathlib.Nat.{zero-div, mod-lt, div-eq_of_lt}
use native.Mathlib.Decide.{dec_lt}
use native.Mathlib.Omega.{arith}
use mir.Syntax.{w64}
use mir.Val.{Fits}
use lib.Dec.{eqb, lit<}
use lib.Pow.{pow_pos, pow_mono, field, mod-mod-pow}
use lib.ListN.{get_or, get_or-eq_default}
use Rattle.kinds.specs.Kinds.{bit_of}
use Rattle.ids.proofs.Bits.{one_shl}
use Rattle.memory.specs.tables.Tables.{listed}
use Rattle.memory.specs.tables.Bits.{bit_at, RowWord}
use Rattle.memory.proofs.tables.Listed.{listed-length, listed_at}

bit_back : (x : ℕ) → x < 2 → x ≡ bit_of (not (eqb x 0))
bit_back zero h = refl
bit_back (suc zero) h = refl
bit_back (suc (suc x)) h = absurd (omega arith)

module _ (m : List ℕ) (base n k : ℕ) where
  behind : (j : ℕ) → n ≤ k * 64 + j → 0 ≡ bit_of (get_or (listed n (bit_at m base)) (k * 64 + j) false)
  behind j h = ap bit_of (sym (get_or-eq_default (listed n (bit_at m base)) false {n = k * 64 + j} (rw listed-length h)))

  inside : (j : ℕ) → j < 64 → k * 64 + j < n → get_or m (base + k) 0 / 2 ^ j % 2 ≡ bit_of (get_or (listed n (bit_at m base)) (k * 64 + j) false)
  unfolding bit_at
  inside j h lt =
      let q : (k * 64 + j) / 64 ≡ k = omega arith in
      let r : (k * 64 + j) % 64 ≡ j = omega arith in
      let b : bit_at m base (k * 64 + j) ≡ not (eqb (get_or m (base + k) 0 / 2 ^ j % 2) 0) = rw (q, r) in
      bit_back (get_or m (base + k) 0 / 2 ^ j % 2) (mod-lt (get_or m (base + k) 0 / 2 ^ j) (lit< {m = 0} {n = 2} tt))
      ∙ ap bit_of (sym (listed_at n (bit_at m base) (k * 64 + j) false lt ∙ b))

  pub row-none : n ≤ k * 64 → RowWord (listed n (bit_at m base)) k 0
  row-none h = record { small = pow_pos 64; bits = λ j lt. ap (λ (x : ℕ). x % 2) (zero-div (2 ^ j)) ∙ behind j (omega arith) }

  pub row-all : Fits w64 (get_or m (base + k) 0) → k * 64 < n → 64 ≤ n - k * 64 → RowWord (listed n (bit_at m base)) k (get_or m (base + k) 0)
  row-all f h g = record { small = f.fits; bits = λ j lt. inside j lt (omega arith) }

  module _ (l : ℕ) (h : l < 64) where
    -- the bits below l of a word
    low_bit : (w j : ℕ) → j < l → w % 2 ^ l / 2 ^ j % 2 ≡ w / 2 ^ j % 2
    low_bit w j lt =
        let i = l - j - 1 in
        let e : l ≡ i + 1 + j = omega arith in
        ap (λ (x : ℕ). w % 2 ^ x / 2 ^ j % 2) e ∙ ap (λ (x : ℕ). x % 2) (field w (i + 1) j) ∙ mod-mod-pow (w / 2 ^ j) i 1

    no_bit : (w j : ℕ) → l ≤ j → w % 2 ^ l / 2 ^ j % 2 ≡ 0
    no_bit w j le = ap (λ (x : ℕ). x % 2) (div-eq_of_lt (omega (arith, mod-lt w (pow_pos l), pow_mono {i = l} {j = j} le)))

  pub row-some : k * 64 < n → n - k * 64 < 64 → RowWord (listed n (bit_at m base)) k (get_or m (base + k) 0 % (1 * 2 ^ (n - k * 64) % 2 ^ 64))
  row-some h g =
      let l = n - k * 64 in
      let w = get_or m (base + k) 0 in
      rw (one_shl 64 l g)
      (record {
        small = omega (arith, mod-lt w (pow_pos l), pow_mono {i = l} {j = 64} (omega arith));
        bits = λ j lt.
            elim (dec_lt j l) [
              | yes z ↦ low_bit l g w j z ∙ inside j lt (omega arith)
              | no z ↦ no_bit l g w j (omega arith) ∙ behind j (omega arith)
            ];
      })

pub some_bits : (l : ℕ) → l < 64 → 0 < 1 * 2 ^ l % 2 ^ 64
some_bits l h = rw (one_shl 64 l h) (pow_pos l)

-- ---- what the check tries at each way through a word

pub ruleset row_words = (row-all, row-some, some_bits)

-- A row of bits, walked word by word and bit by bit. Assumes nothing.
use mathlib.Core.Bool.{Bool as 𝔹, true, false}
use mathlib.Core.Path.{◌≡◌, refl, sym, ap, ap₂, ◌∙◌}
use mathlib.Core.List.{List, [], ◌∷◌, ◌++◌}
use Prim.Native.Nat.{ℕ, zero, suc, ◌+◌, ◌-◌, ◌*◌, ◌/◌, ◌%◌, ◌^◌, ◌≤◌, ◌<◌}
use native.Mathlib.Nat.{mod-lt, add-zero, pow-suc, div-one}
use native.Mathlib.Decide.{dec_lt}
use native.Mathlib.Omega.{arith}
use lib.Dec.{lit<}
use lib.Pow.{pow_pos}
use lib.Bits.{bit_and, and_step, and_self}
use lib.Count.{count_trailing_zeros, under}
use lib.ListN.{length, get_or, drop, drop_of_length-le, get_or-eq_default}
use lib.Seq.{drop-cons}
use Rattle.ids.specs.Sets.{members_from, keep}
use Rattle.ids.proofs.Walk.{Smallest, smallest}
use Rattle.kinds.specs.Kinds.{bit_of}
use Rattle.rules.specs.Lists.{places_from, cons_if}
use Rattle.memory.specs.tables.Bits.{RowWord, LowestBit}
use Rattle.memory.proofs.tables.Bit.{shr_suc, zeros-fit}

-- ---- the lowest bit

-- a number and the one before it share what stands above the lowest bit
and-before : (d s : ℕ) → 0 < s → s < 2 ^ d → bit_and s (s - 1) ≡ s - 2 ^ count_trailing_zeros d s
unfolding count_trailing_zeros
and-before zero s p h = absurd (omega arith)
and-before (suc d) s p h = go (s % 2) refl (λ q. smallest d (s / 2) q (let e = pow-suc 2 d in omega arith)) (λ q. and-before d (s / 2) q (let e = pow-suc 2 d in omega arith))
  where
    go : (r : ℕ) → s % 2 ≡ r → (0 < s / 2 → Smallest d (s / 2) (count_trailing_zeros d (s / 2))) → (0 < s / 2 → bit_and (s / 2) (s / 2 - 1) ≡ s / 2 - 2 ^ count_trailing_zeros d (s / 2))
        → bit_and s (s - 1) ≡ s - 2 ^ under r (count_trailing_zeros d (s / 2))
    go (suc r) e l ih =
        let b : (s - 1) / 2 ≡ s / 2 = omega (arith, mod-lt s (lit< {m = 0} {n = 2} tt)) in
        let a : bit_and (s / 2) ((s - 1) / 2) ≡ s / 2 = ap (bit_and (s / 2)) b ∙ and_self (s / 2) in
        omega (arith, and_step s (s - 1), a, mod-lt s (lit< {m = 0} {n = 2} tt))
    go zero e l ih =
        let t = count_trailing_zeros d (s / 2) in
        let b : (s - 1) / 2 ≡ s / 2 - 1 = omega arith in
        let a : bit_and (s / 2) ((s - 1) / 2) ≡ s / 2 - 2 ^ t = ap (bit_and (s / 2)) b ∙ ih (omega arith) in
        let two : 2 ^ suc t ≡ 2 ^ t * 2 = pow-suc 2 t in
        omega (arith, and_step s (s - 1), a, two, (l (omega arith)).within)

pub lowest-is : (w : ℕ) → 0 < w → w < 2 ^ 64 → LowestBit w (count_trailing_zeros 64 w) (bit_and w (w - 1))
lowest-is w p h =
    let s = smallest 64 w p h in
    let e = and-before 64 w p h in
    record {
      walk = λ k. s.walk k ∙ ap (λ (x : ℕ). (k + count_trailing_zeros 64 w) ∷ members_from 64 k x) (sym e);
      below = s.below;
      falls = omega (arith, e, s.within, pow_pos (count_trailing_zeros 64 w));
    }

-- ---- a row

module _ (row : List 𝔹) where
  -- the places of a row's bits from k on
  abbrev pub from : ℕ → List ℕ
  from k = places_from k (λ b. b) (drop k row)

  pub from_end : (k : ℕ) → length row ≤ k → from k ≡ []
  from_end k h = ap (places_from k (λ b. b)) (drop_of_length-le row {i = k} h)

  pub from_at : (k : ℕ) → from k ≡ cons_if (get_or row k false) k (from (suc k))
  from_at k = elim (dec_lt k (length row)) [
    | yes h ↦ ap (places_from k (λ b. b)) (drop-cons row k false h)
    | no h ↦ from_end k (omega arith) ∙ sym (ap₂ (λ (b : 𝔹) (l : List ℕ). cons_if b k l) (get_or-eq_default row false {n = k} (omega arith)) (from_end (suc k) (omega arith)))
  ]

  -- the first d bits of w are the row's from k on
  from-word : (d k w : ℕ) → ((j : ℕ) → j < d → w / 2 ^ j % 2 ≡ bit_of (get_or row (k + j) false)) → from k ≡ members_from d k w ++ from (k + d)
  unfolding members_from
  from-word zero k w h = ap from (sym (add-zero k))
  from-word (suc d) k w h =
      from_at k
      ∙ here (get_or row k false) (w % 2) (members_from d (suc k) (w / 2)) (from (k + suc d))
      (sym (ap (λ (x : ℕ). x % 2) (div-one w)) ∙ h 0 (omega arith) ∙ ap (λ (x : ℕ). bit_of (get_or row x false)) (add-zero k))
      (from-word d (suc k) (w / 2) (λ j lt. ap (λ (x : ℕ). x % 2) (sym (shr_suc w j)) ∙ h (suc j) (omega arith)
      ∙ ap (λ (x : ℕ). bit_of (get_or row x false)) (let e : k + suc j ≡ suc k + j = omega arith in e))
      ∙ ap (λ (x : ℕ). members_from d (suc k) (w / 2) ++ from x) (let e : suc k + d ≡ k + suc d = omega arith in e))
    where
      here : (b : 𝔹) (r : ℕ) (l m : List ℕ) → r ≡ bit_of b → from (suc k) ≡ l ++ m → cons_if b k (from (suc k)) ≡ keep r k l ++ m
      here true r l m e g = ap (λ (x : List ℕ). k ∷ x) g ∙ ap (λ (x : ℕ). keep x k l ++ m) (sym e)
      here false r l m e g = g ∙ ap (λ (x : ℕ). keep x k l ++ m) (sym e)

  -- word k of the row holds its bits from 64 k on, and the next word's follow
  pub from_row : (k w : ℕ) → RowWord row k w → from (k * 64) ≡ members_from 64 (k * 64) w ++ from (k * 64 + 64)
  from_row k w h = from-word 64 (k * 64) w h.bits

-- ---- what the check tries

pub ruleset lowest_bits = (lowest-is, zeros-fit)

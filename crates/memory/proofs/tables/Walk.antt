-- The walk of a row of bits, on plain values. Assumes nothing.
use mathlib.Core.Bool.{Bool as 𝔹, true, false}
use mathlib.Core.Path.{◌≡◌, refl, sym, ap, ◌∙◌}
use mathlib.Core.List.{List, [], ◌∷◌}
use Prim.Native.Nat.{ℕ, zero, suc, ◌+◌, ◌-◌, ◌/◌, ◌%◌, ◌^◌, ◌≤◌, ◌<◌}
use native.Mathlib.Nat.{add-zero}
use native.Mathlib.Decide.{dec_lt}
use native.Mathlib.Omega.{arith}
use mir.Syntax.{w64}
use mir.Val.{Fits}
use lib.Count.{count_trailing_zeros}
use lib.ListN.{get_or, drop, drop_of_length-le}
use lib.Seq.{drop-cons}
use Rattle.rules.specs.Lists.{places_from, cons_if}
use Rattle.memory.specs.tables.Tables.{listed}
use Rattle.memory.specs.tables.Bits.{bit_at, after, Next}
use Rattle.std.specs.Prelude.{Some, None}
use Rattle.memory.proofs.tables.Listed.{listed-length, listed_at}
use Rattle.memory.proofs.tables.Bit.{rest, clear-word, found_bit, clear-below, zeros-fit, place-fits}

module _ (b : ℕ → 𝔹) (n : ℕ) where
  after-at : (k : ℕ) → k < n → after b n k ≡ cons_if (b k) k (after b n (suc k))
  unfolding after
  after-at k h =
      ap (places_from k (λ t. t)) (drop-cons (listed n b) k false (let e = listed-length n b in omega arith))
      ∙ ap (λ (t : 𝔹). cons_if t k (places_from (suc k) (λ s. s) (drop (suc k) (listed n b)))) (listed_at n b k false h)

  pub after-end : (k : ℕ) → n ≤ k → after b n k ≡ []
  unfolding after
  after-end k h = ap (places_from k (λ t. t)) (drop_of_length-le (listed n b) {i = k} (let e = listed-length n b in omega arith))

  pub after-found : (k : ℕ) → k < n → b k ≡ true → after b n k ≡ k ∷ after b n (suc k)
  after-found k h e = after-at k h ∙ ap (λ (t : 𝔹). cons_if t k (after b n (suc k))) e

  after-skip : (d k : ℕ) → ((j : ℕ) → k ≤ j → j < k + d → b j ≡ false) → after b n k ≡ after b n (k + d)
  after-skip zero k c = ap (after b n) (sym (add-zero k))
  after-skip (suc d) k c = elim (dec_lt k n) [
    | yes h ↦ after-at k h ∙ ap (λ (t : 𝔹). cons_if t k (after b n (suc k))) (c k (omega arith) (omega arith))
        ∙ after-skip d (suc k) (λ j lo hi. c j (omega arith) (omega arith)) ∙ ap (after b n) (let e : suc k + d ≡ k + suc d = omega arith in e)
    | no h ↦ after-end k (omega arith) ∙ sym (after-end (k + suc d) (omega arith))
  ]

  pub after-clear : (k l : ℕ) → k ≤ l → ((j : ℕ) → k ≤ j → j < l → b j ≡ false) → after b n k ≡ after b n l
  after-clear k l h c =
      let e : k + (l - k) ≡ l = omega arith in
      after-skip (l - k) k (λ j lo hi. c j lo (omega arith)) ∙ ap (after b n) e

-- the walk at its loop's head: from k it has come to i
pub record Walked (b : ℕ → 𝔹) (n k i : ℕ) : Type 0 where
  pub same : after b n k ≡ after b n i
  pub up : k ≤ i

pub walk_start : (b : ℕ → 𝔹) (n k : ℕ) → Walked b n k k
walk_start b n k = record { same = refl; up = omega arith }

pub walk_end : {b : ℕ → 𝔹} {n k i : ℕ} → Walked b n k i → n ≤ i → Next b n k None
walk_end {b} {n} {k} {i} w h = record { is = w.same ∙ after-end b n i h; ok = tt }

module _ (m : List ℕ) (base n k i : ℕ) (w : Walked (bit_at m base) n k i) where
  pub walk-on : rest m base i ≡ 0 → Walked (bit_at m base) n k (i - i % 64 + 64)
  walk-on e = record { same = w.same ∙ after-clear (bit_at m base) n i (i - i % 64 + 64) (omega arith) (clear-word m base i e); up = omega arith }

  module _ (ne : rest m base i ≡ 0 → ⊥) (given : Fits w64 (get_or m (base + i / 64) 0)) where
    fits : get_or m (base + i / 64) 0 < 2 ^ 64
    fits = given.fits

    reached : after (bit_at m base) n k ≡ after (bit_at m base) n (i + count_trailing_zeros 64 (rest m base i))
    reached =
        w.same ∙ after-clear (bit_at m base) n i (i + count_trailing_zeros 64 (rest m base i)) (omega arith) (clear-below m base i (omega arith) fits)

    pub walk-found : i + count_trailing_zeros 64 (rest m base i) < n → Next (bit_at m base) n k (Some (i + count_trailing_zeros 64 (rest m base i)))
    walk-found lt = record {
      is = reached ∙ after-found (bit_at m base) n (i + count_trailing_zeros 64 (rest m base i)) lt (found_bit m base i (omega arith) fits);
      ok = (omega arith, lt);
    }

    pub walk-past : n ≤ i + count_trailing_zeros 64 (rest m base i) → Next (bit_at m base) n k None
    walk-past le = record { is = reached ∙ after-end (bit_at m base) n (i + count_trailing_zeros 64 (rest m base i)) le; ok = tt }

-- ---- what the check tries at each way through the walk

pub ruleset walks = (walk_start, walk_end, walk-on, walk-found, walk-past, zeros-fit, place-fits)

-- What is set before a block: the meet over the blocks done that lead to it. Assumes nothing.
use mathlib.Core.Bool.{Bool as 𝔹, true, false, ◌&&◌, ◌||◌}
use mathlib.Core.Option.{Option, none, some}
use mathlib.Core.Path.{◌≡◌, refl, sym, ap, ap₂, ◌∙◌}
use mathlib.Core.List.{List, ◌∷◌}
use Prim.Native.Nat.{ℕ, zero, suc, ◌+◌, ◌-◌, ◌/◌, ◌%◌, ◌^◌, ◌≤◌, ◌<◌, min, max}
use native.Mathlib.Nat.{div_self, mod-eq_of_lt, zero-div}
use native.Mathlib.Omega.{arith}
use borrow.Author.Tests.{eq-eqb}
use lib.Bits.{bit_and, bit_or, and_shr, and_step, and_mask}
use lib.Pow.{pow_pos, pow-lt}
use lib.Dec.{eqb}
use lib.ListN.{get_or}
use Rattle.std.specs.Prelude as R
use Rattle.rules.specs.Lists.{any}
use Rattle.rules.specs.Program.{Program, successors}
use Rattle.rules.specs.Constructors.{end_of, set_before}
use Rattle.program.specs.View.{program_view}
use Rattle.program.specs.declared.Counts.{Counts}
use Rattle.memory.proofs.tables.Bit.{or_bit}
use Rattle.constructors.specs.Layout.{order_at, outs_at}
use Rattle.constructors.specs.declared.Ends.{Ends}
use Rattle.constructors.specs.Walks.{targets, Ended}
use Rattle.constructors.specs.Flows.{holds, done_from, or_false, Before}

-- ---- bits

bit_two : (x : ℕ) → x % 2 < 2
bit_two x = omega arith

both : (x y : ℕ) → x < 2 → y < 2 → eqb (min x y) 1 ≡ (eqb x 1 && eqb y 1)
both zero zero h g = refl
both zero (suc zero) h g = refl
both (suc zero) zero h g = refl
both (suc zero) (suc zero) h g = refl
both (suc (suc x)) y h g = absurd (omega arith)
both zero (suc (suc y)) h g = absurd (omega arith)
both (suc zero) (suc (suc y)) h g = absurd (omega arith)

either : (x y : ℕ) → x < 2 → y < 2 → eqb (max x y) 1 ≡ (eqb x 1 || eqb y 1)
either zero zero h g = refl
either zero (suc zero) h g = refl
either (suc zero) zero h g = refl
either (suc zero) (suc zero) h g = refl
either (suc (suc x)) y h g = absurd (omega arith)
either zero (suc (suc y)) h g = absurd (omega arith)
either (suc zero) (suc (suc y)) h g = absurd (omega arith)

bit_and_lem : (a x y : ℕ) → bit_and x y / 2 ^ a % 2 ≡ min (x / 2 ^ a % 2) (y / 2 ^ a % 2)
bit_and_lem a x y = rw (and_shr x y a) (omega (arith, and_step (x / 2 ^ a) (y / 2 ^ a)))

pub holds-and : (a x y : ℕ) → holds a (bit_and x y) ≡ (holds a x && holds a y)
unfolding holds
holds-and a x y = ap (λ z. eqb z 1) (bit_and_lem a x y) ∙ both (x / 2 ^ a % 2) (y / 2 ^ a % 2) (bit_two (x / 2 ^ a)) (bit_two (y / 2 ^ a))

pub holds_or : (a x y : ℕ) → holds a (bit_or x y) ≡ (holds a x || holds a y)
unfolding holds
holds_or a x y = ap (λ z. eqb z 1) (or_bit x y a) ∙ either (x / 2 ^ a % 2) (y / 2 ^ a % 2) (bit_two (x / 2 ^ a)) (bit_two (y / 2 ^ a))

pub holds-none : (a : ℕ) → holds a 0 ≡ false
unfolding holds
holds-none a = ap (λ z. eqb (z % 2) 1) (zero-div (2 ^ a))

abbrev pub full : ℕ
full = 18446744073709551615

pub holds-full : (a : ℕ) → a < 64 → holds a full ≡ true
unfolding holds
holds-full a h =
    let e : 2 ^ a / 2 ^ a % 2 ≡ 1 = ap (λ x. x % 2) (div_self (pow_pos a)) in
    let m : bit_and (2 ^ a) full ≡ 2 ^ a = and_mask (2 ^ a) 64 ∙ mod-eq_of_lt (pow-lt h) in
    eq-eqb (full / 2 ^ a % 2) 1 (omega (arith, sym (ap (λ x. x / 2 ^ a % 2) m) ∙ bit_and_lem a (2 ^ a) full))

-- ---- the loop

abbrev step : 𝔹 → 𝔹 → Option 𝔹 → Option 𝔹
step true o z = some (o && (elim z [ none ↦ true | some t ↦ t ]))
step false o z = z

before_cons : (p : Program) (b d : ℕ) (o : 𝔹) (l : List (ℕ × 𝔹)) → set_before p b ((d, o) ∷ l) ≡ step (any (eqb b) (successors (end_of p d))) o (set_before p b l)
before_cons p b d o l = go (any (eqb b) (successors (end_of p d)))
  where
    go : (t : 𝔹) → ◌≡◌ {A = Option 𝔹} (elim t [ true ↦ some (o && (elim (set_before p b l) [ none ↦ true | some t ↦ t ])) | false ↦ set_before p b l ]) (step t o (set_before p b l))
    go true = refl
    go false = refl

abbrev pub met_as : R.Option ℕ → ℕ → Option 𝔹
met_as R.None a = none
met_as (R.Some x) a = some (holds a x)

pub record Meeting (m : List ℕ) (c : Counts) (w : List ℕ) (n b q : ℕ) (bits : R.Option ℕ) : Type 0 where
  pub high : q ≤ n
  pub is : (s : List ℕ) (a : ℕ) → a < 64 → set_before (program_view s m c) b (done_from w a q (n - q)) ≡ met_as bits a

pub meet_start : (m : List ℕ) (c : Counts) (w : List ℕ) (n b : ℕ) → Meeting m c w n b n R.None
unfolding done_from
meet_start m c w n b =
    record {
      high = omega arith;
      is = λ s a h. let e : n - n ≡ 0 = omega arith in ap (λ f. set_before (program_view s m c) b (done_from w a n f)) e;
    }

module _ {m : List ℕ} {c : Counts} {w : List ℕ} {n b q : ℕ} {bits : R.Option ℕ} (z : Meeting m c w n b q bits) where
  module _ (h : 0 < q) where
    down : (a : ℕ) → done_from w a (q - 1) (n - (q - 1)) ≡ (get_or w (order_at + (q - 1)) 0, holds a (get_or w (outs_at + (q - 1)) 0)) ∷ done_from w a q (n - q)
    unfolding done_from
    down a =
        let e : n - (q - 1) ≡ suc (n - q) = omega (arith, z.high) in
        let f : suc (q - 1) ≡ q = omega arith in
        ap (done_from w a (q - 1)) e ∙ ap (λ k. (get_or w (order_at + (q - 1)) 0, holds a (get_or w (outs_at + (q - 1)) 0)) ∷ done_from w a k (n - q)) f

    module _ {r : Ends} {t : 𝔹} (en : Ended m c (get_or w (order_at + (q - 1)) 0) r) (le : t ≡ any (eqb b) (targets r)) where
      stepped : (s : List ℕ) (a : ℕ) → a < 64
          → set_before (program_view s m c) b (done_from w a (q - 1) (n - (q - 1))) ≡ step t (holds a (get_or w (outs_at + (q - 1)) 0)) (met_as bits a)
      stepped s a l =
          ap (set_before (program_view s m c) b) (down a)
          ∙ (before_cons (program_view s m c) b (get_or w (order_at + (q - 1)) 0) (holds a (get_or w (outs_at + (q - 1)) 0)) (done_from w a q (n - q))
          ∙ ap₂ {C = Option 𝔹} (λ x y. step x (holds a (get_or w (outs_at + (q - 1)) 0)) y) (ap (any (eqb b)) (en.onward s) ∙ sym le) (z.is s a l))

      pub meet_skip : t ≡ false → Meeting m c w n b (q - 1) bits
      meet_skip e =
          record {
            high = omega (arith, z.high);
            is = λ s a l. stepped s a l ∙ ap (λ x. step x (holds a (get_or w (outs_at + (q - 1)) 0)) (met_as bits a)) e;
          }

      rest : (o : R.Option ℕ) (a : ℕ) → a < 64 → (elim (met_as o a) [ none ↦ true | some t ↦ t ]) ≡ holds a (R.unwrap_or o full)
      rest R.None a l = sym (holds-full a l)
      rest (R.Some x) a l = refl

      pub meet_more : t ≡ true → {x : ℕ} → x ≡ R.unwrap_or bits full → Meeting m c w n b (q - 1) (R.Some (bit_and (get_or w (outs_at + (q - 1)) 0) x))
      meet_more e {x} f =
          record {
            high = omega (arith, z.high);
            is = λ s a l.
                stepped s a l
                ∙ (ap (λ y. step y (holds a (get_or w (outs_at + (q - 1)) 0)) (met_as bits a)) e
                ∙ (ap (λ y. some (holds a (get_or w (outs_at + (q - 1)) 0) && y)) (rest bits a l ∙ ap (holds a) (sym f))
                ∙ ap some (sym (holds-and a (get_or w (outs_at + (q - 1)) 0) x))));
          }

  told : (o : R.Option ℕ) (a : ℕ) → holds a (R.unwrap_or o 0) ≡ or_false (met_as o a)
  told R.None a = holds-none a
  told (R.Some x) a = refl

  pub meet_done : {i r : ℕ} → q ≡ i → r ≡ R.unwrap_or bits 0 → Before m c w n i b r
  meet_done {i} {r} e f =
      record {
        is = λ s a l.
            ap (holds a) f
            ∙ (told bits a ∙ sym (ap or_false (sym (ap (λ k. set_before (program_view s m c) b (done_from w a k (n - k))) e) ∙ z.is s a l)));
      }

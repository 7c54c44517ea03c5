-- The walk of a set of classes upward from its smallest member, for any width. Assumes nothing.
use mathlib.Core.Path.{◌≡◌, refl, sym, ap, ap₂, ◌∙◌, subst₂}
use mathlib.Core.List.{[], ◌∷◌}
use Prim.Native.Nat.{ℕ, zero, suc, ◌+◌, ◌-◌, ◌*◌, ◌/◌, ◌%◌, ◌^◌, ◌≤◌, ◌<◌}
use native.Mathlib.Omega.{arith}
use native.Mathlib.Nat.{mod-lt, add-zero, pow-suc, zero-add}
use lib.Pow.{pow_pos}
use borrow.Author.Tests.{eqb-true, eqb-false}
use lib.Dec.{eqb, lit<}
use lib.ListN.{length}
use lib.Count.{ones, ones_step, count_trailing_zeros, under}
use Rattle.ids.specs.Sets.{keep, members_from, members_of, next_in, next_of}
use Rattle.ids.specs.declared.ClassId.{ClassId}
use Rattle.std.specs.Prelude.{None, Some}
use Rattle.std.proofs.lemmas.Option.{some_pair_parts}
use Rattle.ids.proofs.Bits.{ones-zero, Either, yes, no, either}

-- What the smallest member t of a set s of d bits is: it lies below d, is in s, and the walk goes on with the rest.
pub record Smallest (d s t : ℕ) : Type 0 where
  pub below : t < d
  pub within : 2 ^ t ≤ s
  pub walk : (i : ℕ) → members_from d i s ≡ (i + t) ∷ members_from d i (s - 2 ^ t)

module _ (d s i r : ℕ) where
  -- the lowest bit is clear, or set
  pub clear : s % 2 ≡ 0 → members_from (suc d) i s ≡ members_from d (suc i) (s / 2)
  unfolding members_from
  clear h = ap (λ (x : ℕ). keep x i (members_from d (suc i) (s / 2))) h

  pub set : s % 2 ≡ suc r → members_from (suc d) i s ≡ i ∷ members_from d (suc i) (s / 2)
  unfolding members_from
  set h = ap (λ (x : ℕ). keep x i (members_from d (suc i) (s / 2))) h

pub smallest : (d s : ℕ) → 0 < s → s < 2 ^ d → Smallest d s (count_trailing_zeros d s)
unfolding count_trailing_zeros
smallest zero s p h = absurd (omega arith)
smallest (suc d) s p h = go (s % 2) refl (λ q. smallest d (s / 2) q (omega arith))
  where
    go : (r : ℕ) → s % 2 ≡ r → (0 < s / 2 → Smallest d (s / 2) (count_trailing_zeros d (s / 2))) → Smallest (suc d) s (under r (count_trailing_zeros d (s / 2)))
    go (suc r) e ih = record {
      below = omega arith;
      within = omega arith;
      walk = λ i.
          set d s i r e
          ∙ ap₂ ◌∷◌ (sym (add-zero i)) (sym (clear d (s - 1) i r (omega arith) ∙ ap (members_from d (suc i)) (omega arith)));
    }
    go zero e ih =
        let t = count_trailing_zeros d (s / 2) in
        let l = ih (omega arith) in
        let w = l.within in
        let two : 2 ^ under 0 t ≡ 2 ^ t * 2 = pow-suc 2 t in
        record {
          below = omega (arith, l.below);
          within = omega (arith, l.within);
          walk = λ i.
              clear d s i 0 e ∙ l.walk (suc i)
              ∙ ap₂ ◌∷◌ (omega arith) (sym (clear d (s - 2 ^ suc t) i 0 (omega arith) ∙ ap (members_from d (suc i)) (omega arith)));
        }

-- a set has as many members as its count says
pub members_count : (d i s : ℕ) → s < 2 ^ d → length (members_from d i s) ≡ ones s
unfolding members_from
members_count zero i s h = sym (ap ones (omega arith) ∙ ones-zero)
members_count (suc d) i s h = go (s % 2) refl (members_count d (suc i) (s / 2) (omega arith))
  where
    go : (r : ℕ) → s % 2 ≡ r → length (members_from d (suc i) (s / 2)) ≡ ones (s / 2) → length (members_from (suc d) i s) ≡ ones s
    go zero e ih = ap length (clear d s i 0 e) ∙ omega (arith, ih, ones_step s)
    go (suc r) e ih = ap length (set d s i r e) ∙ omega (arith, ih, ones_step s, mod-lt s (lit< {m = 0} {n = 2} tt))

pub no_members : (d i : ℕ) → members_from d i 0 ≡ []
unfolding members_from
no_members zero i = refl
no_members (suc d) i = no_members d (suc i)

-- ---- the step

-- c is the next member of a set s of d bits, and t what is left: the walk goes on with it, it is smaller, and c is below d
pub record StepIn (d s c t : ℕ) : Type 0 where
  pub walk : (i : ℕ) → members_from d i s ≡ (i + c) ∷ members_from d i t
  pub falls : t < s
  pub below : c < d

module _ (d s : ℕ) where
  first : 0 < s → s < 2 ^ d → StepIn d s (count_trailing_zeros d s) (s - 2 ^ count_trailing_zeros d s)
  first p h =
      let l = smallest d s p h in
      record { walk = l.walk; falls = omega (arith, l.within, pow_pos (count_trailing_zeros d s)); below = l.below }

  pub step_in : (c : ClassId) (t : ℕ) → s < 2 ^ d → next_in d s ≡ Some (c, t) → StepIn d s c.0 t
  step_in c t h e = go (either (eqb s 0))
    where
      go : Either (eqb s 0) → StepIn d s c.0 t
      go (yes p) = let f : next_in d s ≡ None = rw p in let z : ◌≡◌ {A = ℕ} 0 1 = cc in absurd (omega arith)
      go (no p) =
          let f : next_in d s ≡ Some (record { 0 = count_trailing_zeros d s }, s - 2 ^ count_trailing_zeros d s) = rw p in
          let q = some_pair_parts _ c _ t (sym f ∙ e) in
          let n = eqb-false s 0 p in
          subst₂ (StepIn d s) (ap (λ (x : ClassId). x.0) q.0) q.1 (first (omega arith) h)

  done-zero : next_in d s ≡ None → s ≡ 0
  done-zero e = go (either (eqb s 0))
    where
      go : Either (eqb s 0) → s ≡ 0
      go (yes p) = eqb-true s 0 p
      go (no p) = let f : next_in d s ≡ Some (record { 0 = count_trailing_zeros d s }, s - 2 ^ count_trailing_zeros d s) = rw p in cc

  -- at the end of the walk there is no member left
  pub done_in : (i : ℕ) → next_in d s ≡ None → members_from d i s ≡ []
  done_in i e = ap (members_from d i) (done-zero e) ∙ no_members d i

-- ---- the same at 64, as the code takes it

pub record Step (s c t : ℕ) : Type 0 where
  pub walk : members_of s ≡ c ∷ members_of t
  pub falls : t < s
  pub below : c < 64

pub members_step : (s : ℕ) (c : ClassId) (t : ℕ) → s < 2 ^ 64 → next_of s ≡ Some (c, t) → Step s c.0 t
unfolding members_of
members_step s c t h e =
    let l = step_in 64 s c t h e in
    record { walk = l.walk 0 ∙ ap (λ (x : ℕ). x ∷ members_from 64 0 t) (zero-add c.0); falls = l.falls; below = l.below }

pub members_done : (s : ℕ) → next_of s ≡ None → members_of s ≡ []
unfolding members_of
members_done s e = done_in 64 s 0 e

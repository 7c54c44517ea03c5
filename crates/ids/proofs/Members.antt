-- The members of a set, as the walk lists them. Assumes nothing.
use mathlib.Core.Path.{◌≡◌, refl, sym, ap, ◌∙◌, subst}
use mathlib.Core.List.Memᴰ
use mathlib.Core.List.{List, [], ◌∷◌, Memᴰ}
use mathlib.Core.Logic.{inl, inr}
use Prim.Native.Nat.{ℕ, zero, suc, ◌+◌, ◌*◌, ◌/◌, ◌%◌, ◌^◌, ◌≤◌, ◌<◌}
use native.Mathlib.Omega.{arith}
use native.Mathlib.Nat.{mod-lt, add-zero, pow-suc, mul-zero, mul-suc, mul_assoc, add_comm}
use lib.Dec.{lit<}
use lib.Pow.{pow_pos}
use lib.ListN.{length}
use lib.Bits.{bit_or}
use lib.Count.{ones}
use Rattle.ids.specs.Sets.{keep, members_from, members_of}
use Rattle.ids.specs.Left.{members_left}
use Rattle.ids.specs.declared.upward.ClassWalk.{ClassWalk}
use Rattle.ids.proofs.Bits.{or_half, or_low}
use Rattle.ids.proofs.Walk.{clear, set, members_count, no_members, Step}

-- a strictly rising list of numbers from i on
abbrev pub Rising : ℕ → List ℕ → Type 0
Rising i [] = Unit
Rising i (c ∷ l) = (i ≤ c) × Rising (suc c) l

rising_less : {i j : ℕ} (l : List ℕ) → i ≤ j → Rising j l → Rising i l
rising_less [] h r = tt
rising_less (c ∷ l) h r = (omega (arith, r.0), r.1)

rising_from : (d i s : ℕ) → Rising i (members_from d i s)
unfolding members_from
rising_from zero i s = tt
rising_from (suc d) i s = go (s % 2) (rising_from d (suc i) (s / 2))
  where
    go : (b : ℕ) → Rising (suc i) (members_from d (suc i) (s / 2)) → Rising i (keep b i (members_from d (suc i) (s / 2)))
    go zero r = rising_less (members_from d (suc i) (s / 2)) (omega arith) r
    go (suc b) r = (omega arith, r)

-- the walk goes upward, each member once
pub members_rising : (s : ℕ) → Rising 0 (members_of s)
unfolding members_of
members_rising s = rising_from 64 0 s

-- as many members as the set has ones
pub members_ones : (s : ℕ) → s < 2 ^ 64 → length (members_of s) ≡ ones s
unfolding members_of
members_ones s h = members_count 64 0 s h

pub members_none : members_of 0 ≡ []
unfolding members_of
members_none = no_members 64 0

below-from : (d i k s c : ℕ) → s < 2 ^ k → Memᴰ c (members_from d i s) → c < i + k
unfolding members_from
below-from zero i k s c h m = absurd (Memᴰ.not-nil m)
below-from (suc d) i zero s c h m =
    let z : s ≡ 0 = omega arith in
    absurd (Memᴰ.not-nil (subst (Memᴰ c) (ap (members_from (suc d) i) z ∙ no_members (suc d) i) m))
below-from (suc d) i (suc k) s c h m = go (s % 2) m (below-from d (suc i) k (s / 2) c (omega arith))
  where
    go : (b : ℕ) → Memᴰ c (keep b i (members_from d (suc i) (s / 2))) → (Memᴰ c (members_from d (suc i) (s / 2)) → c < suc i + k) → c < i + suc k
    go zero m r = omega (arith, r m)
    go (suc b) m r = elim (Memᴰ.cases_cons m) [ inl e ↦ omega arith | inr n ↦ omega (arith, r n) ]

-- the members of a set below 2 ^ k lie below k
pub members_below : (k s c : ℕ) → s < 2 ^ k → Memᴰ c (members_of s) → c < k
unfolding members_of
members_below k s c h m = omega (arith, below-from 64 0 k s c h m)

or_from : (d i s t c : ℕ) → Memᴰ c (members_from d i s) → Memᴰ c (members_from d i (bit_or s t))
unfolding members_from
or_from zero i s t c m = absurd (Memᴰ.not-nil m)
or_from (suc d) i s t c m =
    go (s % 2) (bit_or s t % 2) (omega (arith, or_low s t)) m (λ n. subst (λ (x : ℕ). Memᴰ c (members_from d (suc i) x)) (sym (or_half s t)) (or_from d (suc i) (s / 2) (t / 2) c n))
  where
    go : (b e : ℕ) → b ≤ e → Memᴰ c (keep b i (members_from d (suc i) (s / 2)))
        → (Memᴰ c (members_from d (suc i) (s / 2)) → Memᴰ c (members_from d (suc i) (bit_or s t / 2)))
        → Memᴰ c (keep e i (members_from d (suc i) (bit_or s t / 2)))
    go zero zero h m r = r m
    go zero (suc e) h m r = Memᴰ.tail (r m)
    go (suc b) zero h m r = absurd (omega arith)
    go (suc b) (suc e) h m r = elim (Memᴰ.cases_cons m) [ inl q ↦ Memᴰ.head q | inr n ↦ Memᴰ.tail (r n) ]

-- a union has the members of its parts
pub members_or : (s t c : ℕ) → Memᴰ c (members_of s) → Memᴰ c (members_of (bit_or s t))
unfolding members_of
members_or s t c m = or_from 64 0 s t c m

one_from : (d i c : ℕ) → c < d → members_from d i (2 ^ c) ≡ (i + c) ∷ []
one_from zero i c h = absurd (omega arith)
one_from (suc d) i zero h = set d 1 i 0 refl ∙ ap (λ (l : List ℕ). i ∷ l) (no_members d (suc i)) ∙ ap (λ (x : ℕ). x ∷ []) (sym (add-zero i))
one_from (suc d) i (suc c) h =
    let p = pow-suc 2 c in
    clear d (2 ^ suc c) i 0 (omega arith) ∙ ap (members_from d (suc i)) (let e : 2 ^ suc c / 2 ≡ 2 ^ c = omega arith in e) ∙ one_from d (suc i) c (omega arith)
    ∙ ap (λ (x : ℕ). x ∷ []) (omega arith)

-- the set of one class has that member alone
pub members_one : (c : ℕ) → c < 64 → members_of (2 ^ c) ≡ c ∷ []
unfolding members_of
members_one c h = one_from 64 0 c h ∙ ap (λ (x : ℕ). x ∷ []) (omega arith)

-- a set is the sum of its members' bits
abbrev pub sum_of : List ℕ → ℕ
sum_of [] = 0
sum_of (c ∷ l) = 2 ^ c + sum_of l

sum-from : (d i s : ℕ) → s < 2 ^ d → sum_of (members_from d i s) ≡ 2 ^ i * s
unfolding members_from
sum-from zero i s h = let e : s ≡ 0 = omega arith in rw e (sym (mul-zero (2 ^ i)))
sum-from (suc d) i s h = go (s % 2) refl (sum-from d (suc i) (s / 2) (let p = pow-suc 2 d in omega arith))
  where
    double : 2 ^ suc i * (s / 2) ≡ 2 ^ i * (2 * (s / 2))
    double = ap (λ (x : ℕ). x * (s / 2)) (pow-suc 2 i) ∙ mul_assoc (2 ^ i) 2 (s / 2)

    go : (r : ℕ) → s % 2 ≡ r → sum_of (members_from d (suc i) (s / 2)) ≡ 2 ^ suc i * (s / 2) → sum_of (members_from (suc d) i s) ≡ 2 ^ i * s
    go zero e ih = ap sum_of (clear d s i 0 e) ∙ ih ∙ double ∙ ap (λ (x : ℕ). 2 ^ i * x) (omega arith)
    go (suc r) e ih =
        ap sum_of (set d s i r e) ∙ ap (λ (x : ℕ). 2 ^ i + x) (ih ∙ double) ∙ add_comm (2 ^ i) (2 ^ i * (2 * (s / 2))) ∙ sym (mul-suc (2 ^ i) (2 * (s / 2)))
        ∙ ap (λ (x : ℕ). 2 ^ i * x) (omega (arith, mod-lt s (lit< {m = 0} {n = 2} tt)))

-- a step of the walk, from what is left before it and after it
pub walk_step : (u v : ClassWalk) (c : ℕ) → members_left u ≡ c ∷ members_left v → Step u.set c v.set
unfolding members_of
walk_step u v c e =
    let a = sum-from 64 0 u.set u.fits in
    let b = sum-from 64 0 v.set v.fits in
    let f = ap sum_of e in
    record {
      walk = e;
      falls = omega (arith, pow_pos c);
      below = members_below 64 u.set c u.fits (subst (Memᴰ c) (sym e) (Memᴰ.head refl));
    }

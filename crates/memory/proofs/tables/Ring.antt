-- Laws of a ring: how many wait, an entry put in, an entry taken. Assumes nothing.
use mathlib.Core.Path.{◌≡◌, refl, ap, ◌∙◌}
use mathlib.Core.List.{List, [], ◌∷◌, ◌++◌}
use Prim.Native.Nat.{ℕ, zero, suc, ◌+◌, ◌-◌, ◌%◌, ◌≤◌, ◌<◌}
use native.Mathlib.Nat.{add-suc, suc-add, add-zero}
use native.Mathlib.Numerals.{add-one}
use native.Mathlib.Decide.{ℕ_discrete}
use native.Mathlib.Omega.{arith}
use lib.ListN.{length, get_or, set}
use lib.Seq.{get_or-set_same, get_or-set_other}
use Rattle.memory.specs.Layout.{worklist_most}
use Rattle.memory.specs.tables.Rings.{waiting, RingBelow}

pub waiting-length : (m : List ℕ) (base h n : ℕ) → length (waiting m base h n) ≡ n
unfolding waiting
waiting-length m base h zero = refl
waiting-length m base h (suc n) = ap suc (waiting-length m base (suc h) n)

pub waiting-same : (m w : List ℕ) (base h n : ℕ) → ((k : ℕ) → k < worklist_most → get_or w (base + k) 0 ≡ get_or m (base + k) 0) → waiting w base h n ≡ waiting m base h n
unfolding waiting
waiting-same m w base h zero e = refl
waiting-same m w base h (suc n) e = rw (e (h % worklist_most) (omega arith), waiting-same m w base (suc h) n e)

waiting-last : (m : List ℕ) (base h n : ℕ) → waiting m base h (suc n) ≡ waiting m base h n ++ (get_or m (base + (h + n) % worklist_most) 0 ∷ [])
unfolding waiting
waiting-last m base h zero = rw add-zero
waiting-last m base h (suc n) = ap (λ (l : List ℕ). get_or m (base + h % worklist_most) 0 ∷ l) (waiting-last m base (suc h) n ∙ rw (add-suc, suc-add))

waiting-set : (m : List ℕ) (base at x h n : ℕ) → ((i : ℕ) → i < n → base + (h + i) % worklist_most ≡ at → ⊥) → waiting (set m at x) base h n ≡ waiting m base h n
unfolding waiting
waiting-set m base at x h zero apart = refl
waiting-set m base at x h (suc n) apart =
    rw (
      get_or-set_other m at (base + h % worklist_most) x 0 (λ e. apart 0 (omega arith) (rw add-zero e)),
      waiting-set m base at x (suc h) n (λ i lt e. apart (suc i) (omega arith) (rw (add-suc, ← suc-add) e)),
    )

module _ (m : List ℕ) (base h n x : ℕ) (fits : base + worklist_most ≤ length m) (room : n < worklist_most) where
  pub waiting-push : waiting (set m (base + (h + n) % worklist_most) x) base h (n + 1) ≡ waiting m base h n ++ (x ∷ [])
  waiting-push =
      rw (add-one, waiting-last, waiting-set m base (base + (h + n) % worklist_most) x h n (λ i lt e. omega arith), get_or-set_same m (base + (h + n) % worklist_most) x 0 (omega arith))

  pub below-push : (lim : ℕ) → RingBelow m base h n lim → x < lim → RingBelow (set m (base + (h + n) % worklist_most) x) base h (n + 1) lim
  below-push lim b lt k le =
      elim (ℕ_discrete k n) [
        | yes e ↦ rw (e, get_or-set_same m (base + (h + n) % worklist_most) x 0 (omega arith)) lt
        | no e ↦ rw (get_or-set_other m (base + (h + n) % worklist_most) (base + (h + k) % worklist_most) x 0 (λ q. e (omega arith))) (b k (let f = e in lower k n le e))
      ]
    where
      lower : (k n : ℕ) → k < n + 1 → (k ≡ n → ⊥) → k < n
      lower k n le e = elim (native.Mathlib.Decide.dec_lt k n) [ yes y ↦ y | no y ↦ absurd (e (omega arith)) ]

pub below-same : (m w : List ℕ) (base h n lim : ℕ) → ((k : ℕ) → k < worklist_most → get_or w (base + k) 0 ≡ get_or m (base + k) 0) → RingBelow m base h n lim → RingBelow w base h n lim
below-same m w base h n lim e b k lt = rw (e ((h + k) % worklist_most) (omega arith)) (b k lt)

-- where the ring is entered does not matter
waiting_mod : (m : List ℕ) (base h g n : ℕ) → h % worklist_most ≡ g % worklist_most → waiting m base h n ≡ waiting m base g n
unfolding waiting
waiting_mod m base h g zero e = refl
waiting_mod m base h g (suc n) e = rw (e, waiting_mod m base (suc h) (suc g) n (omega arith))

module _ (m : List ℕ) (base h n : ℕ) (lt : h < worklist_most) (pos : 0 < n) where
  pub waiting_pop : waiting m base h n ≡ get_or m (base + h) 0 ∷ waiting m base ((h + 1) % worklist_most) (n - 1)
  unfolding waiting
  waiting_pop = go n pos
    where
      go : (n : ℕ) → 0 < n → waiting m base h n ≡ get_or m (base + h) 0 ∷ waiting m base ((h + 1) % worklist_most) (n - 1)
      go zero pos = absurd (omega arith)
      go (suc n) pos =
          let e : h % worklist_most ≡ h = omega arith in
          let p : suc n - 1 ≡ n = omega arith in
          rw (e, p, waiting_mod m base (suc h) ((h + 1) % worklist_most) n (omega arith))

  pub below-first : (lim : ℕ) → RingBelow m base h n lim → get_or m (base + h) 0 < lim
  below-first lim b = let e : (h + 0) % worklist_most ≡ h = omega arith in rw e at (b 0 pos)

  pub below_pop : (lim : ℕ) → RingBelow m base h n lim → RingBelow m base ((h + 1) % worklist_most) (n - 1) lim
  below_pop lim b k le = let e : ((h + 1) % worklist_most + k) % worklist_most ≡ (h + (k + 1)) % worklist_most = omega arith in rw e (b (k + 1) (omega arith))

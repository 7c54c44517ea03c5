-- The rules' order of names: total, transitive, and apart from equality. Assumes nothing.
use Prim.Native.Nat.{ℕ, ◌<◌}
use mathlib.Core.Path.{◌≡◌, refl, sym, ◌∙◌}
use mathlib.Core.Bool.{Bool, true, false, true≢false}
use mathlib.Core.List.{List, [], ◌∷◌}
use native.Mathlib.Decide.{ℕ_discrete, dec_lt}
use native.Mathlib.Omega.{arith}
use lib.Dec.{eqb, ltb}
use borrow.Author.Tests.{lt-ltb, le-ltb, eq-eqb, ne_eqb}
use Rattle.rules.specs.Lists.{same, precedes}

pub impossible : {A : Type 0} {b : Bool} → b ≡ true → b ≡ false → A
impossible e f = absurd (true≢false (sym e ∙ f))

-- how two names stand, with the answer of each test
pub data OrderStands (a b : List ℕ) : Type 0 where
  before : precedes a b ≡ true → precedes b a ≡ false → same a b ≡ false → same b a ≡ false → OrderStands a b
  equal : a ≡ b → precedes a b ≡ false → same a b ≡ true → OrderStands a b
  behind : precedes a b ≡ false → precedes b a ≡ true → same a b ≡ false → same b a ≡ false → OrderStands a b

-- the tests of two numbers
data Heads (x y : ℕ) : Type 0 where
  less : x < y → ltb x y ≡ true → ltb y x ≡ false → eqb x y ≡ false → eqb y x ≡ false → Heads x y
  alike : x ≡ y → ltb x y ≡ false → ltb y x ≡ false → eqb x y ≡ true → eqb y x ≡ true → Heads x y
  more : y < x → ltb x y ≡ false → ltb y x ≡ true → eqb x y ≡ false → eqb y x ≡ false → Heads x y

heads : (x y : ℕ) → Heads x y
heads x y = elim (ℕ_discrete x y) [
  | yes e ↦ alike e (le-ltb x y (omega arith)) (le-ltb y x (omega arith)) (eq-eqb x y e) (eq-eqb y x (sym e))
  | no e ↦ elim (dec_lt x y) [
    | yes h ↦ less h (lt-ltb x y h) (le-ltb y x (omega arith)) (ne_eqb x y (λ z. omega arith)) (ne_eqb y x (λ z. omega arith))
    | no h ↦ more (omega arith) (le-ltb x y (omega arith)) (lt-ltb y x (omega arith)) (ne_eqb x y e) (ne_eqb y x (λ z. e (sym z)))
  ]
]

cons_stands : (x y : ℕ) (l m : List ℕ) → Heads x y → OrderStands l m → OrderStands (x ∷ l) (y ∷ m)
cons_stands x y l m (less h a b c d) s = before (rw a) (rw (b, d)) (rw c) (rw d)
cons_stands x y l m (more h a b c d) s = behind (rw (a, c)) (rw b) (rw c) (rw d)
cons_stands x y l m (alike h a b c d) (before e f g i) = before (rw (a, c) e) (rw (b, d) f) (rw c g) (rw d i)
cons_stands x y l m (alike h a b c d) (equal e f g) = equal (rw (h, e)) (rw (a, c) f) (rw c g)
cons_stands x y l m (alike h a b c d) (behind e f g i) = behind (rw (a, c) e) (rw (b, d) f) (rw c g) (rw d i)

pub stands : (a b : List ℕ) → OrderStands a b
stands [] [] = equal refl refl refl
stands [] (y ∷ m) = before refl refl refl refl
stands (x ∷ l) [] = behind refl refl refl refl
stands (x ∷ l) (y ∷ m) = cons_stands x y l m (heads x y) (stands l m)

pub same_self : (a : List ℕ) → same a a ≡ true
same_self a = by (stands a a)
  where
    by : OrderStands a a → same a a ≡ true
    by (before p q r s) = impossible p q
    by (equal p q r) = r
    by (behind p q r s) = impossible q p

pub precedes-self : (a : List ℕ) → precedes a a ≡ false
precedes-self a = by (stands a a)
  where
    by : OrderStands a a → precedes a a ≡ false
    by (before p q r s) = impossible p q
    by (equal p q r) = q
    by (behind p q r s) = p

module _ (a b : List ℕ) where
  pub below-not : precedes a b ≡ true → precedes b a ≡ false
  below-not p = by (stands a b)
    where
      by : OrderStands a b → precedes b a ≡ false
      by (before q r s t) = r
      by (equal q r s) = impossible p r
      by (behind q r s t) = impossible p q

  pub below_differ : precedes a b ≡ true → same b a ≡ false
  below_differ p = by (stands a b)
    where
      by : OrderStands a b → same b a ≡ false
      by (before q r s t) = t
      by (equal q r s) = impossible p r
      by (behind q r s t) = t

  pub below-same : precedes a b ≡ true → same a b ≡ false
  below-same p = by (stands a b)
    where
      by : OrderStands a b → same a b ≡ false
      by (before q r s t) = s
      by (equal q r s) = impossible p r
      by (behind q r s t) = s

cons_trans : (x y z : ℕ) (l m n : List ℕ) → Heads x y → Heads y z → (precedes l m ≡ true → precedes m n ≡ true → precedes l n ≡ true)
    → precedes (x ∷ l) (y ∷ m) ≡ true → precedes (y ∷ m) (z ∷ n) ≡ true → precedes (x ∷ l) (z ∷ n) ≡ true
cons_trans x y z l m n (more h a b c d) t k p q = impossible p (rw (a, c))
cons_trans x y z l m n (less h a b c d) (more h' a' b' c' d') k p q = impossible q (rw (a', c'))
cons_trans x y z l m n (alike h a b c d) (more h' a' b' c' d') k p q = impossible q (rw (a', c'))
cons_trans x y z l m n (less h a b c d) (less h' a' b' c' d') k p q = rw (lt-ltb x z (omega arith))
cons_trans x y z l m n (less h a b c d) (alike h' a' b' c' d') k p q = rw (lt-ltb x z (omega arith))
cons_trans x y z l m n (alike h a b c d) (less h' a' b' c' d') k p q = rw (lt-ltb x z (omega arith))
cons_trans x y z l m n (alike h a b c d) (alike h' a' b' c' d') k p q =
    rw (le-ltb x z (omega arith), eq-eqb x z (h ∙ h')) (k (rw (a, c) at p) (rw (a', c') at q))

pub precedes_trans : (a b c : List ℕ) → precedes a b ≡ true → precedes b c ≡ true → precedes a c ≡ true
precedes_trans a [] [] p q = impossible q refl
precedes_trans [] [] (z ∷ n) p q = refl
precedes_trans (x ∷ l) [] (z ∷ n) p q = impossible p refl
precedes_trans a (y ∷ m) [] p q = impossible q refl
precedes_trans [] (y ∷ m) (z ∷ n) p q = refl
precedes_trans (x ∷ l) (y ∷ m) (z ∷ n) p q = cons_trans x y z l m n (heads x y) (heads y z) (precedes_trans l m n) p q

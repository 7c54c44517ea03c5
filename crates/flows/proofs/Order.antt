-- The reference's order of operands is strict and total, and a set of operands rises in it. Assumes nothing.
use mathlib.Core.Bool.{Bool as 𝔹, true, false, ◌&&◌, ◌||◌}
use mathlib.Core.Path.{◌≡◌, refl, sym, ap, ◌∙◌}
use mathlib.Core.Logic.{◌⊎◌, inl, inr}
use mathlib.Core.List.{List, [], ◌∷◌}
use Prim.Native.Nat.{ℕ, ◌<◌}
use native.Mathlib.Omega.{arith}
use borrow.Author.Tests.{lt-ltb, le-ltb, ltb-true, ltb-false, eqb-true, eqb-false, eq-eqb, ne_eqb}
use lib.Dec.{eqb, ltb}
use lib.IntN.{ℤ, pos, negsuc}
use lib.Signed.{lt_z}
use Rattle.ids.proofs.Bits.{Either, yes, no, either}
use Rattle.numbers.specs.Numbers.{same_ℤ}
use Rattle.kinds.specs.declared.Kind.{Kind}
use Rattle.kinds.specs.Kinds.{tag_of, number_of, same_kind}
use Rattle.kinds.proofs.Same.{same_eq, same_refl, same-sym}
use Rattle.rules.specs.Values.{kind_before}
use Rattle.rules.specs.Program.{Opnd, Const, Insn, same_opnd, opnd_before}
use Rattle.rules.specs.Machine.{insert_opnd, opnd_set}

-- ---- numbers

lt_trans : (a b c : ℕ) → ltb a b ≡ true → ltb b c ≡ true → ltb a c ≡ true
lt_trans a b c h g = lt-ltb a c (omega (arith, ltb-true a b h, ltb-true b c g))

lt_other : (a b : ℕ) → ltb a b ≡ true → eqb b a ≡ false
lt_other a b h = ne_eqb b a (λ e. omega (arith, ltb-true a b h))

lt_total : (a b : ℕ) → eqb a b ≡ false → ltb a b ≡ false → ltb b a ≡ true
lt_total a b h g = lt-ltb b a (go (either (ltb b a)))
  where
    go : Either (ltb b a) → b < a
    go (yes e) = ltb-true b a e
    go (no e) = absurd (eqb-false a b h (omega (arith, ltb-false b a e, ltb-false a b g)))

z_trans : (a b c : ℤ) → lt_z a b ≡ true → lt_z b c ≡ true → lt_z a c ≡ true
z_trans (pos a) (pos b) (pos c) h g = lt_trans a b c h g
z_trans (pos a) (pos b) (negsuc c) h g = cc
z_trans (pos a) (negsuc b) c h g = cc
z_trans (negsuc a) b (pos c) h g = refl
z_trans (negsuc a) (pos b) (negsuc c) h g = cc
z_trans (negsuc a) (negsuc b) (negsuc c) h g = lt_trans c b a g h

z_irrefl : (a : ℤ) → lt_z a a ≡ false
z_irrefl (pos a) = le-ltb a a (omega arith)
z_irrefl (negsuc a) = le-ltb a a (omega arith)

z_total : (a b : ℤ) → same_ℤ a b ≡ false → lt_z a b ≡ false → lt_z b a ≡ true
z_total (pos a) (pos b) h g = lt_total a b h g
z_total (pos a) (negsuc b) h g = refl
z_total (negsuc a) (pos b) h g = cc
z_total (negsuc a) (negsuc b) h g = lt_total b a (go (either (eqb b a))) g
  where
    go : Either (eqb b a) → eqb b a ≡ false
    go (yes e) = let z : eqb a b ≡ true = eq-eqb a b (sym (eqb-true b a e)) in cc
    go (no e) = e

-- ---- by a number, then by another

abbrev lex : ℕ → ℕ → ℤ → ℤ → 𝔹
lex s t x y = ltb s t || (eqb s t && lt_z x y)

lex_cases : (s t : ℕ) (x y : ℤ) → lex s t x y ≡ true → (s < t) ⊎ ((s ≡ t) × (lt_z x y ≡ true))
lex_cases s t x y h = go (either (ltb s t)) (either (eqb s t))
  where
    go : Either (ltb s t) → Either (eqb s t) → (s < t) ⊎ ((s ≡ t) × (lt_z x y ≡ true))
    go (yes e) f = inl (ltb-true s t e)
    go (no e) (yes f) = inr (eqb-true s t f, rw (e, f) at h)
    go (no e) (no f) = let z : ◌≡◌ {A = 𝔹} false true = rw (e, f) at h in let y : ◌≡◌ {A = ℕ} 0 1 = cc in absurd (omega arith)

lex_less : (s t : ℕ) (x y : ℤ) → s < t → lex s t x y ≡ true
lex_less s t x y h = rw (lt-ltb s t h)

lex_same : (s t : ℕ) (x y : ℤ) → s ≡ t → lt_z x y ≡ true → lex s t x y ≡ true
lex_same s t x y e h = rw (le-ltb s t (omega arith), eq-eqb s t e, h)

kind_trans : (a b c : Kind) → kind_before a b ≡ true → kind_before b c ≡ true → kind_before a c ≡ true
kind_trans a b c h g = go (lex_cases (tag_of a) (tag_of b) (number_of a) (number_of b) h) (lex_cases (tag_of b) (tag_of c) (number_of b) (number_of c) g)
  where
    go : (tag_of a < tag_of b) ⊎ ((tag_of a ≡ tag_of b) × (lt_z (number_of a) (number_of b) ≡ true)) → (tag_of b < tag_of c) ⊎ ((tag_of b ≡ tag_of c) × (lt_z (number_of b) (number_of c) ≡ true))
        → kind_before a c ≡ true
    go (inl x) (inl y) = lex_less (tag_of a) (tag_of c) (number_of a) (number_of c) (omega arith)
    go (inl x) (inr y) = lex_less (tag_of a) (tag_of c) (number_of a) (number_of c) (omega (arith, y.0))
    go (inr x) (inl y) = lex_less (tag_of a) (tag_of c) (number_of a) (number_of c) (omega (arith, x.0))
    go (inr x) (inr y) = lex_same (tag_of a) (tag_of c) (number_of a) (number_of c) (x.0 ∙ y.0) (z_trans (number_of a) (number_of b) (number_of c) x.1 y.1)

kind_irrefl : (a : Kind) → kind_before a a ≡ false
kind_irrefl a = rw (le-ltb (tag_of a) (tag_of a) (omega arith), eq-eqb (tag_of a) (tag_of a) refl, z_irrefl (number_of a))

kind-total : (a b : Kind) → same_kind a b ≡ false → kind_before a b ≡ false → kind_before b a ≡ true
unfolding same_kind
kind-total a b h g = go (either (ltb (tag_of a) (tag_of b))) (either (eqb (tag_of a) (tag_of b)))
  where
    go : Either (ltb (tag_of a) (tag_of b)) → Either (eqb (tag_of a) (tag_of b)) → kind_before b a ≡ true
    go (yes e) f = let z : ◌≡◌ {A = 𝔹} true false = rw e at g in cc
    go (no e) (yes f) =
        lex_same (tag_of b) (tag_of a) (number_of b) (number_of a) (sym (eqb-true (tag_of a) (tag_of b) f)) (z_total (number_of a) (number_of b) (rw f at h) (rw (e, f) at g))
    go (no e) (no f) = lex_less (tag_of b) (tag_of a) (number_of b) (number_of a) (ltb-true (tag_of b) (tag_of a) (lt_total (tag_of a) (tag_of b) f e))

-- ---- operands

pub same-is : (v w : Opnd) → same_opnd v w ≡ true → v ≡ w
same-is (Const a) (Const b) h = ap Const (same_eq a b h)
same-is (Const a) (Insn j) h = cc
same-is (Insn i) (Const b) h = cc
same-is (Insn i) (Insn j) h = ap Insn (eqb-true i j h)

pub same_self : (v : Opnd) → same_opnd v v ≡ true
same_self (Const a) = same_refl a
same_self (Insn i) = eq-eqb i i refl

pub same_turn : (v w : Opnd) → same_opnd v w ≡ same_opnd w v
same_turn (Const a) (Const b) = same-sym a b
same_turn (Const a) (Insn j) = refl
same_turn (Insn i) (Const b) = refl
same_turn (Insn i) (Insn j) = go (either (eqb i j)) (either (eqb j i))
  where
    go : Either (eqb i j) → Either (eqb j i) → eqb i j ≡ eqb j i
    go (yes e) (yes f) = e ∙ sym f
    go (yes e) (no f) = absurd (eqb-false j i f (sym (eqb-true i j e)))
    go (no e) (yes f) = absurd (eqb-false i j e (sym (eqb-true j i f)))
    go (no e) (no f) = e ∙ sym f

before_trans : (u v w : Opnd) → opnd_before u v ≡ true → opnd_before v w ≡ true → opnd_before u w ≡ true
before_trans (Const a) (Const b) (Const c) h g = kind_trans a b c h g
before_trans (Const a) v (Insn j) h g = refl
before_trans (Const a) (Insn i) (Const c) h g = cc
before_trans (Insn i) (Const b) w h g = cc
before_trans (Insn i) (Insn j) (Const c) h g = cc
before_trans (Insn i) (Insn j) (Insn k) h g = lt_trans i j k h g

pub before-other : (w o : Opnd) → opnd_before w o ≡ true → same_opnd o w ≡ false
before-other (Const a) (Const b) h = go (either (same_kind b a))
  where
    go : Either (same_kind b a) → same_kind b a ≡ false
    go (yes e) = let z : kind_before a a ≡ true = rw (same_eq b a e) at h in let y = kind_irrefl a in cc
    go (no e) = e
before-other (Const a) (Insn j) h = refl
before-other (Insn i) (Const b) h = refl
before-other (Insn i) (Insn j) h = lt_other i j h

before-total : (v w : Opnd) → same_opnd v w ≡ false → opnd_before v w ≡ false → opnd_before w v ≡ true
before-total (Const a) (Const b) h g = kind-total a b h g
before-total (Const a) (Insn j) h g = cc
before-total (Insn i) (Const b) h g = refl
before-total (Insn i) (Insn j) h g = lt_total i j h g

-- ---- a set rises

abbrev pub After : Opnd → List Opnd → Type 0
After v [] = Unit {0}
After v (w ∷ l) = (opnd_before v w ≡ true) × After v l

abbrev pub Rises : List Opnd → Type 0
Rises [] = Unit {0}
Rises (v ∷ l) = After v l × Rises l

after_trans : (v w : Opnd) (l : List Opnd) → opnd_before v w ≡ true → After w l → After v l
after_trans v w [] h a = tt
after_trans v w (x ∷ l) h a = (before_trans v w x h a.0, after_trans v w l h a.1)

insert_after : (u v : Opnd) (l : List Opnd) → opnd_before u v ≡ true → After u l → After u (insert_opnd v l)
insert_after u v [] h a = (h, tt)
insert_after u v (w ∷ l) h a = go (same_opnd v w) (opnd_before v w) (insert_after u v l h a.1)
  where
    go : (x y : 𝔹) → After u (insert_opnd v l) → After u (elim x [ true ↦ w ∷ l | false ↦ elim y [ true ↦ v ∷ w ∷ l | false ↦ w ∷ insert_opnd v l ] ])
    go true y ih = a
    go false true ih = (h, a)
    go false false ih = (a.0, ih)

insert_rises : (v : Opnd) (l : List Opnd) → Rises l → Rises (insert_opnd v l)
insert_rises v [] r = (tt, tt)
insert_rises v (w ∷ l) r = go (same_opnd v w) refl (opnd_before v w) refl (insert_rises v l r.1)
  where
    go : (x : 𝔹) → same_opnd v w ≡ x → (y : 𝔹) → opnd_before v w ≡ y → Rises (insert_opnd v l)
        → Rises (elim x [ true ↦ w ∷ l | false ↦ elim y [ true ↦ v ∷ w ∷ l | false ↦ w ∷ insert_opnd v l ] ])
    go true e y f ih = r
    go false e true f ih = ((f, after_trans v w l f r.0), r)
    go false e false f ih = (insert_after w v l (before-total v w e f) r.0, ih)

pub set-rises : (l : List Opnd) → Rises (opnd_set l)
set-rises [] = tt
set-rises (v ∷ l) = insert_rises v (opnd_set l) (set-rises l)

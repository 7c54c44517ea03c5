-- The byte of the kind that two words stand for, and what is told by it. Assumes nothing.
use Rattle.std.specs.Prelude.{Some as Set, None as Other}
use mathlib.Core.Path.{◌≡◌, refl, sym, ap, ◌∙◌}
use Prim.Native.Nat.{ℕ, ◌≤◌, ◌<◌}
use borrow.Author.Tests.{ne_eqb, lt-ltb, ltb-true, ltb-false, eqb-false}
use native.Mathlib.Omega.{arith}
use lib.Dec.{eqb, ltb}
use mathlib.Core.Bool.{Bool as 𝔹, true, cond, ◌||◌}
use mathlib.Core.Logic.{◌⊎◌, inl, inr}
use Rattle.ids.proofs.Bits.{Either, yes, no, either}
use Rattle.kinds.specs.declared.Kind.{Kind}
use Rattle.kinds.specs.Kinds.{tag_of, payload_of, fits_of, kind_from, is_empty, is_name, is_set, is_any}
use Rattle.kinds.specs.Union.{set_of}
use Rattle.kinds.specs.InWords.{as_set}
use Rattle.kinds.proofs.Same.{kept, past, tag-from}

-- a kind's byte and payload stand for it
pub made : {k : Kind} {t x : ℕ} → t ≡ tag_of k → x ≡ payload_of k → fits_of k ≡ true → (kind_from t x ≡ k) × (t ≡ tag_of k)
made {k} e g f = (rw (e, g) (kept k f), e)

-- ---- tests of the byte

-- the tag of the kind that two words stand for is the first of them, or Any's
tag_is : (t x : ℕ) → ((t < 10) × (tag_of (kind_from t x) ≡ t)) ⊎ ((10 ≤ t) × (tag_of (kind_from t x) ≡ 9))
tag_is t x = go (either (ltb t 10))
  where
    go : Either (ltb t 10) → ((t < 10) × (tag_of (kind_from t x) ≡ t)) ⊎ ((10 ≤ t) × (tag_of (kind_from t x) ≡ 9))
    go (yes h) = let lt = ltb-true t 10 h in inl (lt, tag-from t x lt)
    go (no h) =
        let le = ltb-false t 10 h in
        inr (
          le,
          ap tag_of (past t x (λ e. omega arith) (λ e. omega arith) (λ e. omega arith) (λ e. omega arith) (λ e. omega arith) (λ e. omega arith) (λ e. omega arith) (λ e. omega arith)
              (λ e. omega arith)),
        )

-- a test that answers alike for all of Any's tags may be made of the first word
tag_test : (test : ℕ → 𝔹) (t x : ℕ) → (10 ≤ t → test t ≡ test 9) → test t ≡ test (tag_of (kind_from t x))
tag_test test t x h = elim (tag_is t x) [
  | inl g ↦ ap test (sym g.1)
  | inr g ↦ h g.0 ∙ ap test (sym g.1)
]

pub set_tag : (t x : ℕ) → eqb t 8 ≡ is_set (kind_from t x)
set_tag t x = tag_test (λ y. eqb y 8) t x (λ h. ne_eqb t 8 (λ e. omega arith))

pub empty_tag : (t x : ℕ) → eqb t 0 ≡ is_empty (kind_from t x)
empty_tag t x = tag_test (λ y. eqb y 0) t x (λ h. ne_eqb t 0 (λ e. omega arith))

pub name_tag : (t x : ℕ) → (eqb t 4 || eqb t 5) ≡ is_name (kind_from t x)
name_tag t x = tag_test (λ y. eqb y 4 || eqb y 5) t x (λ h. rw (ne_eqb t 4 (λ e. omega arith), ne_eqb t 5 (λ e. omega arith)))

pub any_tag : (t x : ℕ) → ltb 8 t ≡ is_any (kind_from t x)
any_tag t x = elim (tag_is t x) [
  | inl g ↦ go (either (ltb 8 t)) g.0 ∙ ap (λ y. eqb y 9) (sym g.1)
  | inr g ↦ lt-ltb 8 t (omega (arith, g.0)) ∙ ap (λ y. eqb y 9) (sym g.1)
]
  where
    go : Either (ltb 8 t) → t < 10 → ltb 8 t ≡ eqb t 9
    go (yes h) lt = let e : t ≡ 9 = omega (arith, ltb-true 8 t h) in rw e
    go (no h) lt = h ∙ sym (ne_eqb t 9 (λ e. let l = ltb-false 8 t h in omega arith))

-- ---- words as a set

pub objects_set : {t : ℕ} (x : ℕ) → t ≡ 8 → Set x ≡ as_set (kind_from t x)
unfolding kind_from
objects_set x e = rw e

pub empty_set : {t : ℕ} (x : ℕ) → t ≡ 0 → Set 0 ≡ as_set (kind_from t x)
unfolding kind_from
empty_set x e = rw e

pub nil_set : {t : ℕ} (x : ℕ) → t ≡ 1 → Set 1 ≡ as_set (kind_from t x)
unfolding kind_from
nil_set x e = rw e

pub number_set : {t : ℕ} (x : ℕ) → t ≡ 2 → Set 2 ≡ as_set (kind_from t x)
unfolding kind_from
number_set x e = rw e

pub int_set : {t : ℕ} (x : ℕ) → t ≡ 6 → Set 2 ≡ as_set (kind_from t x)
unfolding kind_from
int_set x e = rw e

pub bool_set : {t : ℕ} (x : ℕ) → t ≡ 7 → Set 12 ≡ as_set (kind_from t x)
unfolding kind_from
bool_set x e = rw e

pub false_set : {t x : ℕ} → t ≡ 3 → x ≡ 0 → Set 8 ≡ as_set (kind_from t x)
unfolding kind_from
false_set e f = rw (e, f)

pub true_set : {t x : ℕ} → t ≡ 3 → (x ≡ 0 → ⊥) → Set 4 ≡ as_set (kind_from t x)
unfolding kind_from
true_set {t} {x} e f = rw (e, ne_eqb x 0 f)

pub no_set : (t x : ℕ) → (t ≡ 8 → ⊥) → (t ≡ 0 → ⊥) → (t ≡ 1 → ⊥) → (t ≡ 2 → ⊥) → (t ≡ 6 → ⊥) → (t ≡ 7 → ⊥) → (t ≡ 3 → ⊥) → Other ≡ as_set (kind_from t x)
no_set t x h8 h0 h1 h2 h6 h7 h3 = rw (sym (name_tag t x), sym (any_tag t x)) (go (either (eqb t 4)) (either (eqb t 5)))
  where
    go : Either (eqb t 4) → Either (eqb t 5) → Other ≡ cond ((eqb t 4 || eqb t 5) || ltb 8 t) Other (Set (set_of (kind_from t x)))
    go (yes a) b = rw a refl
    go (no a) (yes b) = rw (a, b) refl
    go (no a) (no b) = rw (a, b, lt-ltb 8 t (let p = eqb-false t 4 a in let q = eqb-false t 5 b in omega arith)) refl

pub ruleset sets = (objects_set, empty_set, nil_set, number_set, int_set, bool_set, false_set, true_set, no_set)

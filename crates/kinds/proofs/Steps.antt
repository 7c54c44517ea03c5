-- The ways through `mix`, `union`, `by_union` and `combine`, on plain values: each flag is a callee's answer. Assumes nothing.
use mathlib.Core.Path.{◌≡◌, refl, sym, ap, ap₂, ◌∙◌}
use mathlib.Core.Bool.{Bool as 𝔹, true, false, cond, ◌&&◌, ◌||◌, or-true, or-false}
use Prim.Native.Nat.{ℕ}
use lib.IntN.{ℤ}
use lib.Bits.{bit_or}
use Rattle.std.specs.Prelude.{Option, Some, None, Ok, Err}
use Rattle.refusals.specs.declared.Refusal.{Refusal}
use Rattle.refusals.specs.declared.Refusal.TheVariants.{KindsClash}
use Rattle.ids.proofs.Bits.{Either, yes, no, either}
use Rattle.kinds.specs.declared.Kind.{Kind}
use Rattle.kinds.specs.declared.Kind.TheVariants.{Empty, Nil, Num, Truth, Fun, Class, Int, Bool, Objects, Any}
use Rattle.kinds.specs.declared.Arith.{Arith}
use Rattle.kinds.specs.Kinds.{same_kind, is_any, is_empty, is_name, is_number, is_truth}
use Rattle.kinds.specs.Union.{Joined, set_of, is_alone, mix_of, lub, union_of}
use Rattle.kinds.specs.Rules.{known_in, result_of, wide_of, by_union, by_unions, both, arith_of}
use Rattle.kinds.proofs.Same.{same_eq}

-- a flag's value, handed on to what it answers
pub told : {p q v : 𝔹} → p ≡ q → p ≡ v → q ≡ v
told e h = sym e ∙ h

pub told_and : {p q p' q' v : 𝔹} → p ≡ p' → q ≡ q' → (p && q) ≡ v → (p' && q') ≡ v
told_and e f h = ap₂ ◌&&◌ (sym e) (sym f) ∙ h

pub told_or : {p q p' q' v : 𝔹} → p ≡ p' → q ≡ q' → (p || q) ≡ v → (p' || q') ≡ v
told_or e f h = ap₂ ◌||◌ (sym e) (sym f) ∙ h

pub or_left : (p q : 𝔹) → (p || q) ≡ false → p ≡ false
or_left false q h = refl
or_left true q h = h

pub or_right : (p q : 𝔹) → (p || q) ≡ false → q ≡ false
or_right false q h = h
or_right true q h = cc

pub not-alone : (a b : Kind) → (is_name a || is_name b) ≡ false → (is_any a || is_any b) ≡ false → (is_alone a || is_alone b) ≡ false
not-alone a b n p =
    rw (or_left (is_name a) (is_name b) n, or_right (is_name a) (is_name b) n, or_left (is_any a) (is_any b) p, or_right (is_any a) (is_any b) p)

pub empty_is : (k : Kind) → is_empty k ≡ true → k ≡ Empty
empty_is Empty h = refl
empty_is Nil h = cc
empty_is (Num n) h = cc
empty_is (Truth t) h = cc
empty_is (Fun f) h = cc
empty_is (Class c) h = cc
empty_is Int h = cc
empty_is Bool h = cc
empty_is (Objects s) h = cc
empty_is Any h = cc

pub any-is : (k : Kind) → is_any k ≡ true → k ≡ Any
any-is Empty h = cc
any-is Nil h = cc
any-is (Num n) h = cc
any-is (Truth t) h = cc
any-is (Fun f) h = cc
any-is (Class c) h = cc
any-is Int h = cc
any-is Bool h = cc
any-is (Objects s) h = cc
any-is Any h = refl

module _ (a b : Kind) where
  pub mix_same : same_kind a b ≡ true → a ≡ mix_of a b
  unfolding mix_of
  mix_same s = rw s

  -- a name or Any, with another kind
  pub mix_alone : same_kind a b ≡ false → (is_alone a || is_alone b) ≡ true → mix_of a b ≡ Any
  unfolding mix_of
  mix_alone s p = rw (s, p)

  pub mix_any : (is_any a || is_any b) ≡ true → mix_of a b ≡ Any
  mix_any p = go (either (same_kind a b)) (either (is_any a))
    where
      go : Either (same_kind a b) → Either (is_any a) → mix_of a b ≡ Any
      go (yes s) (yes q) = sym (mix_same s) ∙ any-is a q
      go (yes s) (no q) = sym (mix_same s) ∙ same_eq a b s ∙ any-is b (rw q at p)
      go (no s) (yes q) = mix_alone s (rw (q, or-true (is_name a)))
      go (no s) (no q) = let r : is_any b ≡ true = rw q at p in mix_alone s (rw (r, or-true (is_name b), or-true (is_alone a)))

  module _ (p : (is_alone a || is_alone b) ≡ false) (s : same_kind a b ≡ false) where
    pub mix_number : (is_number a && is_number b) ≡ true → Int ≡ mix_of a b
    unfolding mix_of
    mix_number n = rw (s, p, n)

    pub mix_truth : (is_number a && is_number b) ≡ false → (is_truth a && is_truth b) ≡ true → Bool ≡ mix_of a b
    unfolding mix_of
    mix_truth n t = rw (s, p, n, t)

    pub mix_set : (is_number a && is_number b) ≡ false → (is_truth a && is_truth b) ≡ false → {x y : ℕ} → x ≡ set_of a → y ≡ set_of b → Objects (bit_or x y) ≡ mix_of a b
    unfolding mix_of
    mix_set n t e f = rw (s, p, n, t) (ap₂ (λ (x y : ℕ). Objects (bit_or x y)) e f)

  pub lub-any : (is_any a || is_any b) ≡ true → lub a b ≡ Any
  unfolding lub
  lub-any p = go (either (is_empty a)) (either (is_empty b))
    where
      go : Either (is_empty a) → Either (is_empty b) → lub a b ≡ Any
      go (yes e) f = rw e (any-is b (rw (empty_is a e) at p))
      go (no e) (yes f) = rw (e, f) (any-is a (rw (empty_is b f, or-false (is_any a)) at p))
      go (no e) (no f) = rw (e, f) (mix_any p)

  pub union-any : (is_any a || is_any b) ≡ true → Ok Any ≡ union_of a b
  unfolding union_of
  union-any p = rw p (ap Ok (sym (lub-any p)))

  module _ (p : (is_any a || is_any b) ≡ false) where
    pub union_left : is_empty a ≡ true → Ok b ≡ union_of a b
    unfolding union_of lub
    union_left q = rw (p, q)

    pub union_right : is_empty a ≡ false → is_empty b ≡ true → Ok a ≡ union_of a b
    unfolding union_of lub
    union_right q r = rw (p, q, r)

    pub union-name : is_empty a ≡ false → is_empty b ≡ false → (is_name a || is_name b) ≡ true → Err KindsClash ≡ union_of a b
    unfolding union_of
    union-name q r n = rw (p, q, r, n)

    pub union_mix : is_empty a ≡ false → is_empty b ≡ false → (is_name a || is_name b) ≡ false → {k : Kind} → k ≡ mix_of a b → Ok k ≡ union_of a b
    unfolding union_of lub
    union_mix q r n e = rw (p, q, r, n) (ap Ok e)

-- ---- the rules

pub by_int : (o : Arith) (j : Joined) (u : Kind) {w : Kind} → j ≡ Ok u → same_kind u Int ≡ true → w ≡ wide_of o → Ok w ≡ by_unions o j
unfolding by_union
by_int o j u e s h = rw e (rw s (ap Ok h))

pub by_other : (o : Arith) (j : Joined) (u : Kind) → j ≡ Ok u → same_kind u Int ≡ false → Ok Any ≡ by_unions o j
unfolding by_union
by_other o j u e s = rw e (rw s)

pub by_refusal : (o : Arith) (j : Joined) (r : Refusal) → j ≡ Err r → Err r ≡ by_unions o j
by_refusal o j r e = rw e

known_num : (k : Kind) (n : ℤ) → known_in k ≡ Some n → k ≡ Num n
known_num Empty n h = cc
known_num Nil n h = cc
known_num (Num m) n h = cc
known_num (Truth t) n h = cc
known_num (Fun f) n h = cc
known_num (Class c) n h = cc
known_num Int n h = cc
known_num Bool n h = cc
known_num (Objects s) n h = cc
known_num Any n h = cc

module _ (o : Arith) (a b : Kind) where
  pub empty_arith : (is_empty a || is_empty b) ≡ true → Ok Empty ≡ arith_of o a b
  unfolding arith_of
  empty_arith h = rw h

  module _ (h : (is_empty a || is_empty b) ≡ false) where
    pub number_arith : (m n : ℤ) {k : Kind} → a ≡ Num m → b ≡ Num n → k ≡ result_of o m n → Ok k ≡ arith_of o a b
    unfolding arith_of
    number_arith m n p q e =
        let x : known_in a ≡ Some m = ap known_in p in
        let y : known_in b ≡ Some n = ap known_in q in
        rw (h, x, y) (ap Ok e)

    -- not both are known
    pub wide_arith : {j : Joined} → ((m n : ℤ) → a ≡ Num m → b ≡ Num n → ⊥) → j ≡ by_unions o (union_of a b) → j ≡ arith_of o a b
    unfolding arith_of
    wide_arith {j} u e = go (known_in a) (known_in b) refl refl
      where
        go : (x y : Option ℤ) → known_in a ≡ x → known_in b ≡ y → j ≡ cond (is_empty a || is_empty b) (Ok Empty) (both (λ m n. Ok (result_of o m n)) (by_unions o (union_of a b)) x y)
        go (Some m) (Some n) p q = absurd (u m n (known_num a m p) (known_num b n q))
        go (Some m) None p q = rw h e
        go None y p q = rw h e

-- ---- what the check tries at each way through a function

pub ruleset unions = (told, told_or, not-alone, union-any, union_left, union_right, union-name, union_mix)

pub ruleset rules_of = (told_or, empty_arith, number_arith, wide_arith)

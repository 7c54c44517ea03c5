-- The stored forms: what each way through their readers and writers shows, on plain values. Assumes nothing.
use mathlib.Core.Bool.{true}
use mathlib.Core.Path.{◌≡◌, refl, ap}
use Prim.Native.Nat.{ℕ, zero, suc, ◌%◌, ◌^◌, ◌<◌}
use native.Mathlib.Omega.{arith}
use borrow.Author.Tests.{eq-eqb, ne_eqb}
use Rattle.kinds.proofs.Same.{kept}
use Rattle.kinds.specs.Kinds.{tag_of, payload_of, fits_of, kind_from}
use Rattle.kinds.specs.declared.Kind.{Kind}
use Rattle.kinds.specs.declared.Kind.TheVariants as K
use Rattle.program.specs.Rows.{opnd_from, op_from}
use Rattle.program.specs.declared.Opnd.{Opnd}
use Rattle.program.specs.declared.Opnd.TheVariants.{Const, Insn}
use Rattle.program.specs.declared.Op.TheVariants.{GetIvar, SetIvar}

-- ---- sorts, read by their tag

module _ {t : ℕ} (x y : ℕ) where
  pub op_13 : t ≡ 13 → GetIvar (record { start = x; len = y }) ≡ op_from t x y
  unfolding op_from
  op_13 e = rw e

-- past the last tag
pub op-past : (t x y : ℕ) → (t ≡ 0 → ⊥) → (t ≡ 1 → ⊥) → (t ≡ 2 → ⊥) → (t ≡ 3 → ⊥) → (t ≡ 4 → ⊥) → (t ≡ 5 → ⊥) → (t ≡ 6 → ⊥) → (t ≡ 7 → ⊥) → (t ≡ 8 → ⊥) → (t ≡ 9 → ⊥) → (t ≡ 10 → ⊥) → (t ≡ 11 → ⊥)
    → (t ≡ 12 → ⊥) → (t ≡ 13 → ⊥)
    → SetIvar (record { start = x; len = y }) ≡ op_from t x y
unfolding op_from
op-past zero x y h0 h1 h2 h3 h4 h5 h6 h7 h8 h9 h10 h11 h12 h13 = absurd (h0 refl)
op-past (suc zero) x y h0 h1 h2 h3 h4 h5 h6 h7 h8 h9 h10 h11 h12 h13 = absurd (h1 refl)
op-past (suc (suc zero)) x y h0 h1 h2 h3 h4 h5 h6 h7 h8 h9 h10 h11 h12 h13 = absurd (h2 refl)
op-past (suc (suc (suc zero))) x y h0 h1 h2 h3 h4 h5 h6 h7 h8 h9 h10 h11 h12 h13 = absurd (h3 refl)
op-past (suc (suc (suc (suc zero)))) x y h0 h1 h2 h3 h4 h5 h6 h7 h8 h9 h10 h11 h12 h13 = absurd (h4 refl)
op-past (suc (suc (suc (suc (suc zero))))) x y h0 h1 h2 h3 h4 h5 h6 h7 h8 h9 h10 h11 h12 h13 = absurd (h5 refl)
op-past (suc (suc (suc (suc (suc (suc zero)))))) x y h0 h1 h2 h3 h4 h5 h6 h7 h8 h9 h10 h11 h12 h13 = absurd (h6 refl)
op-past (suc (suc (suc (suc (suc (suc (suc zero))))))) x y h0 h1 h2 h3 h4 h5 h6 h7 h8 h9 h10 h11 h12 h13 = absurd (h7 refl)
op-past (suc (suc (suc (suc (suc (suc (suc (suc zero)))))))) x y h0 h1 h2 h3 h4 h5 h6 h7 h8 h9 h10 h11 h12 h13 = absurd (h8 refl)
op-past (suc (suc (suc (suc (suc (suc (suc (suc (suc zero))))))))) x y h0 h1 h2 h3 h4 h5 h6 h7 h8 h9 h10 h11 h12 h13 = absurd (h9 refl)
op-past (suc (suc (suc (suc (suc (suc (suc (suc (suc (suc zero)))))))))) x y h0 h1 h2 h3 h4 h5 h6 h7 h8 h9 h10 h11 h12 h13 = absurd (h10 refl)
op-past (suc (suc (suc (suc (suc (suc (suc (suc (suc (suc (suc zero))))))))))) x y h0 h1 h2 h3 h4 h5 h6 h7 h8 h9 h10 h11 h12 h13 = absurd (h11 refl)
op-past (suc (suc (suc (suc (suc (suc (suc (suc (suc (suc (suc (suc zero)))))))))))) x y h0 h1 h2 h3 h4 h5 h6 h7 h8 h9 h10 h11 h12 h13 = absurd (h12 refl)
op-past (suc (suc (suc (suc (suc (suc (suc (suc (suc (suc (suc (suc (suc zero))))))))))))) x y h0 h1 h2 h3 h4 h5 h6 h7 h8 h9 h10 h11 h12 h13 = absurd (h13 refl)
op-past (suc (suc (suc (suc (suc (suc (suc (suc (suc (suc (suc (suc (suc (suc n)))))))))))))) x y h0 h1 h2 h3 h4 h5 h6 h7 h8 h9 h10 h11 h12 h13 = refl

-- ---- operands

module _ {t : ℕ} (x : ℕ) where
  pub opnd_insn : t ≡ 10 → Insn (record { 0 = x % 2 ^ 32 }) ≡ opnd_from t x
  unfolding opnd_from
  opnd_insn e = rw (eq-eqb t 10 e)

  pub opnd_const : {k : Kind} → (t ≡ 10 → ⊥) → k ≡ kind_from t x → Const k ≡ opnd_from t x
  unfolding opnd_from
  opnd_const e f = rw (ne_eqb t 10 e) (ap Const f)

small_tag : (k : Kind) → tag_of k < 10
small_tag K.Empty = omega arith
small_tag K.Nil = omega arith
small_tag (K.Num n) = omega arith
small_tag (K.Truth t) = omega arith
small_tag (K.Fun f) = omega arith
small_tag (K.Class c) = omega arith
small_tag K.Int = omega arith
small_tag K.Bool = omega arith
small_tag (K.Objects s) = omega arith
small_tag K.Any = omega arith

pub words_small : (k : Kind) {t : ℕ} → t ≡ tag_of k → t < 16
words_small k e = omega (arith, small_tag k)

pub words_const : {o : Opnd} {k : Kind} {t x : ℕ} → o ≡ Const k → t ≡ tag_of k → x ≡ payload_of k → fits_of k ≡ true → opnd_from t x ≡ o
unfolding opnd_from
words_const {k = k} e f g h = rw (f, g, ne_eqb (tag_of k) 10 (λ z. omega (arith, small_tag k)), kept k h, e)

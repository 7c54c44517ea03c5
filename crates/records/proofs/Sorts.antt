-- The sort of a record's instruction, by the number of its stored form. Assumes nothing.
use mathlib.Core.Path.{◌≡◌, refl, sym, ap, ◌∙◌, subst}
use Prim.Native.Nat.{ℕ, zero, suc, ◌<◌}
use native.Mathlib.Omega.{arith}
use Rattle.program.specs.declared.Name.{Name}
use Rattle.program.specs.declared.Op.{Op}
use Rattle.program.specs.declared.Op.TheVariants.{Jump, IfTrue, Return, SendStatic, SendDynamic, Compute, Phi, Param, SelfParam, New, GetIvar, SetIvar}
use Rattle.program.specs.declared.Row.{Row}
use Rattle.program.specs.Rows.{op_from}
use Rattle.records.specs.declared.Record.{Record}
use Rattle.records.specs.Records.{row_of}

abbrev pub Sorted : ℕ → Op → Type 0
Sorted t (GetIvar n) = t ≡ 13
Sorted t (SetIvar n) = 13 < t
Sorted t (Jump b) = t < 13
Sorted t (IfTrue b d) = t < 13
Sorted t Return = t < 13
Sorted t (SendStatic f) = t < 13
Sorted t (SendDynamic n) = t < 13
Sorted t (Compute o) = t < 13
Sorted t (Phi b d) = t < 13
Sorted t (Param n) = t < 13
Sorted t (SelfParam k) = t < 13
Sorted t (New k) = t < 13

sorted : (t x y : ℕ) → Sorted t (op_from t x y)
unfolding op_from
sorted zero x y = omega arith
sorted (suc zero) x y = omega arith
sorted (suc (suc zero)) x y = omega arith
sorted (suc (suc (suc zero))) x y = omega arith
sorted (suc (suc (suc (suc zero)))) x y = omega arith
sorted (suc (suc (suc (suc (suc zero))))) x y = omega arith
sorted (suc (suc (suc (suc (suc (suc zero)))))) x y = omega arith
sorted (suc (suc (suc (suc (suc (suc (suc zero))))))) x y = omega arith
sorted (suc (suc (suc (suc (suc (suc (suc (suc zero)))))))) x y = omega arith
sorted (suc (suc (suc (suc (suc (suc (suc (suc (suc zero))))))))) x y = omega arith
sorted (suc (suc (suc (suc (suc (suc (suc (suc (suc (suc zero)))))))))) x y = omega arith
sorted (suc (suc (suc (suc (suc (suc (suc (suc (suc (suc (suc zero))))))))))) x y = omega arith
sorted (suc (suc (suc (suc (suc (suc (suc (suc (suc (suc (suc (suc zero)))))))))))) x y = omega arith
sorted (suc (suc (suc (suc (suc (suc (suc (suc (suc (suc (suc (suc (suc zero))))))))))))) x y = refl
sorted (suc (suc (suc (suc (suc (suc (suc (suc (suc (suc (suc (suc (suc (suc n)))))))))))))) x y = omega arith

pub sorted_row : (r : Record) {w : Row} {o : Op} → w ≡ row_of r → w.op ≡ o → Sorted r.tag o
unfolding row_of
sorted_row r e h = subst (Sorted r.tag) (sym (ap (λ (v : Row). v.op) e) ∙ h) (sorted r.tag r.x r.y)

pub neither : (t : ℕ) (o : Op) → Sorted t o → ((n : Name) → o ≡ GetIvar n → ⊥) → ((n : Name) → o ≡ SetIvar n → ⊥) → t < 13
neither t (GetIvar n) h g s = absurd (g n refl)
neither t (SetIvar n) h g s = absurd (s n refl)
neither t (Jump b) h g s = h
neither t (IfTrue b d) h g s = h
neither t Return h g s = h
neither t (SendStatic f) h g s = h
neither t (SendDynamic n) h g s = h
neither t (Compute o) h g s = h
neither t (Phi b d) h g s = h
neither t (Param n) h g s = h
neither t (SelfParam k) h g s = h
neither t (New k) h g s = h

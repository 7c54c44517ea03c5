-- Operands that the code finds equal are one in the rules' words, and those that it finds different are two. Assumes nothing.
use mathlib.Core.Bool.{Bool, true, false}
use mathlib.Core.Path.{◌≡◌, refl, ap}
use borrow.Author.Tests.{eq-eqb, ne_eqb}
use Rattle.kinds.specs.Kinds.{same_kind}
use Rattle.kinds.proofs.Same.{same_eq, same_refl}
use Rattle.rules.specs.Program.{same_opnd}
use Rattle.program.specs.declared.Opnd.{Opnd}
use Rattle.program.specs.declared.Opnd.TheVariants.{Const, Insn}
use Rattle.program.specs.Rows.{opnd_of}

pub one_opnd : (o w : Opnd) → o ≡ w → same_opnd (opnd_of o) (opnd_of w) ≡ true
one_opnd o w e = rw e (itself w)
  where
    itself : (v : Opnd) → same_opnd (opnd_of v) (opnd_of v) ≡ true
    itself (Const k) = same_refl k
    itself (Insn i) = eq-eqb i.0 i.0 refl

pub two_opnds : (o w : Opnd) → (o ≡ w → ⊥) → same_opnd (opnd_of o) (opnd_of w) ≡ false
two_opnds (Const a) (Const b) n = by (same_kind a b) refl
  where
    by : (t : Bool) → same_kind a b ≡ t → t ≡ false
    by true e = absurd (n (ap Const (same_eq a b e)))
    by false e = refl
two_opnds (Const a) (Insn j) n = refl
two_opnds (Insn i) (Const b) n = refl
two_opnds (Insn i) (Insn j) n = ne_eqb i.0 j.0 (λ z. n (ap Insn (ap (λ k. record { 0 = k }) z)))

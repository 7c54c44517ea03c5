-- Where an operand stands, and its kind in words. Assumes nothing.
use Rattle.std.specs.Prelude.{Option, Some, None}
use mathlib.Core.Path.{◌≡◌, refl, sym, ap, ◌∙◌}
use mathlib.Core.List.{List}
use Prim.Native.Nat.{ℕ, ◌+◌, ◌%◌, ◌^◌, ◌<◌}
use native.Mathlib.Omega.{arith}
use lib.ListN.{get_or}
use Rattle.kinds.specs.declared.Kind.{Kind}
use Rattle.kinds.specs.declared.Kind.TheVariants.{Empty}
use Rattle.kinds.specs.Kinds.{kind_from}
use Rattle.program.specs.declared.Counts.{Counts}
use Rattle.program.specs.declared.Opnd.{Opnd}
use Rattle.program.specs.declared.Opnd.TheVariants.{Const}
use Rattle.program.specs.Rows.{opnd_of, opnd_from, opnd_at}
use Rattle.program.proofs.Forms.{opnd_insn, opnd_const}
use Rattle.state.specs.declared.Sizes.{Sizes}
use Rattle.machine.specs.opnds.Reads.{OperandInside, kind_in}
use Rattle.machine.proofs.opnds.Given.{inside-at, const_read, insn_read}
use Rattle.flows.specs.Flows.{Argues, standing, ArguesAt}

module _ (m : List ℕ) {r : Option ℕ} where
  module _ {c : Counts} {i n : ℕ} (a : ArguesAt m c i n r) where
    argues : {o : Opnd} → standing m r ≡ o → Argues m c i n o
    argues e = rw e at a.is

    pub argues_none : r ≡ None → Argues m c i n (Const Empty)
    argues_none e = argues (ap (standing m) e)

    pub argues_some : (at : ℕ) {o : Opnd} → r ≡ Some at → o ≡ opnd_at m at → Argues m c i n o
    argues_some at e f = argues (ap (standing m) e ∙ sym f)

  -- its two words
  pub stood_none : r ≡ None → opnd_from 0 0 ≡ standing m r
  unfolding kind_from
  stood_none e = sym (opnd_const 0 (λ h. omega arith) refl) ∙ ap (standing m) (sym e)

  pub stood : (at : ℕ) → r ≡ Some at → opnd_from (get_or m at 0) (get_or m (at + 1) 0) ≡ standing m r
  stood at e = ap (standing m) (sym e)

-- ---- the kind of an operand in words

module _ {t : ℕ} (x : ℕ) where
  pub words_inside : (z : Sizes) → OperandInside z (opnd_from t x) → t ≡ 10 → x % 2 ^ 32 < z.insns
  words_inside z g e = inside-at z (record { 0 = x % 2 ^ 32 }) g (sym (opnd_insn x e))

  pub words_insn : (ks : List Kind) {k : Kind} → t ≡ 10 → k ≡ get_or ks (x % 2 ^ 32) Empty → k ≡ kind_in ks (opnd_of (opnd_from t x))
  words_insn ks e g = insn_read ks (record { 0 = x % 2 ^ 32 }) (sym (opnd_insn x e)) g

  pub words_const : (ks : List Kind) → (t ≡ 10 → ⊥) → kind_from t x ≡ kind_in ks (opnd_of (opnd_from t x))
  words_const ks e = const_read ks (kind_from t x) (sym (opnd_const x e refl))

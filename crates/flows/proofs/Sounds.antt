-- What pass_callers relies on follows from a finished program whose callers are calls. Assumes nothing.
use mathlib.Core.Bool.{Bool as 𝔹, true, false, ◌&&◌}
use mathlib.Core.Path.{◌≡◌, refl, sym, subst}
use mathlib.Core.List.{List, [], ◌∷◌}
use Prim.Native.Nat.{ℕ, zero, suc, ◌≤◌, ◌<◌}
use native.Mathlib.Omega.{arith}
use borrow.Author.Tests.{ltb-true, ltb-false, leb-true, ne_eqb}
use lib.Dec.{ltb, leb}
use lib.ListN.{length, get_or, get_or-eq_default}
use Rattle.ids.proofs.Bits.{Either, yes, no, either}
use Rattle.kinds.specs.declared.Kind.{Kind}
use Rattle.kinds.specs.declared.Kind.TheVariants.{Empty}
use Rattle.kinds.specs.Kinds.{tag_of, fits_of, is_any}
use Rattle.rules.specs.Lists.{has, all, to_list}
use Rattle.rules.specs.Values.{function_in, class_in}
use Rattle.rules.specs.Program.{Limits, Opnd, Const, Insn, Static, Dynamic, Op, Ends, Send, Compute, Phi, Param, SelfParam, New, GetIvar, SetIvar, Program, Instruction, about}
use Rattle.rules.specs.Program.{op_of, block_of, function_of}
use Rattle.rules.specs.Machine.{marked}
use Rattle.rules.specs.Finished.{Finished, is_function, is_class, good_constant, good_opnd, good_op, good_instruction}
use Rattle.rules.proofs.Exactness.Promise.{and_left, and_right}
use Rattle.flows.specs.Tally.{FitsAt}
use Rattle.flows.specs.Flows.{FlowsSound}

few_tags : (k : Kind) → tag_of k ≤ 5 → is_any k ≡ false
few_tags k h = ne_eqb (tag_of k) 9 (λ e. omega arith)

pub second : (a b c d e : 𝔹) → (a && b && c && d && e) ≡ true → b ≡ true
second true true c d e h = refl
second true false c d e h = cc
second false b c d e h = cc

good_constant_lem : (p : Program) (k : Kind) → good_constant p k ≡ true → is_any k ≡ false
good_constant_lem p k h =
    few_tags k (leb-true (tag_of k) 5
    (second (leb 1 (tag_of k)) (leb (tag_of k) 5) (fits_of k) (all (is_function p) (to_list (function_in k))) (all (is_class p) (to_list (class_in k))) h))

good_opnd_lem : (p : Program) (n i : ℕ) (o : Opnd) → i < n → good_opnd p i o ≡ true → FitsAt n o
good_opnd_lem p n i (Const k) lt h = good_constant_lem p k h
good_opnd_lem p n i (Insn j) lt h = let g = ltb-true j i h in omega arith

pub good-at : (p : Program) (n i : ℕ) (l : List Opnd) (k : ℕ) → i < n → all (good_opnd p i) l ≡ true → FitsAt n (get_or l k (Const Empty))
good-at p n i [] k lt h = refl
good-at p n i (o ∷ l) zero lt h = good_opnd_lem p n i o lt (and_left (good_opnd p i o) (all (good_opnd p i) l) h)
good-at p n i (o ∷ l) (suc k) lt h = good-at p n i l k lt (and_right (good_opnd p i o) (all (good_opnd p i) l) h)

good-listed : (p : Program) (n i : ℕ) (o : Op) (k : ℕ) → i < n → all (good_opnd p i) (about o).operands ≡ true → FitsAt n (get_or (about o).listed k (Const Empty))
good-listed p n i (Ends t) k lt h = refl
good-listed p n i (Send (Static f) l) k lt h = good-at p n i l k lt h
good-listed p n i (Send (Dynamic r m) l) k lt h = good-at p n i l k lt (and_right (good_opnd p i r) (all (good_opnd p i) l) h)
good-listed p n i (Compute o v w) k lt h = refl
good-listed p n i (Phi b v c w) k lt h = good-at p n i (v ∷ w ∷ []) k lt h
good-listed p n i (Param m) k lt h = refl
good-listed p n i (SelfParam c) k lt h = refl
good-listed p n i (New c) k lt h = refl
good-listed p n i (GetIvar m r) k lt h = refl
good-listed p n i (SetIvar m r v) k lt h = refl

pub operands-good : (p : Program) (i : ℕ) → good_instruction p i ≡ true → all (good_opnd p i) (about (op_of p i)).operands ≡ true
unfolding good_instruction
operands-good p i h = go (ltb (block_of p i) (length p.blocks)) (all (good_opnd p i) (about (op_of p i)).operands) (good_op p i (function_of p i) (op_of p i)) h
  where
    go : (a b c : 𝔹) → (a && b && c) ≡ true → b ≡ true
    go true true c e = refl
    go true false c e = cc
    go false b c e = cc

-- a number beyond the program's instructions has no arguments
beyond : (p : Program) (n i k : ℕ) → length p.instructions ≤ i → FitsAt n (get_or (about (op_of p i)).listed k (Const Empty))
beyond p n i k le =
    subst (λ (x : Instruction). FitsAt n (get_or (about x.op).listed k (Const Empty))) (sym (get_or-eq_default p.instructions (record { block = 0; op = New 0 }) {n = i} le)) refl

-- no argument of a finished program is Any or a result beyond the program's
pub listed-fits : (L : Limits) (p : Program) → Finished L p → (i k : ℕ) → FitsAt (length p.instructions) (get_or (about (op_of p i)).listed k (Const Empty))
listed-fits L p r i k = go (either (ltb i (length p.instructions)))
  where
    go : Either (ltb i (length p.instructions)) → FitsAt (length p.instructions) (get_or (about (op_of p i)).listed k (Const Empty))
    go (yes h) =
        let lt = ltb-true i (length p.instructions) h in
        good-listed p (length p.instructions) i (op_of p i) k lt (operands-good p i (r.instructions i lt))
    go (no h) = beyond p (length p.instructions) i k (ltb-false i (length p.instructions) h)

pub sound_of : (L : Limits) (p : Program) (t : List (List 𝔹)) → Finished L p → ((f i : ℕ) → marked t f i ≡ true → has (about (op_of p i)).callee ≡ true)
    → FlowsSound p (length p.instructions) t
sound_of L p t r c = record { calls = c; listed = listed-fits L p r }

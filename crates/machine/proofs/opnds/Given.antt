-- An operand's kind through the state_view, and the rules that only read. Assumes nothing.
use mathlib.Core.Bool.{Bool as 𝔹, true, false, cond}
use mathlib.Core.Path.{◌≡◌, refl, sym, ap, ◌∙◌}
use mathlib.Core.List.{List, [], ◌∷◌, ◌++◌, map}
use Prim.Native.Nat.{ℕ, ◌<◌}
use lib.ListN.{get_or}
use Rattle.ids.specs.declared.InsnId.{InsnId}
use Rattle.kinds.specs.declared.Kind.{Kind}
use Rattle.kinds.specs.declared.Kind.TheVariants.{Empty}
use Rattle.std.specs.Prelude.{Ok, Err}
use Rattle.kinds.specs.declared.Arith.{Arith}
use Rattle.kinds.specs.Union.{Joined, union_of, and_then, join_of, union_all}
use Rattle.kinds.specs.Rules.{arith_of}
use Rattle.rules.specs.Actions.{lift}
use Rattle.rules.specs.Values.{to_answer}
use Rattle.rules.specs.Program as P
use Rattle.rules.specs.Program.{Limits, Program, Compute, Phi}
use Rattle.rules.specs.Machine.{State, kind_of, join_all, rule}
use Rattle.program.specs.declared.Opnd.{Opnd}
use Rattle.program.specs.declared.Opnd.TheVariants.{Const, Insn}
use Rattle.program.specs.Rows.{opnd_of}
use Rattle.state.specs.declared.Sizes.{Sizes}
use Rattle.state.specs.View.{kinds_of, live_of, state_view}
use Rattle.state.specs.Changes.{Every}
use Rattle.machine.specs.opnds.Reads.{OperandInside, kind_in, StateReads}

pub kind_of_lem : (s : State) (o : P.Opnd) → kind_of s o ≡ kind_in s.kinds o
unfolding kind_of
kind_of_lem s (P.Const k) = refl
kind_of_lem s (P.Insn i) = refl

pub inside-at : (z : Sizes) {o : Opnd} (i : InsnId) → OperandInside z o → o ≡ Insn i → i.0 < z.insns
inside-at z i h e = rw e at h

pub const_read : (ks : List Kind) {o : Opnd} (k : Kind) → o ≡ Const k → k ≡ kind_in ks (opnd_of o)
const_read ks k e = rw e

pub insn_read : (ks : List Kind) {o : Opnd} (i : InsnId) {k : Kind} → o ≡ Insn i → k ≡ get_or ks i.0 Empty → k ≡ kind_in ks (opnd_of o)
insn_read ks i e h = rw e h

-- ---- Compute

pub computed : (z : Sizes) (m : List ℕ) (o : Arith) (v w : Opnd) {j k : Kind} {r : Joined} → j ≡ kind_in (kinds_of z m) (opnd_of v) → k ≡ kind_in (kinds_of z m) (opnd_of w)
    → r ≡ arith_of o j k → (i : ℕ) → StateReads z Every (λ L p. rule L p i (Compute o (opnd_of v) (opnd_of w))) m r
unfolding rule
computed z m o v w e h g i = record {
  is = λ L p y _ q. rw (g, e, h, ← kind_of_lem (state_view z y m q) (opnd_of v), ← kind_of_lem (state_view z y m q) (opnd_of w));
}

-- ---- Phi

then_of : (j : Joined) → and_then j Ok ≡ j
then_of (Ok k) = refl
then_of (Err n) = refl

two : (a b : 𝔹) (s : State) (v w : P.Opnd)
    → cond b (join_of (cond a (join_of (Ok Empty) (kind_of s v)) (Ok Empty)) (kind_of s w)) (cond a (join_of (Ok Empty) (kind_of s v)) (Ok Empty))
    ≡ union_all Empty (map (kind_of s) (cond a (v ∷ []) [] ++ cond b (w ∷ []) []))
unfolding union_all
two true true s v w = sym (then_two (union_of Empty (kind_of s v)))
  where
    then_two : (j : Joined) → and_then j (λ u. and_then (union_of u (kind_of s w)) Ok) ≡ and_then j (λ u. union_of u (kind_of s w))
    then_two (Ok k) = then_of (union_of k (kind_of s w))
    then_two (Err n) = refl
two true false s v w = sym (then_of (union_of Empty (kind_of s v)))
two false true s v w = sym (then_of (union_of Empty (kind_of s w)))
two false false s v w = refl

phi-is : (L : Limits) (p : Program) (i b c : ℕ) (v w : P.Opnd) (s : State)
    → rule L p i (Phi b v c w) s ≡ lift (to_answer (union_all Empty (map (kind_of s) (cond (get_or s.live b false) (v ∷ []) [] ++ cond (get_or s.live c false) (w ∷ []) [])))) s
unfolding rule join_all
phi-is L p i b c v w s = refl

pub joined_two : (z : Sizes) (m : List ℕ) (b c : ℕ) (v w : Opnd) {x y : 𝔹} {j r : Joined} → x ≡ get_or (live_of z m) b false → y ≡ get_or (live_of z m) c false
    → j ≡ cond x (join_of (Ok Empty) (kind_in (kinds_of z m) (opnd_of v))) (Ok Empty) → r ≡ cond y (join_of j (kind_in (kinds_of z m) (opnd_of w))) j
    → (i : ℕ) → StateReads z Every (λ L p. rule L p i (Phi b (opnd_of v) c (opnd_of w))) m r
joined_two z m b c v w {x} {y} {j} {r} ex ey ej er i = record {
  is = λ L p at _ q.
      let s = state_view z at m q in
      let e : r ≡ cond (get_or s.live c false)
      (join_of (cond (get_or s.live b false) (join_of (Ok Empty) (kind_of s (opnd_of v))) (Ok Empty)) (kind_of s (opnd_of w)))
      (cond (get_or s.live b false) (join_of (Ok Empty) (kind_of s (opnd_of v))) (Ok Empty)) =
      rw (er, ej, ex, ey, kind_of_lem s (opnd_of v), kind_of_lem s (opnd_of w)) in
      ap (λ (u : Joined). lift (to_answer u) s) (e ∙ two (get_or s.live b false) (get_or s.live c false) s (opnd_of v) (opnd_of w)) ∙ sym (phi-is L p i b c (opnd_of v) (opnd_of w) s);
}

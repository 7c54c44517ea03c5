-- The sort of an instruction by its record's tag, and what its first operands are. Assumes nothing.
use mathlib.Core.Bool.{true, false≢true}
use mathlib.Core.Option.{none, some}
use mathlib.Core.Logic.{◌⊎◌, inl, inr}
use mathlib.Core.Path.{◌≡◌, refl, sym, ap, ◌∙◌}
use mathlib.Core.List.{List}
use Prim.Native.Nat.{ℕ, zero, suc, ◌+◌, ◌*◌, ◌≤◌, ◌<◌}
use native.Mathlib.Omega.{arith}
use Rattle.rules.specs.Actions.{answered}
use Rattle.rules.specs.Values.{classes_in}
use Rattle.rules.specs.Program as R
use Rattle.rules.specs.Program.{Limits, Program, Instruction, GetIvar, SetIvar, about, op_of}
use Rattle.rules.specs.Machine.{visit}
use Rattle.rules.specs.Finished.{good_opnd}
use Rattle.rules.proofs.Exactness.Sums.{less_or}
use Rattle.idle.proofs.Walk.{aside}
use Rattle.idle.proofs.Settled.{settled_idle}
use Rattle.program.specs.declared.Counts.{Counts}
use Rattle.program.specs.declared.Op.{Op}
use Rattle.program.specs.declared.Op.TheVariants as O
use Rattle.program.specs.declared.Opnd.{Opnd}
use Rattle.program.specs.declared.Opnd.TheVariants.{Const, Insn}
use Rattle.program.specs.Rows.{opnd_of, opnd_at, op_from, op_in, nth, name_in}
use Rattle.program.specs.View.{program_view, ReadsInsn}
use Rattle.program.proofs.Forms.{op_13, op-past}
use Rattle.program.proofs.Reading.{operand_read}
use Rattle.records.specs.declared.Record.{Record}
use Rattle.records.specs.Records.{row_of}
use Rattle.state.specs.declared.Sizes.{Sizes}
use Rattle.state.specs.declared.Regs.{Regs}
use Rattle.state.specs.View.{Attrs, kinds_of}
use Rattle.state.specs.View as State
use Rattle.machine.specs.opnds.Reads.{OperandInside, kind_in}
use Rattle.machine.proofs.opnds.Given.{kind_of_lem}
use Rattle.kinds.specs.declared.words.Words.{Words}
use Rattle.kinds.specs.InWords.{words_of}
use Rattle.machine.specs.receivers.Receivers.{ClassesBelow}
use Rattle.sends.proofs.passing.Passes.{objects_from}
use Rattle.machine.specs.Analysed.{MachineFits}
use Rattle.visits.specs.Visits.{operands_of, Visiting}
use Rattle.visits.proofs.Given.{first_good, second_good, opnd_inside, opnd_within}
use Rattle.program.specs.Layout.{opnds_at}
use Rattle.settled.specs.Reads.{name_of, SettledFor}

-- ---- the tags

module _ (L : Limits) (Q : Program) (s : List ℕ) (l : List R.Opnd) (x y : ℕ) where
  tag-aside : (t : ℕ) → t < 13 → aside L Q (op_in s (op_from t x y) l) ≡ true
  unfolding op_from
  tag-aside zero h = refl
  tag-aside (suc zero) h = refl
  tag-aside (suc (suc zero)) h = refl
  tag-aside (suc (suc (suc zero))) h = refl
  tag-aside (suc (suc (suc (suc zero)))) h = refl
  tag-aside (suc (suc (suc (suc (suc zero))))) h = refl
  tag-aside (suc (suc (suc (suc (suc (suc zero)))))) h = refl
  tag-aside (suc (suc (suc (suc (suc (suc (suc zero))))))) h = refl
  tag-aside (suc (suc (suc (suc (suc (suc (suc (suc zero)))))))) h = refl
  tag-aside (suc (suc (suc (suc (suc (suc (suc (suc (suc zero))))))))) h = refl
  tag-aside (suc (suc (suc (suc (suc (suc (suc (suc (suc (suc zero)))))))))) h = refl
  tag-aside (suc (suc (suc (suc (suc (suc (suc (suc (suc (suc (suc zero))))))))))) h = refl
  tag-aside (suc (suc (suc (suc (suc (suc (suc (suc (suc (suc (suc (suc zero)))))))))))) h = refl
  tag-aside (suc (suc (suc (suc (suc (suc (suc (suc (suc (suc (suc (suc (suc n))))))))))))) h = absurd (omega arith)

past_13 : (t x y : ℕ) → 13 < t → O.SetIvar (record { start = x; len = y }) ≡ op_from t x y
past_13 t x y h =
    op-past t x y (λ e. omega arith) (λ e. omega arith) (λ e. omega arith) (λ e. omega arith) (λ e. omega arith) (λ e. omega arith) (λ e. omega arith)
    (λ e. omega arith) (λ e. omega arith) (λ e. omega arith) (λ e. omega arith) (λ e. omega arith) (λ e. omega arith) (λ e. omega arith)

-- ---- an instruction of a program by its record n

module _ {p : List ℕ} {c : Counts} {i : ℕ} (n : Record) (r : ReadsInsn p c i (row_of n)) where
  module _ {s : List ℕ} {P : Program} {v : Attrs} (f : MachineFits s p c P v) where
    op_by : {o : Op} → o ≡ op_from n.tag n.x n.y → op_of P i ≡ op_in s o (operands_of p (row_of n))
    unfolding row_of
    op_by {o} e = ap (λ (Q : Program). op_of Q i) f.is ∙ ap (λ (y : Instruction). y.op) (r.is s) ∙ ap (λ (y : Op). op_in s y (operands_of p (row_of n))) (sym e)

    pub op-aside : (L : Limits) → n.tag < 13 → aside L P (op_of P i) ≡ true
    op-aside L h = ap (aside L P) (op_by refl) ∙ tag-aside L P s (operands_of p (row_of n)) n.x n.y n.tag h

    pub read-op : n.tag ≡ 13 → op_of P i ≡ GetIvar (name_in s (name_of n)) (nth (operands_of p (row_of n)) 0)
    read-op e = op_by (op_13 n.x n.y e)

    pub set-op : 13 < n.tag → op_of P i ≡ SetIvar (name_in s (name_of n)) (nth (operands_of p (row_of n)) 0) (nth (operands_of p (row_of n)) 1)
    set-op h = op_by (past_13 n.tag n.x n.y h)

    -- one that sets no attribute
    pub op_sets : n.tag ≤ 13 → (about (op_of P i)).sets ≡ none
    op_sets h = go (less_or n.tag 13)
      where
        plain : (L : Limits) (o : R.Op) → aside L P o ≡ true → (about o).sets ≡ none
        plain L (R.Ends t) h = refl
        plain L (R.Send k l) h = refl
        plain L (R.Compute o a b) h = refl
        plain L (R.Phi b v d w) h = refl
        plain L (R.Param k) h = refl
        plain L (R.SelfParam k) h = refl
        plain L (R.New k) h = refl
        plain L (R.GetIvar k o) h = refl
        plain L (R.SetIvar k o w) h = absurd (false≢true h)

        go : (n.tag < 13) ⊎ (13 ≤ n.tag) → (about (op_of P i)).sets ≡ none
        go (inl l) = plain R.limits (op_of P i) (op-aside R.limits l)
        go (inr l) = ap (λ (o : R.Op). (about o).sets) (read-op (omega arith))

-- ---- its operands, in a state

abbrev back : R.Opnd → Opnd
back (R.Const k) = Const k
back (R.Insn j) = Insn (record { 0 = j })

back_is : (o : R.Opnd) → opnd_of (back o) ≡ o
back_is (R.Const k) = refl
back_is (R.Insn j) = refl

classes_of_lem : (o : Words) → o.tag ≡ 8 → classes_in (words_of o) ≡ some o.bits
classes_of_lem o e = ap classes_in (objects_from o.bits e)

module _ {s p : List ℕ} {c : Counts} {x : List ℕ} {z : Sizes} {m : List ℕ} {q : Regs} {i : ℕ} (n : Record) (g : Visiting s p c x z m q i (row_of n))
    {v : Attrs} (f : MachineFits s p c (program_view s p c) v) where
  pub range : n.first + n.count ≤ c.opnds
  unfolding row_of
  range = g.read.range

  module _ (e : n.tag ≡ 13) where
    receiver-good : good_opnd (program_view s p c) i (nth (operands_of p (row_of n)) 0) ≡ true
    receiver-good = first_good g (read-op n g.read f e) refl

    pub read-inside : 0 < n.count → OperandInside z (opnd_at p (opnds_at + 2 * n.first + 2 * 0))
    unfolding row_of
    read-inside h = opnd_inside g (opnd_at p (opnds_at + 2 * n.first + 2 * 0)) (operand_read p (opnds_at + 2 * n.first) n.count 0 h refl) receiver-good

    -- the classes of its receiver are the program's
    pub read_below : (o : Words) → words_of o ≡ kind_in (kinds_of z m) (nth (operands_of p (row_of n)) 0) → o.tag ≡ 8 → ClassesBelow z.classes o.bits
    read_below o k t =
        let v = nth (operands_of p (row_of n)) 0 in
        (opnd_within g (back v) (back_is v) receiver-good).classes o.bits (ap (λ (y : R.Opnd). classes_in (kind_in (kinds_of z m) y)) (back_is v) ∙ ap classes_in (sym k) ∙ classes_of_lem o t)

  pub set-inside : 13 < n.tag → 1 < n.count → OperandInside z (opnd_at p (opnds_at + 2 * n.first + 2 * 1))
  unfolding row_of
  set-inside l h = opnd_inside g (opnd_at p (opnds_at + 2 * n.first + 2 * 1)) (operand_read p (opnds_at + 2 * n.first) n.count 1 h refl) (second_good g (set-op n g.read f l) refl)

-- ---- a read whose stamp is its receiver's classes

pub read-passes : {s p : List ℕ} {c : Counts} {i : ℕ} {z : Sizes} {m : List ℕ} (n : Record) (r : ReadsInsn p c i (row_of n)) → n.tag ≡ 13 → (o : Words)
    → words_of o ≡ kind_in (kinds_of z m) (nth (operands_of p (row_of n)) 0) → o.tag ≡ 8
    → SettledFor s p c z m (name_of n) i o.bits → (L : Limits) (P : Program) (v : Attrs) → MachineFits s p c P v → (q : Regs) → visit L P i (State.state_view z v m q) ≡ answered
    (tt, State.state_view z v m q)
read-passes {s} {p} {c} {i} {z} {m} n r e o k t S L P v f q =
    let w = nth (operands_of p (row_of n)) 0 in
    settled_idle L P i (name_in s (name_of n)) w o.bits (State.state_view z v m q) (read-op n r f e)
    (ap classes_in (kind_of_lem (State.state_view z v m q) w ∙ sym k) ∙ classes_of_lem o t) (S.is P v f)

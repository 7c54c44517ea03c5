-- What a finished program gives of the instruction that is visited. Assumes nothing.
use mathlib.Core.Bool.{true, ◌&&◌}
use mathlib.Core.Path.{◌≡◌, sym, ap, ◌∙◌, subst}
use mathlib.Core.List.{List, ◌∷◌}
use Prim.Native.Nat.{ℕ, ◌+◌, ◌*◌, ◌≤◌, ◌<◌}
use native.Mathlib.Omega.{arith}
use borrow.Author.Tests.{ltb-true, leb-true}
use lib.Dec.{eqb, ltb, leb}
use lib.ListN.{length, get_or, get_or-eq_default}
use Rattle.kinds.specs.declared.Kind.{Kind}
use Rattle.kinds.specs.declared.Kind.TheVariants.{Empty, Nil, Num, Truth, Fun, Class, Int, Bool, Objects, Any}
use Rattle.kinds.specs.Kinds.{tag_of, fits_of}
use Rattle.kinds.specs.Heights.{Good}
use Rattle.rules.specs.Lists.{all, to_list}
use Rattle.rules.specs.Values.{function_in, class_in}
use Rattle.rules.specs.Program as R
use Rattle.rules.specs.Program.{Program, Instruction, about, op_of, block_of, function_at, function_of}
use Rattle.rules.specs.Finished.{is_block_of, is_function, is_class, good_opnd, good_op, good_block, good_instruction}
use Rattle.rules.proofs.Exactness.Promise.{and_left, and_right}
use Rattle.program.specs.declared.Counts.{Counts}
use Rattle.program.specs.declared.Op.{Op}
use Rattle.program.specs.declared.Opnd.{Opnd}
use Rattle.program.specs.declared.Opnd.TheVariants.{Const, Insn}
use Rattle.program.specs.declared.Row.{Row}
use Rattle.program.specs.Rows.{opnd_of, nth, op_in}
use Rattle.program.specs.View as P
use Rattle.program.specs.View.{ReadsInsn, ReadsBlock}
use Rattle.program.proofs.Areas.{given-length}
use Rattle.program.proofs.Viewing.{instructions-length, blocks-length, functions-length, classes-length}
use Rattle.state.specs.declared.Sizes.{Sizes}
use Rattle.state.specs.declared.Regs.{Regs}
use Rattle.state.specs.View.{kinds_of, called_of}
use Rattle.machine.specs.opnds.Reads.{OperandInside, kind_in}
use Rattle.machine.specs.receivers.Receivers.{StateMatches, ReceiverWithin}
use Rattle.machine.proofs.receivers.Fine.{within-good}
use Rattle.flows.specs.Flows.{FlowsSound, FlowsKnown}
use Rattle.flows.proofs.Sounds.{sound_of, second}
use Rattle.program.specs.Layout.{opnds_at}
use Rattle.state.specs.declared.State.{State}
use Rattle.visits.specs.Visits.{operands_of, Visiting}
use Rattle.visits.specs.Methods.{VisitOf}
use Rattle.visits.specs.declared.Visited.{Visited}

-- ---- operands

pub operand_none : (p : List ℕ) (row : Row) (j : ℕ) → row.count ≤ j → opnd_of (Const Nil) ≡ nth (operands_of p row) j
operand_none p row j h = sym (get_or-eq_default (operands_of p row) (R.Const Nil) {n = j} (let l = given-length p (opnds_at + 2 * row.first) row.count in omega arith))

inside-good : (P : Program) (z : Sizes) (i : ℕ) (o : Opnd) → i < z.insns → good_opnd P i (opnd_of o) ≡ true → OperandInside z o
inside-good P z i (Const k) h g = tt
inside-good P z i (Insn j) h g = let l = ltb-true j.0 i g in omega arith

-- a constant is no set
const_good : (C : ℕ) (k : Kind) → tag_of k ≤ 5 → Good C k
const_good C Empty h = tt
const_good C Nil h = tt
const_good C (Num n) h = tt
const_good C (Truth t) h = tt
const_good C (Fun f) h = tt
const_good C (Class c) h = tt
const_good C Int h = tt
const_good C Bool h = tt
const_good C (Objects t) h = absurd (omega arith)
const_good C Any h = tt

-- ---- the instruction

-- what the rules of all sorts rely on
pub visiting : (v : Visited) {t : State} (h : VisitOf v.code.now t) → let a = v.code.now in
    Visiting a.program.script.now a.program.words.now a.program.counts a.chains.now t.sizes t.words.now t.regs v.i.0 v.row
visiting v {t} h = record { indexed = h.indexed; steady = h.steady; ready = t.ready; below = let e = h.indexed.sized.insns in omega (arith, v.below); read = v.read }

module _ {s p : List ℕ} {c : Counts} {x : List ℕ} {z : Sizes} {m : List ℕ} {q : Regs} {i : ℕ} {row : Row} (g : Visiting s p c x z m q i row) where
  pub inside : i < c.insns
  inside = omega (arith, g.below, g.indexed.sized.insns)

  known : i < length (P.program_view s p c).instructions
  known = let l = instructions-length s p c.insns in omega (arith, inside)

  good : good_instruction (P.program_view s p c) i ≡ true
  good = g.indexed.suited.finished.instructions i known

  pub matches : StateMatches z p c
  matches = let e = g.indexed.sized in record { ready = g.indexed.ready; functions = e.functions; classes = e.classes; blocks = e.blocks; insns = e.insns }

  -- its op, by its row
  pub op-is : op_of (P.program_view s p c) i ≡ op_in s row.op (operands_of p row)
  op-is = ap (λ (y : Instruction). y.op) (g.read.is s)

  pub op-at : {o : Op} → row.op ≡ o → op_of (P.program_view s p c) i ≡ op_in s o (operands_of p row)
  op-at e = op-is ∙ ap (λ (o : Op). op_in s o (operands_of p row)) e

  all-good : all (good_opnd (P.program_view s p c) i) (about (op_of (P.program_view s p c) i)).operands ≡ true
  unfolding good_instruction
  all-good = and_right (ltb (block_of (P.program_view s p c) i) (length (P.program_view s p c).blocks)) (all (good_opnd (P.program_view s p c) i) (about (op_of (P.program_view s p c) i)).operands)
      (and_left _ (good_op (P.program_view s p c) i (function_of (P.program_view s p c) i) (op_of (P.program_view s p c) i)) good)

  op-good : good_op (P.program_view s p c) i (function_of (P.program_view s p c) i) (op_of (P.program_view s p c) i) ≡ true
  unfolding good_instruction
  op-good = and_right (ltb (block_of (P.program_view s p c) i) (length (P.program_view s p c).blocks) && all (good_opnd (P.program_view s p c) i) (about (op_of (P.program_view s p c) i)).operands)
      (good_op (P.program_view s p c) i (function_of (P.program_view s p c) i) (op_of (P.program_view s p c) i)) good

  -- ---- its operands, of which `o` is one

  module _ {o : R.Op} (e : op_of (P.program_view s p c) i ≡ o) where
    operands-good : all (good_opnd (P.program_view s p c) i) (about o).operands ≡ true
    operands-good = subst (λ (y : R.Op). all (good_opnd (P.program_view s p c) i) (about y).operands ≡ true) e all-good

    pub good_by : good_op (P.program_view s p c) i (function_of (P.program_view s p c) i) o ≡ true
    good_by = subst (λ (y : R.Op). good_op (P.program_view s p c) i (function_of (P.program_view s p c) i) y ≡ true) e op-good

    pub first_good : {v : R.Opnd} {l : List R.Opnd} → (about o).operands ≡ v ∷ l → good_opnd (P.program_view s p c) i v ≡ true
    first_good {v} {l} f =
        and_left (good_opnd (P.program_view s p c) i v) (all (good_opnd (P.program_view s p c) i) l) (subst (λ (y : List R.Opnd). all (good_opnd (P.program_view s p c) i) y ≡ true) f operands-good)

    pub second_good : {v w : R.Opnd} {l : List R.Opnd} → (about o).operands ≡ v ∷ w ∷ l → good_opnd (P.program_view s p c) i w ≡ true
    second_good {v} {w} {l} f =
        and_left (good_opnd (P.program_view s p c) i w) (all (good_opnd (P.program_view s p c) i) l)
        (and_right (good_opnd (P.program_view s p c) i v) (all (good_opnd (P.program_view s p c) i) (w ∷ l))
        (subst (λ (y : List R.Opnd). all (good_opnd (P.program_view s p c) i) y ≡ true) f operands-good))

  pub opnd_inside : (o : Opnd) {v : R.Opnd} → opnd_of o ≡ v → good_opnd (P.program_view s p c) i v ≡ true → OperandInside z o
  opnd_inside o e h = inside-good (P.program_view s p c) z i o g.below (ap (good_opnd (P.program_view s p c) i) e ∙ h)

  pub opnd_within : (o : Opnd) {v : R.Opnd} → opnd_of o ≡ v → good_opnd (P.program_view s p c) i v ≡ true → ReceiverWithin z m o
  opnd_within o {v} e h = within-good z m o (go o (ap (good_opnd (P.program_view s p c) i) e ∙ h))
    where
      go : (o : Opnd) → good_opnd (P.program_view s p c) i (opnd_of o) ≡ true → Good z.classes (kind_in (kinds_of z m) (opnd_of o))
      go (Const k) f =
          const_good z.classes k
          (leb-true (tag_of k) 5 (second (leb 1 (tag_of k)) (leb (tag_of k) 5) (fits_of k)
          (all (is_function (P.program_view s p c)) (to_list (function_in k))) (all (is_class (P.program_view s p c)) (to_list (class_in k))) f))
      go (Insn j) f = subst (λ (n : ℕ). Good n (get_or (kinds_of z m) j.0 Empty)) (sym g.indexed.sized.classes) (g.steady.kinds j.0)

  -- ---- blocks, functions and classes that it names

  block-below : (f b : ℕ) → is_block_of (P.program_view s p c) f b ≡ true → b < z.blocks
  block-below f b h =
      let l = ltb-true b (length (P.program_view s p c).blocks) (and_left (ltb b (length (P.program_view s p c).blocks)) (eqb (function_at (P.program_view s p c) b) f) h) in
      omega (arith, blocks-length p c.blocks, g.indexed.sized.blocks)

  pub jump_below : {b : ℕ} → op_of (P.program_view s p c) i ≡ R.Ends (R.Jump b) → b < z.blocks
  jump_below {b} e = block-below (function_of (P.program_view s p c) i) b (good_by e)

  pub arms-below : {v : R.Opnd} {b d : ℕ} → op_of (P.program_view s p c) i ≡ R.Ends (R.IfTrue v b d) → (b < z.blocks) × (d < z.blocks)
  arms-below {v} {b} {d} e =
      let f = function_of (P.program_view s p c) i in (
        block-below f b (and_left (is_block_of (P.program_view s p c) f b) (is_block_of (P.program_view s p c) f d) (good_by e)),
        block-below f d (and_right (is_block_of (P.program_view s p c) f b) (is_block_of (P.program_view s p c) f d) (good_by e)),
      )

  pub sides_below : {v w : R.Opnd} {b d : ℕ} → op_of (P.program_view s p c) i ≡ R.Phi b v d w → (b < z.blocks) × (d < z.blocks)
  sides_below {v} {w} {b} {d} e =
      let f = function_of (P.program_view s p c) i in (
        block-below f b (and_left (is_block_of (P.program_view s p c) f b) (is_block_of (P.program_view s p c) f d) (good_by e)),
        block-below f d (and_right (is_block_of (P.program_view s p c) f b) (is_block_of (P.program_view s p c) f d) (good_by e)),
      )

  pub callee-below : {f : ℕ} {l : List R.Opnd} → op_of (P.program_view s p c) i ≡ R.Send (R.Static f) l → f < c.functions
  callee-below {f} e = let l = ltb-true f (length (P.program_view s p c).functions) (good_by e) in omega (arith, functions-length s p c.functions)

  class-below : (k : ℕ) → is_class (P.program_view s p c) k ≡ true → k < 64
  class-below k h =
      let l = ltb-true k (length (P.program_view s p c).classes) (and_right (leb 4 k) (ltb k (length (P.program_view s p c).classes)) h) in
      omega (arith, classes-length s p c.classes, g.indexed.ready.classes)

  pub new-below : {k : ℕ} → op_of (P.program_view s p c) i ≡ R.New k → k < 64
  new-below {k} e = class-below k (good_by e)

  pub self-below : {k : ℕ} → op_of (P.program_view s p c) i ≡ R.SelfParam k → k < 64
  self-below {k} e = class-below k (and_left (is_class (P.program_view s p c) k) _ (and_left _ _ (good_by e)))

  -- ---- its function

  pub function-is : {f : ℕ} → ReadsBlock p c row.block.0 f → function_of (P.program_view s p c) i ≡ f
  function-is b = ap (λ (y : Instruction). function_at (P.program_view s p c) y.block) (g.read.is s) ∙ b.is s

  pub function-below : {f : ℕ} → ReadsBlock p c row.block.0 f → f < z.functions
  unfolding good_block
  function-below {f} b =
      let h = g.indexed.suited.finished.blocks row.block.0 (let l = blocks-length p c.blocks in omega (arith, g.read.inside)) in
      let l = ltb-true (function_at (P.program_view s p c) row.block.0) (length (P.program_view s p c).functions)
      (and_left (is_function (P.program_view s p c) (function_at (P.program_view s p c) row.block.0)) _ (and_left _ _ h)) in
      omega (arith, b.is s, functions-length s p c.functions, g.indexed.sized.functions)

  -- ---- the callers

  pub sound : FlowsSound (P.program_view s p c) z.insns (called_of z m)
  sound =
      subst (λ (n : ℕ). FlowsSound (P.program_view s p c) n (called_of z m)) (instructions-length s p c.insns ∙ sym g.indexed.sized.insns)
      (sound_of g.indexed.limits (P.program_view s p c) (called_of z m) g.indexed.suited.finished g.steady.calls)

  pub callers-known : FlowsKnown p c z (called_of z m)
  callers-known = record { script = s; ready = g.indexed.ready; sizes = g.indexed.sized.insns; sound = sound }

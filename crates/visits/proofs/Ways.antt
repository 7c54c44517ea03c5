-- The rule of each sort, from the promises of what it calls. Assumes nothing.
use mathlib.Core.Bool.{true}
use mathlib.Core.Logic.{◌⊎◌, inl, inr}
use mathlib.Core.Path.{◌≡◌, refl, sym, ap, ◌∙◌, subst}
use mathlib.Core.List.{List}
use Prim.Native.Nat.{ℕ, ◌+◌, ◌≤◌, ◌<◌}
use native.Mathlib.Omega.{arith}
use lib.ListN.{drop}
use Rattle.kinds.specs.declared.Arith.{Arith}
use Rattle.kinds.specs.declared.Kind.{Kind}
use Rattle.kinds.specs.declared.Kind.TheVariants.{Empty, Objects}
use Rattle.kinds.specs.Union.{Joined}
use Rattle.ids.specs.Sets.{one_of}
use Rattle.ids.specs.declared.BlockId.{BlockId}
use Rattle.ids.specs.declared.ClassId.{ClassId}
use Rattle.ids.specs.declared.FunId.{FunId}
use Rattle.rules.specs.Actions.{Answer, answered, if_answered}
use Rattle.rules.specs.Lists.{has}
use Rattle.rules.specs.Program as R
use Rattle.rules.specs.Program.{Limits, Program, about, op_of}
use Rattle.rules.specs.Machine.{State, marked, push_block, leave, rule}
use Rattle.program.specs.declared.Counts.{Counts}
use Rattle.program.specs.declared.Name.{Name}
use Rattle.program.specs.declared.Op.{Op}
use Rattle.program.specs.declared.Op.TheVariants as O
use Rattle.program.specs.declared.Opnd.{Opnd}
use Rattle.program.specs.declared.Row.{Row}
use Rattle.program.specs.Rows.{opnd_of, nth, name_in, listed_in}
use Rattle.program.specs.View as P
use Rattle.program.specs.View.{ReadsBlock}
use Rattle.state.specs.declared.Sizes.{Sizes}
use Rattle.state.specs.declared.Regs.{Regs}
use Rattle.state.specs.Acted as W
use Rattle.state.specs.Acted.{Acted}
use Rattle.state.specs.View.{Attrs, called_of, state_view}
use Rattle.state.specs.Changes.{StateDid, Every}
use Rattle.machine.specs.opnds.Reads.{OperandInside, StateReads, FunctionIs}
use Rattle.flows.specs.Flows.{ParamIs}
use Rattle.machine.specs.receivers.Receivers.{ReceiverWithin}
use Rattle.machine.proofs.receivers.Fine.{within-kept}
use Rattle.sends.proofs.passing.Given.{args_are}
use Rattle.flows.specs.returning.Returning.{call_kind, Backs, ReturnAmong, BackIn}
use Rattle.flows.proofs.returning.Given.{backs_of, back_in}
use Rattle.flows.proofs.returning.Passes.{among-all}
use Rattle.attributes.specs.Attributes.{ProgramIs, mark_reads, read_ivars, set_ivars}
use Rattle.attributes.proofs.Rules.{get_rule, set-rule, marked-kinds}
use Rattle.sends.specs.Sends.{call_static, send_all, Calling, CallsIn}
use Rattle.sends.proofs.Rules.{static_rule, dynamic_rule}
use Rattle.sends.proofs.Given.{calling_of}
use Rattle.machine.specs.Analysed.{MachineFits, TablesOf}
use Rattle.machine.proofs.States.{attrs, attrs-fit}
use Rattle.attributes.proofs.Found.{program-is}
use Rattle.visits.specs.Visits.{Ruled, On, Refused, nothing_of, kind_of, Rules, rule_of, operands_of, Visiting}
use Rattle.visits.proofs.Ruling.{did-fits, reads-fits, acted, valued, both, stopped}
use Rattle.visits.proofs.Alone.{static_called}
use Rattle.visits.proofs.Given as goal

-- ---- the rules' rules, in the parts that the code has

ends_is : (L : Limits) (p : Program) (i : ℕ) (t : R.Terminator) (s : State) → rule L p i (R.Ends t) s ≡ if_answered (leave L p i t s) (λ r. answered (Empty, r.1))
unfolding rule
ends_is L p i t s = refl

jump_is : (L : Limits) (p : Program) (i b : ℕ) (s : State) → leave L p i (R.Jump b) s ≡ push_block L p b s
unfolding leave
jump_is L p i b s = refl

new_is : (L : Limits) (p : Program) (i k : ℕ) (s : State) → rule L p i (R.New k) s ≡ answered (Objects (one_of k), s)
unfolding rule
new_is L p i k s = refl

self-is : (L : Limits) (p : Program) (i k : ℕ) (s : State) → rule L p i (R.SelfParam k) s ≡ answered (Objects (one_of k), s)
unfolding rule
self-is L p i k s = refl

call-is : (L : Limits) (p : Program) (i f : ℕ) (l : List R.Opnd) (s : State) → rule L p i (R.Send (R.Static f) l) s ≡ if_answered (call_static L p i f s) (λ r. call_kind L p i r.1)
unfolding call_kind
call-is L p i f l s = static_rule L p i f l s

send-is : (L : Limits) (p : Program) (i : ℕ) (r : R.Opnd) (n : R.Name) (l : List R.Opnd) (s : State)
    → rule L p i (R.Send (R.Dynamic r n) l) s ≡ if_answered (send_all L p i n r s) (λ r. call_kind L p i r.1)
unfolding call_kind
send-is L p i r n l s = dynamic_rule L p i r n l s

module _ {s p : List ℕ} {c : Counts} {x : List ℕ} {z : Sizes} {m : List ℕ} {q : Regs} {i : ℕ} {row : Row} (g : Visiting s p c x z m q i row) where
  -- ---- the op of a program that fits

  op_of_lem : {o : R.Op} → op_of (P.program_view s p c) i ≡ o → (P : Program) (v : Attrs) → MachineFits s p c P v → op_of P i ≡ o
  op_of_lem e P v f = ap (λ (Q : Program). op_of Q i) f.is ∙ e

  by_op : {o : R.Op} → op_of (P.program_view s p c) i ≡ o → (L : Limits) (P : Program) (v : Attrs) → MachineFits s p c P v → (t : State) → rule_of i L P t ≡ rule L P i o t
  by_op e L P v f t = ap (λ (y : R.Op). rule L P i y t) (op_of_lem e P v f)

  reads-rule : {fits : Program → Attrs → Type 0} {o : R.Op} {j : Joined} → op_of (P.program_view s p c) i ≡ o → ((P : Program) (v : Attrs) → MachineFits s p c P v → fits P v)
      → StateReads z fits (λ L P. rule L P i o) m j
      → StateReads z (MachineFits s p c) (rule_of i) m j
  reads-rule e h d = record { is = λ L P v f a. d.is L P v (h P v f) a ∙ sym (by_op e L P v f (state_view z v m a)) }

  every : (P : Program) (v : Attrs) → MachineFits s p c P v → Every P v
  every P v f = tt

  -- ---- what ends a block

  pub jump_way : {b : ℕ} {w : List ℕ} {a : Acted} {r : Ruled} → op_of (P.program_view s p c) i ≡ R.Ends (R.Jump b) → StateDid z Every (λ L P. push_block L P b) m q w a → r ≡ nothing_of a
      → Rules z (MachineFits s p c) (rule_of i) m q w r
  jump_way {b} e d h =
      acted z (MachineFits s p c) (rule_of i) m q (did-fits every d) h
      (λ L P v f t. by_op e L P v f t ∙ ends_is L P i (R.Jump b) t ∙ ap (λ (y : Answer (Unit {0} × State)). if_answered y (λ r. answered (Empty, r.1))) (jump_is L P i b t))

  pub leave_way : {k : R.Terminator} {fits : Program → Attrs → Type 0} {w : List ℕ} {a : Acted} {r : Ruled} → op_of (P.program_view s p c) i ≡ R.Ends k
      → ((P : Program) (v : Attrs) → MachineFits s p c P v → fits P v)
      → StateDid z fits (λ L P. leave L P i k) m q w a → r ≡ nothing_of a → Rules z (MachineFits s p c) (rule_of i) m q w r
  leave_way {k} e y d h = acted z (MachineFits s p c) (rule_of i) m q (did-fits y d) h (λ L P v f t. by_op e L P v f t ∙ ends_is L P i k t)

  choice_op : (o : Opnd) {t e : BlockId} → row.op ≡ O.IfTrue t e → opnd_of o ≡ nth (operands_of p row) 0 → op_of (P.program_view s p c) i ≡ R.Ends (R.IfTrue (opnd_of o) t.0 e.0)
  choice_op o {t} {e} h k = goal.op-at g h ∙ ap (λ (v : R.Opnd). R.Ends (R.IfTrue v t.0 e.0)) (sym k)

  pub choice_needs : (o : Opnd) {t e : BlockId} → row.op ≡ O.IfTrue t e → opnd_of o ≡ nth (operands_of p row) 0 → OperandInside z o × ((t.0 < z.blocks) × (e.0 < z.blocks))
  choice_needs o h k = (goal.opnd_inside g o refl (goal.first_good g (choice_op o h k) refl), goal.arms-below g (choice_op o h k))

  pub choice_way : (o : Opnd) {t e : BlockId} {w : List ℕ} {a : Acted} {r : Ruled} → row.op ≡ O.IfTrue t e → opnd_of o ≡ nth (operands_of p row) 0
      → ((j : ℕ) → StateDid z Every (λ L P. leave L P j (R.IfTrue (opnd_of o) t.0 e.0)) m q w a) → r ≡ nothing_of a → Rules z (MachineFits s p c) (rule_of i) m q w r
  choice_way o h k d y = leave_way (choice_op o h k) every (d i) y

  return_op : (o : Opnd) → row.op ≡ O.Return → opnd_of o ≡ nth (operands_of p row) 0 → op_of (P.program_view s p c) i ≡ R.Ends (R.Return (opnd_of o))
  return_op o h k = goal.op-at g h ∙ ap (λ (v : R.Opnd). R.Ends (R.Return v)) (sym k)

  pub return_needs : (o : Opnd) {f : ℕ} → row.op ≡ O.Return → opnd_of o ≡ nth (operands_of p row) 0 → ReadsBlock p c row.block.0 f → OperandInside z o × (f < z.functions)
  return_needs o h k b = (goal.opnd_inside g o refl (goal.first_good g (return_op o h k) refl), goal.function-below g b)

  pub return_way : (o : Opnd) {f : ℕ} {w : List ℕ} {a : Acted} {r : Ruled} → row.op ≡ O.Return → opnd_of o ≡ nth (operands_of p row) 0 → ReadsBlock p c row.block.0 f
      → ((j : ℕ) → StateDid z (FunctionIs j f) (λ L P. leave L P j (R.Return (opnd_of o))) m q w a) → r ≡ nothing_of a → Rules z (MachineFits s p c) (rule_of i) m q w r
  return_way o h k b d y = leave_way (return_op o h k) (λ P v t. record { is = ap (λ (Q : Program). R.function_of Q i) t.is ∙ goal.function-is g b }) (d i) y

  -- ---- calls

  pub call_calling : has (about (op_of (P.program_view s p c) i)).callee ≡ true → Calling z p c x i
  call_calling h =
      let a = g.indexed in
      calling_of a.limits s p c z x i a.ready a.suited.finished a.index a.sized.functions a.sized.blocks a.sized.insns (goal.inside g) h

  pub call_backs : Backs p c z x
  call_backs = let a = g.indexed in backs_of a.limits s p c z a.suited.finished a.sized.insns x a.ready a.index

  back_fits : (w : List ℕ) (P : Program) (v : Attrs) → MachineFits s p c P v → BackIn p c z (called_of z w) i 0 z.functions P v
  back_fits w P v f =
      let a = g.indexed in
      subst (λ (Q : Program). BackIn p c z (called_of z w) i 0 z.functions Q v) (sym f.is)
      (back_in a.limits s p c z a.suited.finished a.sized.insns (called_of z w) i 0 z.functions v (among-all z w i))

  call-op : {f : FunId} → row.op ≡ O.SendStatic f → op_of (P.program_view s p c) i ≡ R.Send (R.Static f.0) (operands_of p row)
  call-op h = goal.op-at g h

  pub call_needs : {f : FunId} → row.op ≡ O.SendStatic f → Calling z p c x i × (f.0 < c.functions)
  call_needs h = (call_calling (ap (λ (y : R.Op). has (about y).callee) (call-op h)), goal.callee-below g (call-op h))

  call_fits : {f : FunId} → row.op ≡ O.SendStatic f → (P : Program) (v : Attrs) → MachineFits s p c P v → CallsIn s p c i row.count P v
  call_fits h P v t = record {
    program = t.is;
    call = ap (λ (y : R.Op). has (about y).callee) (call-op h);
    args = args_are s p c i g.read (sym (ap (λ (o : Op). listed_in o row.count) h));
  }

  -- after it, i has called f alone
  call-among : {f : FunId} {w : List ℕ} {a : Acted} {b : Regs} → row.op ≡ O.SendStatic f → StateDid z (CallsIn s p c i row.count) (λ L P. call_static L P i f.0) m q w a → a ≡ W.On b
      → ReturnAmong (called_of z w) i f.0 1
  call-among {f} {w} {a} {b} h d e =
      let x = g.indexed in
      let L = x.limits in
      let v = attrs s p c L x.suited in
      let d1 = rw e at d in
      let y = sym (d1.is L x.suited.room.worklist (P.program_view s p c) v (call_fits h (P.program_view s p c) v (attrs-fit s p c L x.suited))) in
      record { only = λ k l. let o = alone k (static_called L (P.program_view s p c) i f.0 (state_view z v m q) y k l) in (omega arith, omega arith) }
    where
      alone : (k : ℕ) → (marked (called_of z m) k i ≡ true) ⊎ (k ≡ f.0) → k ≡ f.0
      alone k (inl l) = g.steady.alone k i f.0 (operands_of p row) l (call-op h)
      alone k (inr l) = l

  alone-fits : {f : FunId} (w : List ℕ) → ReturnAmong (called_of z w) i f.0 1 → (P : Program) (v : Attrs) → MachineFits s p c P v → BackIn p c z (called_of z w) i f.0 1 P v
  alone-fits {f} w t P v k =
      let a = g.indexed in
      subst (λ (Q : Program). BackIn p c z (called_of z w) i f.0 1 Q v) (sym k.is) (back_in a.limits s p c z a.suited.finished a.sized.insns (called_of z w) i f.0 1 v t)

  pub call-room : {f : FunId} → row.op ≡ O.SendStatic f → f.0 + 1 ≤ z.functions
  call-room h = let l = goal.callee-below g (call-op h) in omega (arith, g.indexed.sized.functions)

  pub call_way : {f : FunId} {w : List ℕ} {a : Acted} {b : Regs} {j : Joined} {r : Ruled} → row.op ≡ O.SendStatic f
      → ((t : List ℕ) → StateDid z (CallsIn t p c i row.count) (λ L P. call_static L P i f.0) m q w a) → a ≡ W.On b
      → StateReads z (BackIn p c z (called_of z w) i f.0 1) (λ L P. call_kind L P i) w j → r ≡ kind_of b j → Rules z (MachineFits s p c) (rule_of i) m q w r
  call_way {f} {w} h d e k y =
      both z (MachineFits s p c) (rule_of i) m q (λ L P. call_kind L P i) (λ L P v t u. by_op (call-op h) L P v t u ∙ call-is L P i f.0 (operands_of p row) u)
      (did-fits (call_fits h) (d s)) e (reads-fits (alone-fits {f = f} w (call-among h (d s) e)) k) y

  pub call-stop : {f : FunId} {w : List ℕ} {a : Acted} {n : ℕ} → row.op ≡ O.SendStatic f
      → ((t : List ℕ) → StateDid z (CallsIn t p c i row.count) (λ L P. call_static L P i f.0) m q w a) → a ≡ W.Refused n → Rules z (MachineFits s p c) (rule_of i) m q w (Refused n)
  call-stop {f} h d e =
      stopped z (MachineFits s p c) (rule_of i) m q (λ L P. call_kind L P i) (λ L P v t u. by_op (call-op h) L P v t u ∙ call-is L P i f.0 (operands_of p row) u) (did-fits (call_fits h) (d s)) e

  module _ {n : Name} (o : Opnd) {k : ℕ} (h : row.op ≡ O.SendDynamic n) (eo : opnd_of o ≡ nth (operands_of p row) 0) (ek : k ≡ listed_in row.op row.count) where
    send-op : op_of (P.program_view s p c) i ≡ R.Send (R.Dynamic (opnd_of o) (name_in s n)) (drop 1 (operands_of p row))
    send-op = goal.op-at g h ∙ ap (λ (v : R.Opnd). R.Send (R.Dynamic v (name_in s n)) (drop 1 (operands_of p row))) (sym eo)

    pub send-needs : Calling z p c x i × OperandInside z o
    send-needs = (call_calling (ap (λ (y : R.Op). has (about y).callee) send-op), goal.opnd_inside g o refl (goal.first_good g send-op refl))

    send-fits : (P : Program) (v : Attrs) → MachineFits s p c P v → CallsIn s p c i k P v
    send-fits P v t = record { program = t.is; call = ap (λ (y : R.Op). has (about y).callee) send-op; args = args_are s p c i g.read ek }

    pub send_way : {w : List ℕ} {a : Acted} {b : Regs} {j : Joined} {r : Ruled} → StateDid z (CallsIn s p c i k) (λ L P. send_all L P i (name_in s n) (opnd_of o)) m q w a → a ≡ W.On b
        → StateReads z (BackIn p c z (called_of z w) i 0 z.functions) (λ L P. call_kind L P i) w j → r ≡ kind_of b j → Rules z (MachineFits s p c) (rule_of i) m q w r
    send_way {w} d e l y =
        both z (MachineFits s p c) (rule_of i) m q (λ L P. call_kind L P i) (λ L P v t u. by_op send-op L P v t u ∙ send-is L P i (opnd_of o) (name_in s n) _ u) (did-fits send-fits d) e
        (reads-fits (back_fits w) l) y

    pub send-stop : {w : List ℕ} {a : Acted} {e : ℕ} → StateDid z (CallsIn s p c i k) (λ L P. send_all L P i (name_in s n) (opnd_of o)) m q w a → a ≡ W.Refused e
        → Rules z (MachineFits s p c) (rule_of i) m q w (Refused e)
    send-stop d e = stopped z (MachineFits s p c) (rule_of i) m q (λ L P. call_kind L P i) (λ L P v t u. by_op send-op L P v t u ∙ send-is L P i (opnd_of o) (name_in s n) _ u) (did-fits send-fits d) e

  -- ---- kinds

  module _ (v w : Opnd) (ev : opnd_of v ≡ nth (operands_of p row) 0) (ew : opnd_of w ≡ nth (operands_of p row) 1) where
    compute_op : {o : Arith} → row.op ≡ O.Compute o → op_of (P.program_view s p c) i ≡ R.Compute o (opnd_of v) (opnd_of w)
    compute_op {o} h = goal.op-at g h ∙ ap (λ (y : R.Opnd). R.Compute o y (nth (operands_of p row) 1)) (sym ev) ∙ ap (R.Compute o (opnd_of v)) (sym ew)

    pub compute_needs : {o : Arith} → row.op ≡ O.Compute o → OperandInside z v × OperandInside z w
    compute_needs h = (goal.opnd_inside g v refl (goal.first_good g (compute_op h) refl), goal.opnd_inside g w refl (goal.second_good g (compute_op h) refl))

    pub compute_way : {o : Arith} {j : Joined} {r : Ruled} → row.op ≡ O.Compute o → ((n : ℕ) → StateReads z Every (λ L P. rule L P n (R.Compute o (opnd_of v) (opnd_of w))) m j) → r ≡ kind_of q j
        → Rules z (MachineFits s p c) (rule_of i) m q m r
    compute_way h d y = valued z (MachineFits s p c) (rule_of i) m q g.ready (reads-rule (compute_op h) every (d i)) y

    phi-op : {b e : BlockId} → row.op ≡ O.Phi b e → op_of (P.program_view s p c) i ≡ R.Phi b.0 (opnd_of v) e.0 (opnd_of w)
    phi-op {b} {e} h = goal.op-at g h ∙ ap (λ (y : R.Opnd). R.Phi b.0 y e.0 (nth (operands_of p row) 1)) (sym ev) ∙ ap (R.Phi b.0 (opnd_of v) e.0) (sym ew)

    pub phi-needs : {b e : BlockId} → row.op ≡ O.Phi b e → (OperandInside z v × OperandInside z w) × ((b.0 < z.blocks) × (e.0 < z.blocks))
    phi-needs h = ((goal.opnd_inside g v refl (goal.first_good g (phi-op h) refl), goal.opnd_inside g w refl (goal.second_good g (phi-op h) refl)), goal.sides_below g (phi-op h))

    pub phi_way : {b e : BlockId} {j : Joined} {r : Ruled} → row.op ≡ O.Phi b e → ((n : ℕ) → StateReads z Every (λ L P. rule L P n (R.Phi b.0 (opnd_of v) e.0 (opnd_of w))) m j)
        → r ≡ kind_of q j → Rules z (MachineFits s p c) (rule_of i) m q m r
    phi_way h d y = valued z (MachineFits s p c) (rule_of i) m q g.ready (reads-rule (phi-op h) every (d i)) y

    -- ---- a setting

    set-op : {n : Name} → row.op ≡ O.SetIvar n → op_of (P.program_view s p c) i ≡ R.SetIvar (name_in s n) (opnd_of v) (opnd_of w)
    set-op {n} h = goal.op-at g h ∙ ap (λ (y : R.Opnd). R.SetIvar (name_in s n) y (nth (operands_of p row) 1)) (sym ev) ∙ ap (R.SetIvar (name_in s n) (opnd_of v)) (sym ew)

    pub set-needs : {n : Name} → row.op ≡ O.SetIvar n → (OperandInside z v × OperandInside z w) × ReceiverWithin z m v
    set-needs h = (
      (goal.opnd_inside g v refl (goal.first_good g (set-op h) refl), goal.opnd_inside g w refl (goal.second_good g (set-op h) refl)),
      goal.opnd_within g v refl (goal.first_good g (set-op h) refl),
    )

    pub set_way : {n : Name} {u : List ℕ} {a : Acted} {r : Ruled} → row.op ≡ O.SetIvar n → StateDid z (ProgramIs s p c) (λ L P. set_ivars L P (name_in s n) (opnd_of v) (opnd_of w)) m q u a
        → r ≡ nothing_of a
        → Rules z (MachineFits s p c) (rule_of i) m q u r
    set_way {n} h d y =
        acted z (MachineFits s p c) (rule_of i) m q (did-fits program-is d) y (λ L P t f k. by_op (set-op h) L P t f k ∙ set-rule L P i (name_in s n) (opnd_of v) (opnd_of w) k)

  pub param_way : {n f : ℕ} {j : Joined} {r : Ruled} → row.op ≡ O.Param n → ReadsBlock p c row.block.0 f
      → ((k : ℕ) → StateReads z (ParamIs p c z (called_of z m) k f n) (λ L P. rule L P k (R.Param n)) m j) → r ≡ kind_of q j → Rules z (MachineFits s p c) (rule_of i) m q m r
  param_way {n} {f} h b d y =
      valued z (MachineFits s p c) (rule_of i) m q g.ready
      (reads-rule (goal.op-at g h) (λ P v t. record { script = s; program = t.is; sound = goal.sound g; function = goal.function-is g b; op = goal.op-at g h }) (d i)) y

  object_way : (k : ℕ) {o : R.Op} → op_of (P.program_view s p c) i ≡ o → ((L : Limits) (P : Program) (t : State) → rule L P i o t ≡ answered (Objects (one_of k), t))
      → Rules z (MachineFits s p c) (rule_of i) m q m (On q (Objects (one_of k)))
  object_way k e h = record { is = λ L room P v f. sym (by_op e L P v f (state_view z v m q) ∙ h L P (state_view z v m q)); ok = record { ready = g.ready; count = refl } }

  pub new_way : {k : ClassId} {o : Kind} → row.op ≡ O.New k → o ≡ Objects (one_of k.0) → Rules z (MachineFits s p c) (rule_of i) m q m (On q o)
  new_way {k} h e = rw e (object_way k.0 (goal.op-at g h) (λ L P t. new_is L P i k.0 t))

  pub self_way : {k : ClassId} {o : Kind} → row.op ≡ O.SelfParam k → o ≡ Objects (one_of k.0) → Rules z (MachineFits s p c) (rule_of i) m q m (On q o)
  self_way {k} h e = rw e (object_way k.0 (goal.op-at g h) (λ L P t. self-is L P i k.0 t))

  -- ---- a reading

  module _ {n : Name} (o : Opnd) (h : row.op ≡ O.GetIvar n) (eo : opnd_of o ≡ nth (operands_of p row) 0) where
    get_op : op_of (P.program_view s p c) i ≡ R.GetIvar (name_in s n) (opnd_of o)
    get_op = goal.op-at g h ∙ ap (R.GetIvar (name_in s n)) (sym eo)

    pub get_needs : OperandInside z o × ReceiverWithin z m o
    get_needs = (goal.opnd_inside g o refl (goal.first_good g get_op refl), goal.opnd_within g o refl (goal.first_good g get_op refl))

    pub get_within : {w : List ℕ} {a : Acted} {b : Regs} → StateDid z Every (λ L P. mark_reads i (opnd_of o)) m q w a → a ≡ W.On b → ReceiverWithin z w o
    get_within d e = within-kept (marked-kinds i o (rw e at d)) get_needs.1

    pub get_way : {w : List ℕ} {a : Acted} {b : Regs} {j : Joined} {r : Ruled} → StateDid z Every (λ L P. mark_reads i (opnd_of o)) m q w a → a ≡ W.On b
        → StateReads z (ProgramIs s p c) (λ L P. read_ivars L P (name_in s n) (opnd_of o)) w j → r ≡ kind_of b j → Rules z (MachineFits s p c) (rule_of i) m q w r
    get_way d e k y =
        both z (MachineFits s p c) (rule_of i) m q (λ L P. read_ivars L P (name_in s n) (opnd_of o)) (λ L P v f t. by_op get_op L P v f t ∙ get_rule L P i (name_in s n) (opnd_of o) t)
        (did-fits every d) e (reads-fits program-is k) y

    pub get_stop : {w : List ℕ} {a : Acted} {e : ℕ} → StateDid z Every (λ L P. mark_reads i (opnd_of o)) m q w a → a ≡ W.Refused e → Rules z (MachineFits s p c) (rule_of i) m q w (Refused e)
    get_stop d e =
        stopped z (MachineFits s p c) (rule_of i) m q (λ L P. read_ivars L P (name_in s n) (opnd_of o))
        (λ L P v f t. by_op get_op L P v f t ∙ get_rule L P i (name_in s n) (opnd_of o) t) (did-fits every d)
        e

-- ---- the visit

pub fits-tables : {s p : List ℕ} {c : Counts} (P : Program) (v : Attrs) → MachineFits s p c P v → TablesOf p c P v
fits-tables {s} P v f = record { script = s; is = f.is }

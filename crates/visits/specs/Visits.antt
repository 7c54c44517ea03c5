-- What the rule of an instruction promises: what it sets off, and the kind that the instruction has now. Assumes nothing.
use Rattle.std.specs.Prelude.{◌≡◌, List, map, ℕ, ◌+◌, ◌*◌, ◌<◌, Ok, Err}
use Rattle.refusals.specs.Refusals.{number_of as question_of}
use Rattle.kinds.specs.declared.Kind.{Kind}
use Rattle.kinds.specs.declared.Kind.TheVariants.{Empty}
use Rattle.kinds.specs.Union.{Joined}
use Rattle.rules.specs.Actions.{Answer, answered, refused}
use Rattle.rules.specs.Program as R
use Rattle.rules.specs.Program.{Limits, Program, op_of}
use Rattle.rules.specs.Machine.{State, Acts, rule}
use Rattle.program.specs.declared.Counts.{Counts}
use Rattle.program.specs.declared.Row.{Row}
use Rattle.program.specs.Rows.{opnds_in, opnd_of}
use Rattle.program.specs.View.{ReadsInsn}
use Rattle.state.specs.declared.Sizes.{Sizes}
use Rattle.state.specs.declared.Regs.{Regs}
use Rattle.state.specs.Acted as W
use Rattle.state.specs.Acted.{Acted}
use Rattle.state.specs.View.{Attrs, state_view, StateReady}
use Rattle.state.specs.Changes.{StateAfter}
use Rattle.machine.specs.Analysed.{Indexed, Steady}
use Rattle.memory.specs.Layout.{worklist_most}
use Rattle.program.specs.Layout.{opnds_at}

-- what a rule comes to: the registers after it and the instruction's kind, or the number of a refusal
pub data Ruled : Type 0 where
  On : Regs → Kind → Ruled
  Refused : ℕ → Ruled

-- a change with no kind; registers with a kind
abbrev pub nothing_of : Acted → Ruled
nothing_of (W.On q) = On q Empty
nothing_of (W.Refused n) = Refused n

abbrev pub kind_of : Regs → Joined → Ruled
kind_of q (Ok k) = On q k
kind_of q (Err e) = Refused (question_of e)

abbrev pub ruled : Sizes → Attrs → List ℕ → Ruled → Answer (Kind × State)
ruled z v m (On q k) = answered (k, state_view z v m q)
ruled z v m (Refused n) = refused n

abbrev pub ReadyRuled : Sizes → Regs → List ℕ → Ruled → Type 0
ReadyRuled z q w (On r k) = StateAfter z q w r
ReadyRuled z q w (Refused n) = Unit {0}

-- an action that gives a kind, as `Did` of the state has one that gives none
pub record Rules (z : Sizes) (fits : Program → Attrs → Type 0) (f : Limits → Program → Acts Kind) (m : List ℕ) (q : Regs) (w : List ℕ) (r : Ruled) : Type 0 where
  pub is : (L : Limits) → L.worklist ≡ worklist_most → (P : Program) (v : Attrs) → fits P v → ruled z v w r ≡ f L P (state_view z v m q)
  pub ok : ReadyRuled z q w r

-- the rule of instruction i
abbrev pub rule_of : ℕ → Limits → Program → Acts Kind
rule_of i L P = rule L P i (op_of P i)

-- the operands of a row
abbrev pub operands_of : List ℕ → Row → List R.Opnd
operands_of p row = map opnd_of (opnds_in p (opnds_at + 2 * row.first) row.count)

-- what the rules of all sorts may rely on: row is that of instruction i
pub record Visiting (s p : List ℕ) (c : Counts) (x : List ℕ) (z : Sizes) (m : List ℕ) (q : Regs) (i : ℕ) (row : Row) : Type 0 where
  pub indexed : Indexed s p c x z
  pub steady : Steady s p c z m
  pub ready : StateReady z m q
  pub below : i < z.insns
  pub read : ReadsInsn p c i row

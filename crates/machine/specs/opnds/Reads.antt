-- An operand's kind, and what a rule gives that only reads the state. Assumes nothing.
use Rattle.std.specs.Prelude.{◌≡◌, List, ℕ, ◌<◌, get_or}
use Rattle.kinds.specs.declared.Kind.{Kind}
use Rattle.kinds.specs.declared.Kind.TheVariants.{Empty}
use Rattle.kinds.specs.Union.{Joined}
use Rattle.rules.specs.Actions.{lift}
use Rattle.rules.specs.Values.{to_answer}
use Rattle.rules.specs.Program as P
use Rattle.rules.specs.Program.{Limits, Program, function_of}
use Rattle.rules.specs.Machine.{Acts}
use Rattle.program.specs.declared.Opnd.{Opnd}
use Rattle.program.specs.declared.Opnd.TheVariants.{Const, Insn}
use Rattle.state.specs.declared.Sizes.{Sizes}
use Rattle.state.specs.declared.Regs.{Regs}
use Rattle.state.specs.View.{Attrs, state_view}

-- an operand that is a result is one of the program's instructions
abbrev pub OperandInside : Sizes → Opnd → Type 0
OperandInside z (Const k) = Unit {0}
OperandInside z (Insn i) = i.0 < z.insns

-- an operand's kind, by a list of the instructions' kinds
abbrev pub kind_in : List Kind → P.Opnd → Kind
kind_in ks (P.Const k) = k
kind_in ks (P.Insn i) = get_or ks i Empty

-- an action that gives a kind, or refuses, and leaves the state
pub record StateReads (z : Sizes) (fits : Program → Attrs → Type 0) (f : Limits → Program → Acts Kind) (m : List ℕ) (j : Joined) : Type 0 where
  pub is : (L : Limits) (p : Program) (v : Attrs) → fits p v → (q : Regs) → lift (to_answer j) (state_view z v m q) ≡ f L p (state_view z v m q)

-- instruction i is one of function f
pub record FunctionIs (i f : ℕ) (p : Program) (v : Attrs) : Type 0 where
  pub is : function_of p i ≡ f

-- A receiver's classes as the rules ask for them. Assumes nothing.
use Rattle.std.specs.Prelude.{◌≡◌, ℕ, ◌<◌, Result, Ok, Err}
use Rattle.std.proofs.Math.Option.{some}
use mathlib.Core.List.{List, Memᴰ}
use Rattle.ids.specs.Sets.{members_of}
use Rattle.refusals.specs.declared.Refusal.{Refusal}
use Rattle.refusals.specs.Refusals.{number_of}
use Rattle.rules.specs.Actions.{Answer, answered, refused}
use Rattle.rules.specs.Values.{classes_in}
use Rattle.rules.specs.Machine.{State, classes_of}
use Rattle.program.specs.declared.Counts.{Counts}
use Rattle.program.specs.declared.Opnd.{Opnd}
use Rattle.program.specs.Rows.{opnd_of}
use Rattle.program.specs.View.{ProgramReady}
use Rattle.state.specs.declared.Sizes.{Sizes}
use Rattle.state.specs.declared.Regs.{Regs}
use Rattle.state.specs.View.{Attrs, kinds_of, state_view}
use Rattle.machine.specs.opnds.Reads.{kind_in}

abbrev pub received : Result ℕ Refusal → State → Answer (List ℕ × State)
received (Ok c) s = answered (members_of c, s)
received (Err e) s = refused (number_of e)

pub record Receives (z : Sizes) (m : List ℕ) (o : Opnd) (r : Result ℕ Refusal) : Type 0 where
  pub is : (v : Attrs) (q : Regs) → received r (state_view z v m q) ≡ classes_of (opnd_of o) (state_view z v m q)

-- the tables of a program, and a state of its sizes
pub record StateMatches (z : Sizes) (m : List ℕ) (c : Counts) : Type 0 where
  pub ready : ProgramReady m c
  pub functions : z.functions ≡ c.functions
  pub classes : z.classes ≡ c.classes
  pub blocks : z.blocks ≡ c.blocks
  pub insns : z.insns ≡ c.insns

-- the classes of a set are below n
pub record ClassesBelow (n s : ℕ) : Type 0 where
  pub below : (c : ℕ) → Memᴰ c (members_of s) → c < n

-- a receiver's classes are the program's
pub record ReceiverWithin (z : Sizes) (m : List ℕ) (o : Opnd) : Type 0 where
  pub classes : (s : ℕ) → classes_in (kind_in (kinds_of z m) (opnd_of o)) ≡ some s → ClassesBelow z.classes s

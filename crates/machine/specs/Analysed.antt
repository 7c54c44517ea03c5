-- What stands still while the analysis runs, and what holds of the states that it comes to. Assumes nothing.
use Rattle.std.specs.Prelude.{true, ◌≡◌, List, ℕ, ◌+◌, ◌-◌, ◌≤◌, ◌<◌, length, get_or}
use Rattle.kinds.specs.declared.Kind.TheVariants.{Empty}
use Rattle.kinds.specs.Heights.{Good}
use Rattle.rules.specs.Actions.{answered}
use Rattle.rules.specs.Lists.{has}
use Rattle.rules.specs.Program.{Limits, Opnd, Static, Send, Program, about, op_of, class}
use Rattle.rules.specs.Uses.{uses}
use Rattle.rules.specs.Finished.{Finished}
use Rattle.rules.specs.Machine.{State, marked, start, run}
use Rattle.program.specs.Tab.{tab}
use Rattle.program.specs.Rows.{insn_at}
use Rattle.program.specs.View.{program_view, ProgramReady}
use Rattle.program.specs.declared.Counts.{Counts}
use Rattle.chains.specs.Chains.{Index}
use Rattle.uses.specs.Users.{words}
use Rattle.state.specs.declared.Sizes.{Sizes}
use Rattle.state.specs.View.{Attrs, kinds_of, called_of}
use Rattle.answer.specs.Layout.{starts_at, users_at}
use Rattle.memory.specs.Layout.{functions_most, classes_most, ivars_most, instructions_most, uses_most, worklist_most, blocks_room}

-- ---- the parts that are read

-- the sizes are the counts of the tables
abbrev pub sizes_of : Counts → Sizes
sizes_of c = record { functions = c.functions; classes = c.classes; blocks = c.blocks; insns = c.insns }

pub record MachineSized (c : Counts) (z : Sizes) : Type 0 where
  pub functions : z.functions ≡ c.functions
  pub classes : z.classes ≡ c.classes
  pub blocks : z.blocks ≡ c.blocks
  pub insns : z.insns ≡ c.insns

-- the block of each instruction
unfoldable pub homes_of : List ℕ → Counts → List ℕ
homes_of p c = tab (λ i. (insn_at p i).block.0) c.insns

-- the users of each instruction stand where the answer has them
pub record Users (p : List ℕ) (c : Counts) (u : List ℕ) : Type 0 where
  pub long : users_at + uses_most ≤ length u
  pub begins : get_or u (starts_at + 0) 0 ≡ 0
  pub rises : (j : ℕ) → j < c.insns → get_or u (starts_at + j) 0 ≤ get_or u (starts_at + (j + 1)) 0
  pub total : get_or u (starts_at + c.insns) 0 ≤ uses_most
  pub part : (s : List ℕ) (j : ℕ) → j < c.insns
      → words u (users_at + get_or u (starts_at + j) 0) (get_or u (starts_at + (j + 1)) 0 - get_or u (starts_at + j) 0) ≡ uses (program_view s p c) j

-- limits under which the program, the state and the worklists have room
pub record MachineRoom (L : Limits) : Type 0 where
  pub functions : L.functions ≤ functions_most
  pub classes : L.classes ≤ classes_most
  pub blocks : L.blocks ≤ blocks_room
  pub instructions : L.instructions ≤ instructions_most
  pub ivars : L.ivars ≤ ivars_most
  pub worklist : L.worklist ≡ worklist_most

-- limits under which the program of the tables was read
pub record Suited (s p : List ℕ) (c : Counts) (L : Limits) : Type 0 where
  pub room : MachineRoom L
  pub finished : Finished L (program_view s p c)

-- script, tables and chains are those of a program that was read
pub record Indexed (s p : List ℕ) (c : Counts) (x : List ℕ) (z : Sizes) : Type 0 where
  pub limits : Limits
  pub suited : Suited s p c limits
  pub sized : MachineSized c z
  pub ready : ProgramReady p c
  pub index : Index p c x

-- and the users
pub record Analysed (s p : List ℕ) (c : Counts) (x u : List ℕ) (z : Sizes) : Type 0 where
  pub indexed : Indexed s p c x z
  pub users : Users p c u

-- ---- the program that a promise speaks of

-- a program of the tables, whatever the script
pub record TablesOf (p : List ℕ) (c : Counts) (P : Program) (v : Attrs) : Type 0 where
  pub script : List ℕ
  pub is : P ≡ program_view script p c

-- the program of script and tables, and the numbers of its classes' attributes
pub record MachineFits (s p : List ℕ) (c : Counts) (P : Program) (v : Attrs) : Type 0 where
  pub is : P ≡ program_view s p c
  pub attrs : (k : ℕ) → v.count k ≡ length (class (program_view s p c) k).ivars

-- ---- states

-- as many steps as its count lead to a state from the start
pub record MachineReached (L : Limits) (P : Program) (t : State) : Type 0 where
  pub from : State
  pub starts : start L P ≡ answered from
  pub there : run L P t.count from ≡ answered t

-- what a step relies on, of such a state's tables: those that are marked as callers are calls, a bare call of its function alone, and kinds are such as can arise
pub record Steady (s p : List ℕ) (c : Counts) (z : Sizes) (m : List ℕ) : Type 0 where
  pub calls : (f i : ℕ) → marked (called_of z m) f i ≡ true → has (about (op_of (program_view s p c) i)).callee ≡ true
  pub alone : (f i g : ℕ) (l : List Opnd) → marked (called_of z m) f i ≡ true → op_of (program_view s p c) i ≡ Send (Static g) l → f ≡ g
  pub kinds : (i : ℕ) → Good c.classes (get_or (kinds_of z m) i Empty)

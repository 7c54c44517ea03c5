-- The parser's state as script, tables, scratch memory and cursor hold it, and what every reader may rely on. Assumes nothing.
-- Scratch memory: the variables' two columns, and behind them the stack of call arguments that wait for their call, two words each.
use Rattle.std.specs.Prelude.{◌≡◌, List, map, ℕ, ◌+◌, ◌*◌, ◌/◌, ◌≤◌, ◌<◌, length, get_or}
use Rattle.std.specs.Prelude.{Option, None, Some}
use Rattle.std.proofs.Math.Option as M
use Rattle.ids.specs.declared.BlockId.{BlockId}
use Rattle.ids.specs.declared.ClassId.{ClassId}
use Rattle.ids.specs.declared.InsnId.{InsnId}
use Rattle.rules.specs.Program as P
use Rattle.rules.specs.Reading.{Parser}
use Rattle.variables.specs.Memory.{entry, vars}
use Rattle.variables.specs.Rooms.{VariablesRoom}
use Rattle.program.specs.Rows.{opnds_in, opnd_of, owner_in}
use Rattle.program.specs.View as View
use Rattle.program.specs.declared.Counts.{Counts}
use Rattle.memory.specs.Layout.{script_most}
use Rattle.variables.specs.Layout.{bindings_most}
use Rattle.cursor.specs.Layout.{stack_at, scratch_size}

-- The place in the script; the tables' counts; the class and the receiver of the method being read; the block that takes
-- instructions; how many variables are bound, where the rows set aside end, how many call arguments wait.
pub record Cursor : Type 0 where
  pub at : ℕ
  pub counts : Counts
  pub class : Option ClassId
  pub receiver : Option InsnId
  pub block : BlockId
  pub vars : ℕ
  pub aside : ℕ
  pub args : ℕ

abbrev pub receiver_of : Option InsnId → M.Option ℕ
receiver_of (Some i) = M.some i.0
receiver_of None = M.none

unfoldable pub parser_of : List ℕ → List ℕ → List ℕ → Cursor → Parser
parser_of s m w c =
    record {
      at = c.at;
      env = vars s w c.vars;
      class = owner_in c.class;
      self = receiver_of c.receiver;
      block = c.block.0;
      program = View.program_view s m c.counts;
    }

-- the operands that words hold, two words each
abbrev pub opnds_of : List ℕ → List P.Opnd
opnds_of a = map opnd_of (opnds_in a 0 (length a / 2))

-- n waiting arguments, from the k-th on
unfoldable pub waiting : List ℕ → ℕ → ℕ → List P.Opnd
waiting w k n = map opnd_of (opnds_in w (stack_at + 2 * k) n)

-- ---- a cursor with one part changed

abbrev pub move_cur : ℕ → Cursor → Cursor
move_cur at c = record { at = at; counts = c.counts; class = c.class; receiver = c.receiver; block = c.block; vars = c.vars; aside = c.aside; args = c.args }

abbrev pub count_cur : Counts → Cursor → Cursor
count_cur n c = record { at = c.at; counts = n; class = c.class; receiver = c.receiver; block = c.block; vars = c.vars; aside = c.aside; args = c.args }

abbrev pub bind_cur : Cursor → Cursor
bind_cur c = record { at = c.at; counts = c.counts; class = c.class; receiver = c.receiver; block = c.block; vars = c.vars + 1; aside = c.aside; args = c.args }

abbrev pub stack_cur : ℕ → Cursor → Cursor
stack_cur n c = record { at = c.at; counts = c.counts; class = c.class; receiver = c.receiver; block = c.block; vars = c.vars; aside = c.aside; args = n }

-- ---- what every reader may rely on

-- a binding takes two bytes of the script, and so does a waiting argument
pub record CursorReady (s m w : List ℕ) (c : Cursor) : Type 0 where
  pub script : length s ≤ script_most
  pub inside : c.at ≤ length s
  pub tables : View.ProgramReady m c.counts
  pub scratch : scratch_size ≤ length w
  pub room : VariablesRoom c.at c.vars c.aside
  pub args : 2 * c.args ≤ c.at

-- inside a function there is a block that takes instructions
pub record In (s m w : List ℕ) (c : Cursor) : Type 0 where
  pub ready : CursorReady s m w c
  pub block : c.block.0 < c.counts.blocks

-- what it takes to add an instruction
pub record Open (m : List ℕ) (c : Cursor) : Type 0 where
  pub tables : View.ProgramReady m c.counts
  pub block : c.block.0 < c.counts.blocks

-- ---- a step of reading, over at least k bytes: variables are only added, each for two bytes; what is set aside and what waits stays
pub record CursorStep (k : ℕ) (c : Cursor) (w : List ℕ) (c' : Cursor) (w' : List ℕ) : Type 0 where
  pub on : c.at + k ≤ c'.at
  pub paid : 2 * c'.vars + c.at ≤ 2 * c.vars + c'.at
  pub more : c.vars ≤ c'.vars
  pub aside : c'.aside ≡ c.aside
  pub args : c'.args ≡ c.args
  pub class : c'.class ≡ c.class
  pub receiver : c'.receiver ≡ c.receiver
  pub functions : c.counts.functions ≤ c'.counts.functions
  pub classes : c.counts.classes ≤ c'.counts.classes
  pub blocks : c.counts.blocks ≤ c'.counts.blocks
  pub old : (i : ℕ) → i < c.vars → entry w' i ≡ entry w i
  pub rows : (i : ℕ) → bindings_most ≤ i → i < c.aside → entry w' i ≡ entry w i
  pub stack : (i : ℕ) → stack_at ≤ i → i < stack_at + 2 * c.args → get_or w' i 0 ≡ get_or w i 0

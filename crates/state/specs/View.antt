-- The machine's state as one memory and the registers hold it. Assumes nothing.
use Rattle.std.specs.Prelude.{Bool as 𝔹, false, not, ◌≡◌, List, ℕ, ◌+◌, ◌*◌, ◌≤◌, ◌<◌, eqb, length, get_or}
use Rattle.kinds.specs.declared.Kind.{Kind}
use Rattle.kinds.specs.Kinds.{kind_from}
use Rattle.rules.specs.Program.{Program}
use Rattle.rules.specs.Machine.{State}
use Rattle.memory.specs.tables.Tables.{listed, rows}
use Rattle.memory.specs.tables.Bits.{bit_at}
use Rattle.memory.specs.tables.Rings.{waiting, RingBelow}
use Rattle.memory.specs.Layout.{functions_most, classes_most, ivars_most, instructions_most, worklist_most, row_words, blocks_room}
use Rattle.state.specs.Layout.{kind_bits_at, live_blocks_at, ivar_kinds_at, ivar_bits_at, called_at, reads_at, insn_ring_at, block_ring_at, state_size}
use Rattle.state.specs.declared.Sizes.{Sizes}
use Rattle.state.specs.declared.Regs.{Regs}

-- how many attributes each class has
pub record Attrs : Type 0 where
  pub count : ℕ → ℕ
  pub most : (c : ℕ) → count c ≤ ivars_most

-- the tables, where Layout says
unfoldable pub kinds_of : Sizes → List ℕ → List Kind
kinds_of z m = listed z.insns (λ i. kind_from (get_or m i 0) (get_or m (kind_bits_at + i) 0))

unfoldable pub live_of : Sizes → List ℕ → List 𝔹
live_of z m = listed z.blocks (λ b. not (eqb (get_or m (live_blocks_at + b) 0) 0))

unfoldable pub ivars_of : Sizes → Attrs → List ℕ → List (List Kind)
ivars_of z v m = rows z.classes v.count (λ c a. kind_from (get_or m (ivar_kinds_at + (c * ivars_most + a)) 0) (get_or m (ivar_bits_at + (c * ivars_most + a)) 0))

unfoldable pub called_of : Sizes → List ℕ → List (List 𝔹)
called_of z m = rows z.functions (λ _. z.insns) (λ f i. bit_at m (called_at + f * row_words) i)

unfoldable pub reads_of : Sizes → List ℕ → List (List 𝔹)
reads_of z m = rows z.classes (λ _. z.insns) (λ c i. bit_at m (reads_at + c * row_words) i)

-- the two worklists are rings
unfoldable pub insns_of : List ℕ → Regs → List ℕ
insns_of m q = waiting m insn_ring_at q.insns.head q.insns.len

unfoldable pub blocks_of : List ℕ → Regs → List ℕ
blocks_of m q = waiting m block_ring_at q.blocks.head q.blocks.len

abbrev pub state_view : Sizes → Attrs → List ℕ → Regs → State
state_view z v m q = record {
  kinds = kinds_of z m;
  live = live_of z m;
  called_by = called_of z m;
  ivar_kinds = ivars_of z v m;
  ivar_reads = reads_of z m;
  insn_worklist = insns_of m q;
  block_worklist = blocks_of m q;
  draining = q.draining;
  count = q.count;
}

-- the memory's length, and sizes that it has room for
pub record StateHeld (z : Sizes) (m : List ℕ) : Type 0 where
  pub len : length m ≡ state_size
  pub functions : z.functions ≤ functions_most
  pub classes : z.classes ≤ classes_most
  pub blocks : z.blocks ≤ blocks_room
  pub insns : z.insns ≤ instructions_most

-- what each function may rely on
pub record StateReady (z : Sizes) (m : List ℕ) (q : Regs) : Type 0 where
  pub held : StateHeld z m
  pub insn_head : q.insns.head < worklist_most
  pub insn_len : q.insns.len ≤ worklist_most
  pub block_head : q.blocks.head < worklist_most
  pub block_len : q.blocks.len ≤ worklist_most
  pub insns_below : RingBelow m insn_ring_at q.insns.head q.insns.len z.insns
  pub blocks_below : RingBelow m block_ring_at q.blocks.head q.blocks.len z.blocks

-- a memory before the start: no instruction has a kind, no block is live, nothing was called or read; what else it has may hold anything
pub record StateCleared (z : Sizes) (m : List ℕ) : Type 0 where
  pub held : StateHeld z m
  pub kinds : (i : ℕ) → i < z.insns → get_or m i 0 ≡ 0
  pub live : (b : ℕ) → b < z.blocks → get_or m (live_blocks_at + b) 0 ≡ 0
  pub called : (j : ℕ) → j < row_words * z.functions → get_or m (called_at + j) 0 ≡ 0
  pub reads : (j : ℕ) → j < row_words * z.classes → get_or m (reads_at + j) 0 ≡ 0

-- nothing waits, and nothing was taken
abbrev pub no_entries : Regs
no_entries = record { insns = record { head = 0; len = 0 }; blocks = record { head = 0; len = 0 }; draining = false; count = 0 }

-- the sizes are those of a program
pub record SizesOf (p : Program) (z : Sizes) : Type 0 where
  pub functions : z.functions ≡ length p.functions
  pub classes : z.classes ≡ length p.classes
  pub blocks : z.blocks ≡ length p.blocks
  pub insns : z.insns ≡ length p.instructions

-- Where the state's tables stand: by instruction the kind's byte, from 0 on, and its payload; by block whether it is live; by class and attribute
-- the kind's byte and its payload; rows of bits: a function's callers, a class's reads; the rings of waiting instructions and of waiting blocks. Assumes nothing.
use Rattle.std.specs.Prelude.{ℕ, ◌+◌, ◌*◌}
use Rattle.memory.specs.Layout.{functions_most, classes_most, ivars_most, instructions_most, worklist_most, blocks_room, row_words}

-- the tables, one behind the other
abbrev pub kind_bits_at : ℕ
kind_bits_at = instructions_most

abbrev pub live_blocks_at : ℕ
live_blocks_at = kind_bits_at + instructions_most

abbrev pub ivar_kinds_at : ℕ
ivar_kinds_at = live_blocks_at + blocks_room

abbrev pub ivar_bits_at : ℕ
ivar_bits_at = ivar_kinds_at + classes_most * ivars_most

abbrev pub called_at : ℕ
called_at = ivar_bits_at + classes_most * ivars_most

abbrev pub reads_at : ℕ
reads_at = called_at + functions_most * row_words

abbrev pub insn_ring_at : ℕ
insn_ring_at = reads_at + classes_most * row_words

abbrev pub block_ring_at : ℕ
block_ring_at = insn_ring_at + worklist_most

-- the words of the tables
abbrev pub state_size : ℕ
state_size = block_ring_at + worklist_most

-- behind them a run has a stamp for each instruction; with these the published length of the state part
abbrev pub stamps_at : ℕ
stamps_at = state_size

abbrev pub state_length : ℕ
state_length = stamps_at + instructions_most

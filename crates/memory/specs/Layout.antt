-- How much the lent memory has room for: 01's limits, and what follows from them. Assumes nothing.
use Rattle.std.specs.Prelude.{ℕ, ◌+◌, ◌*◌, ◌/◌}
use Rattle.rules.specs.Program.{limits}

-- how many things of each sort there can be; a script has at most so many bytes
abbrev pub script_most : ℕ
script_most = limits.script

abbrev pub functions_most : ℕ
functions_most = limits.functions

abbrev pub classes_most : ℕ
classes_most = limits.classes

abbrev pub ivars_most : ℕ
ivars_most = limits.ivars

abbrev pub blocks_most : ℕ
blocks_most = limits.blocks

abbrev pub instructions_most : ℕ
instructions_most = limits.instructions

abbrev pub operands_most : ℕ
operands_most = limits.operands

abbrev pub worklist_most : ℕ
worklist_most = limits.worklist

-- an instruction has at most two operands that are neither call arguments nor join operands
abbrev pub uses_most : ℕ
uses_most = operands_most + 2 * instructions_most

-- blocks that the tables have room for; as a block's number it stands for none
abbrev pub blocks_room : ℕ
blocks_room = 1024

-- the words of a row of bits, one for each instruction
abbrev pub row_words : ℕ
row_words = instructions_most / 64

-- Where the program's tables start, one behind the other, and how many words they take together. Assumes nothing.
use Rattle.std.specs.Prelude.{ℕ, ◌+◌, ◌*◌}
use Rattle.memory.specs.Layout.{functions_most, classes_most, ivars_most, instructions_most, uses_most, blocks_room}

-- the words of a row of each table; an attribute's name has a row too, and a class has as many of them as it can have attributes
abbrev pub insn_words : ℕ
insn_words = 6

abbrev pub opnd_words : ℕ
opnd_words = 2

abbrev pub block_words : ℕ
block_words = 2

abbrev pub function_words : ℕ
function_words = 4

abbrev pub class_words : ℕ
class_words = 4

abbrev pub name_words : ℕ
name_words = 2

abbrev pub ivar_row_words : ℕ
ivar_row_words = name_words * ivars_most

-- the tables
abbrev pub insns_at : ℕ
insns_at = 0

abbrev pub opnds_at : ℕ
opnds_at = insns_at + insn_words * instructions_most

abbrev pub blocks_at : ℕ
blocks_at = opnds_at + opnd_words * uses_most

abbrev pub functions_at : ℕ
functions_at = blocks_at + block_words * blocks_room

abbrev pub classes_at : ℕ
classes_at = functions_at + function_words * functions_most

abbrev pub ivars_at : ℕ
ivars_at = classes_at + class_words * classes_most

abbrev pub program_size : ℕ
program_size = ivars_at + ivar_row_words * classes_most

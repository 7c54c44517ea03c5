-- Where the chains stand: of each sort the heads, then each instruction's link; the sorts are the code, the Params and the Returns. Behind the
-- program's tables they fill the program part. Assumes nothing.
use Rattle.std.specs.Prelude.{ℕ, ◌+◌, ◌*◌}
use Rattle.memory.specs.Layout.{instructions_most, blocks_room}
use Rattle.program.specs.Layout.{program_size}

-- the words of a sort
abbrev pub sort_words : ℕ
sort_words = blocks_room + instructions_most

-- where the Returns stand; the code stands at 0, the Params at sort_words
abbrev pub returns_at : ℕ
returns_at = 2 * sort_words

-- the words of all chains
abbrev pub chains_size : ℕ
chains_size = 3 * sort_words

-- the published length of the program part
abbrev pub program_length : ℕ
program_length = program_size + chains_size

-- The work memory: the first cell of each instruction, from 0 on, then each cell's user and next cell. Assumes nothing.
use Rattle.std.specs.Prelude.{ℕ, ◌+◌}
use Rattle.memory.specs.Layout.{instructions_most, uses_most}

-- a cell for each use
abbrev pub items_at : ℕ
items_at = instructions_most

abbrev pub links_at : ℕ
links_at = items_at + uses_most

abbrev pub uses_size : ℕ
uses_size = links_at + uses_most

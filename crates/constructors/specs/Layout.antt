-- The work memory: whether a block was visited, from 0 on, the blocks left behind, and what is set at the end of each. Assumes nothing.
use Rattle.std.specs.Prelude.{ℕ, ◌+◌}
use Rattle.memory.specs.Layout.{blocks_room}

-- the tables, one behind the other
abbrev pub order_at : ℕ
order_at = blocks_room

abbrev pub outs_at : ℕ
outs_at = order_at + blocks_room

abbrev pub walk_size : ℕ
walk_size = outs_at + blocks_room

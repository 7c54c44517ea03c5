-- What the tables have room for. Assumes nothing.
use Rattle.std.specs.Prelude.{ℕ, ◌≤◌}
use Rattle.memory.specs.Layout.{functions_most, classes_most, ivars_most, instructions_most, operands_most, blocks_room}

-- the limits that a call is given are at most the tables' room
pub record WithinRoom (f c b n o v : ℕ) : Type 0 where
  pub functions : f ≤ functions_most
  pub classes : c ≤ classes_most
  pub blocks : b ≤ blocks_room
  pub instructions : n ≤ instructions_most
  pub operands : o ≤ operands_most
  pub ivars : v ≤ ivars_most

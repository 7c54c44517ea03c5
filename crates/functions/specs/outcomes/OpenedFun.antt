-- A function and the cursor behind what was read of it, or the number of a refusal. Assumes nothing.
use Rattle.std.specs.Prelude.{ℕ}
use Rattle.ids.specs.declared.FunId.{FunId}
use Rattle.cursor.specs.Cursor.{Cursor}

pub data OpenedFun : Type 0 where
  Done : Cursor → FunId → OpenedFun
  Refused : ℕ → OpenedFun

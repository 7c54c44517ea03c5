-- A block and the cursor behind its opening, or the number of a refusal. Assumes nothing.
use Rattle.std.specs.Prelude.{ℕ}
use Rattle.ids.specs.declared.BlockId.{BlockId}
use Rattle.cursor.specs.Cursor.{Cursor}

pub data Opened : Type 0 where
  On : Cursor → BlockId → Opened
  Refused : ℕ → Opened

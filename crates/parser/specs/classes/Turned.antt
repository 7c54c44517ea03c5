-- One thing was read, or the end of things: the cursor behind it, or the number of a refusal. Assumes nothing.
use Rattle.std.specs.Prelude.{ℕ}
use Rattle.cursor.specs.Cursor.{Cursor}

pub data Turned : Type 0 where
  Again : Cursor → Turned
  Ends : Cursor → Turned
  Refused : ℕ → Turned

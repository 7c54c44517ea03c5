-- A cursor further on, or the number of a refusal. Assumes nothing.
use Rattle.std.specs.Prelude.{ℕ}
use Rattle.cursor.specs.Cursor.{Cursor}

pub data Moved : Type 0 where
  On : Cursor → Moved
  Refused : ℕ → Moved

-- After one argument: on to the next, or the end of the arguments; or the number of a refusal. Assumes nothing.
use Rattle.std.specs.Prelude.{ℕ}
use Rattle.cursor.specs.Cursor.{Cursor}

pub data ArgTurn : Type 0 where
  Again : Cursor → ArgTurn
  Ends : Cursor → ArgTurn
  Refused : ℕ → ArgTurn

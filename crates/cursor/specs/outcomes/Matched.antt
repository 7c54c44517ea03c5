-- Whether the next word is the one asked for, with the cursor behind it; or the number of a refusal. Assumes nothing.
use Rattle.std.specs.Prelude.{ℕ}
use Rattle.cursor.specs.Cursor.{Cursor}

pub data Matched : Type 0 where
  Yes : Cursor → Matched
  Not : Matched
  Refused : ℕ → Matched

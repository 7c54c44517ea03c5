-- How many arguments stand behind those that wait, or the number of a refusal. Assumes nothing.
use Rattle.std.specs.Prelude.{ℕ}
use Rattle.cursor.specs.Cursor.{Cursor}

pub data Args : Type 0 where
  Done : Cursor → ℕ → Args
  Refused : ℕ → Args

-- A name and the cursor behind it, or the number of a refusal. Assumes nothing.
use Rattle.std.specs.Prelude.{ℕ}
use Rattle.program.specs.declared.Name.{Name}
use Rattle.cursor.specs.Cursor.{Cursor}

pub data Ident : Type 0 where
  Found : Cursor → Name → Ident
  Refused : ℕ → Ident

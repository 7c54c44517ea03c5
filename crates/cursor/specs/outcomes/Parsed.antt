-- An operand and the cursor behind it, or the number of a refusal. Assumes nothing.
use Rattle.std.specs.Prelude.{ℕ}
use Rattle.program.specs.declared.Opnd.{Opnd}
use Rattle.cursor.specs.Cursor.{Cursor}

pub data Parsed : Type 0 where
  Done : Cursor → Opnd → Parsed
  Refused : ℕ → Parsed

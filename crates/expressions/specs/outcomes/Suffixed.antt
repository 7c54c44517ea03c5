-- After one thing behind an operand, or the number of a refusal. Assumes nothing.
use Rattle.std.specs.Prelude.{ℕ}
use Rattle.program.specs.declared.Opnd.{Opnd}
use Rattle.cursor.specs.Cursor.{Cursor}

pub data Suffixed : Type 0 where
  Again : Cursor → Opnd → Suffixed
  Ends : Suffixed
  Refused : ℕ → Suffixed

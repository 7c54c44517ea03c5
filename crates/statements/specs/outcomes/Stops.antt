-- Whether statements end at the next word; if not, that word; or the number of a refusal. Assumes nothing.
use Rattle.std.specs.Prelude.{ℕ}
use Rattle.lexer.specs.declared.Word.{Word}

pub data Stops : Type 0 where
  Here : Stops
  Not : Word → Stops
  Refused : ℕ → Stops

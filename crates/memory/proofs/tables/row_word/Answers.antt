-- `memory::tables::row_word` meets its contract. Assumes nothing.
use Rattle.memory.proofs.tables.Word.{row-none}
use Rattle.memory.proofs.tables.row_word.Goals as goal

pub returns-then-n-from : goal.returns-then-n-from
returns-then-n-from c = search row-none

-- `variables::Scope::note_rows` meets its contract. Assumes nothing.
use Rattle.variables.proofs.Laws.{noted-blank, note_second}
use Rattle.variables.proofs.Scope.note_rows.Goals as goal

pub note_row-requires-clause-noted : goal.note_row-requires-clause-noted
note_row-requires-clause-noted c = search noted-blank

pub note_row-requires-2-clause-noted : goal.note_row-requires-2-clause-noted
note_row-requires-2-clause-noted c = search note_second

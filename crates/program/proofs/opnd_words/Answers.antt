-- `program::opnd_words` meets its contract. Assumes nothing.
use Rattle.program.proofs.Forms.{words_small, words_const}
use Rattle.program.proofs.opnd_words.Goals as goal

pub returns-in-Const : goal.returns-in-Const
returns-in-Const c = (words_const c.in-Const.is c.tag.ensures c.payload.ensures.0 c.payload.ensures.1, words_small _ c.tag.ensures)

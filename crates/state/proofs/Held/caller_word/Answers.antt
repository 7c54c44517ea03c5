-- `state::Held::caller_word` meets its contract. Assumes nothing.
use Rattle.state.proofs.Puts.{called-word}
use Rattle.state.proofs.Held.caller_word.Goals as goal

pub returns : goal.returns
returns c = let row = rw c.index.ensures at c.row.ensures in search called-word

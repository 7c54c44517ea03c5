-- `settled::ivar_words` meets its contract. Assumes nothing.
use Rattle.state.proofs.Puts.{ivar_read}
use Rattle.settled.proofs.ivar_words.Goals as goal

pub returns : goal.returns
returns c = rw c.index.ensures (search ivar_read)

-- `flows::insn_words` meets its contract. Assumes nothing.
use Rattle.state.proofs.Puts.{kind-read}
use Rattle.flows.proofs.insn_words.Goals as goal

pub returns : goal.returns
returns c = rw c.index-at.ensures (search kind-read)

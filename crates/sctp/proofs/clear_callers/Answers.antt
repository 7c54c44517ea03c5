-- `sctp::clear_callers` meets its contract. Assumes nothing.
use Rattle.sctp.proofs.Parts.{callers_cleared}
use Rattle.sctp.proofs.clear_callers.Goals as goal

pub returns : goal.returns
returns c =
    callers_cleared c.args.users.now c.clear.new.words _ c.requires c.clear.ensures

-- `sctp::start_aside` meets its contract. Assumes nothing.
use Rattle.sctp.proofs.Parts.{callers_used}
use Rattle.sctp.proofs.start_aside.Goals as goal

pub returns : goal.returns
returns c = (c.start.ensures.0, callers_used c.args.users.now c.start.new.y c.requires.users_len c.start.ensures.1)

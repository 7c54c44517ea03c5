-- `live::run` meets its contract. Assumes nothing.
use Rattle.std.proofs.Common.{rules}
use Rattle.live.proofs.Laws.{printed}
use Rattle.live.proofs.run.Goals as goal

pub returns-clause-prints : goal.returns-clause-prints
returns-clause-prints g c =
    let r = c.in_ok-read.ensures in
    printed (g.R.Read.remaining c.args.from.now) (g.R.Read.remaining c.read.new.from) (g.W.Write.contents c.args.to.now) (g.W.Write.contents c.write_answer-told.new.to)
    c.read.new.buffer (record { read = c.in_ok-read.read; told = c.write_answer-told.result }) (search rules) r.fits.0 r.taken.0 r.taken.1
    c.write_answer-told.ensures.tells c.write_answer-told.ensures.appends

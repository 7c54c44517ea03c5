-- `program::reader::Program::fun` meets its contract. Assumes nothing.
use Rattle.program.proofs.Reading.{fun_read}
use Rattle.program.proofs.reader.Program.fun.Goals as goal

pub returns : goal.returns
returns c = rw (c.number_in.ensures, c.index.ensures) (fun_read _ c.args.self.now.ready c.requires (rw c.index.ensures at c.owner_from.ensures))

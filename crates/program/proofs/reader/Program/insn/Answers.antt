-- `program::reader::Program::insn` meets its contract. Assumes nothing.
use Rattle.program.proofs.Reading.{insn_read}
use Rattle.program.proofs.reader.Program.insn.Goals as goal

pub returns : goal.returns
returns c = rw (c.number_in.ensures, c.index.ensures) (insn_read _ c.args.self.now.ready c.requires (rw c.index.ensures at c.op_from.ensures))

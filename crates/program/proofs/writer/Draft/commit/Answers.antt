-- `program::writer::Draft::commit` meets its contract. Assumes nothing.
use Rattle.program.proofs.Committing.{row-ready, commit_is}
use Rattle.program.proofs.writer.Draft.commit.Goals as goal

pub invariant_of-self : goal.invariant_of-self
invariant_of-self c = search row-ready

pub invariant_of-self-2 : goal.invariant_of-self-2
invariant_of-self-2 c = record { ready = (commit_is _ _ _ c.args.self.now.ready c.requires c.listed_in.ensures c.put_insn.ensures c.end_block.ensures).ok }

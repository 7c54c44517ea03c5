-- `settled::operand_words` meets its contract. Assumes nothing.
use Rattle.state.specs.View.{kinds_of}
use Rattle.settled.proofs.Operands.{operand_kind, operand_nil}
use native.Mathlib.Omega.{arith}
use Rattle.settled.proofs.operand_words.Goals as goal

pub returns-then-j-insn : goal.returns-then-j-insn
returns-then-j-insn c =
    operand_kind c.args.insn c.args.j c.args.program.now.ready c.requires.count_bound (kinds_of c.args.state.now.sizes c.args.state.now.words.now) (omega arith) c.opnd_words.ensures

pub returns : goal.returns
returns c = operand_nil c.args.insn c.args.j c.args.program.now.ready c.requires.count_bound (kinds_of c.args.state.now.sizes c.args.state.now.words.now)
    c.if-j-insn.false

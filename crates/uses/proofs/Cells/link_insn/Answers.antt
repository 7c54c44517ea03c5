-- `uses::Cells::link_insn` meets its contract. Assumes nothing.
use native.Mathlib.Omega.{arith}
use Rattle.uses.proofs.Linking.{turn_start, turn_const, turn_far, turn_link, turn_done}
use Rattle.uses.proofs.Cells.link_insn.Goals.{in-Insn+then-k-n, in-Insn+else-k-n, in_default}
use Rattle.uses.proofs.Cells.link_insn.Goals as goal

pub loop-q-init : goal.loop-q-init
loop-q-init c = turn_start c.insn-row.ensures.row c.most.ensures c.min-used.ensures c.requires.linked

pub loop-q-preserved : goal.loop-q-preserved
loop-q-preserved c =
    elim c.match-operand.branch [
      | in-Insn+then-k-n w ↦ rw w.self-is
          (turn_link c.loop-q.invariant (omega arith) c.insn-row.ensures.row (omega (arith, c.min-used.ensures)) _ c.operand.ensures w.in-Insn.is
          (omega (arith, w.if-k-n.true, w.index-k.ensures)) c.args.program.now.ready.insns (rw (w.index.ensures, w.index-k.ensures) at w.link.ensures))
      | in-Insn+else-k-n w ↦ rw w.self-is
          (turn_far c.loop-q.invariant (omega arith) c.insn-row.ensures.row (omega (arith, c.min-used.ensures)) _ c.operand.ensures w.in-Insn.is
          (omega (arith, w.if-k-n.false, w.index-k.ensures)))
      | in_default w ↦ rw w.self-is
          (turn_const c.loop-q.invariant (omega arith) c.insn-row.ensures.row (omega (arith, c.min-used.ensures)) _ c.operand.ensures w.in_default.is)
    ]

pub returns : goal.returns
returns c = turn_done c.loop-q.invariant (omega (arith, c.loop-q.auto)) c.requires.i_lt_insns

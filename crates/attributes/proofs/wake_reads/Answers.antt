-- `attributes::wake_reads` meets its contract. Assumes nothing.
use Rattle.attributes.proofs.Woken.{waking_start, waking_more, waking_skip}
use Rattle.attributes.proofs.wake_reads.Goals.{then-gets+in_ok-push_insn, else-gets}
use Rattle.attributes.proofs.wake_reads.Goals as goal

pub loop-i-init : goal.loop-i-init
loop-i-init c = waking_start c.args.program.now.script.now c.args.program.now.words.now c.args.program.now.counts c.args.n c.args.x.0 c.args.state.now

pub loop-i-preserved : goal.loop-i-preserved
loop-i-preserved c = elim c.if-gets.branch [
  | then-gets+in_ok-push_insn w ↦
      rw w.state-is (waking_more c.loop-i.invariant c.next_read.ensures c.in-Some.is c.gets.ensures w.if-gets.true w.push_insn.ensures w.in_ok-push_insn.was)
  | else-gets w ↦ rw w.state-is (waking_skip c.loop-i.invariant c.next_read.ensures c.in-Some.is c.gets.ensures w.if-gets.false)
]

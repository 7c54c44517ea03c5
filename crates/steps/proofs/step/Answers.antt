-- `steps::step` meets its contract. Assumes nothing.
use mathlib.Core.Path.{◌≡◌}
use borrow.Author.Rules.{rules}
use Rattle.std.specs.Prelude.{Err}
use Rattle.steps.proofs.Stepping.{code-held}
use Rattle.steps.proofs.Kept.{facing}
use Rattle.steps.proofs.Methods.{stamps_are, idle_taken, step_insn, step_no, step_block}
use Rattle.steps.proofs.step.Goals as goal

pub step_block-requires-clause-has_code : goal.step_block-requires-clause-has_code
step_block-requires-clause-has_code c = code-held c.requires.analysed c.args.state.now.ready

pub returns-in_err-step_block : goal.returns-in_err-step_block
returns-in_err-step_block c =
    let e : c.from_residual.result ≡ Err c.in_err-step_block.field-0.0 = search rules in
    rw e (step_no c.args.tables.now c.args.state.now c.step_block.new.state c.args.stamps.now c.block_next.ensures c.requires.analysed
    c.requires.stamped c.if-block_next.true c.step_block.ensures c.in_err-step_block.was)

pub returns-then-block_next : goal.returns-then-block_next
returns-then-block_next c =
    step_block c.args.tables.now c.args.state.now c.step_block.new.state c.args.stamps.now c.block_next.ensures c.requires.analysed c.requires.stamped
    c.if-block_next.true c.step_block.ensures c.in_ok-step_block.was

pub returns-then-idle : goal.returns-then-idle
returns-then-idle c =
    let F = facing c.requires.analysed c.requires.steady c.args.state.now.ready c.requires.len_nonzero.1 c.requires.record_of c.requires.front c.block_next.ensures c.if-block_next.false in
    step_insn c.args.tables.now c.args.state.now c.take_insn.new.self c.args.stamps.now c.block_next.ensures c.if-block_next.false
    (idle_taken c.args.tables.now c.args.state.now c.args.stamps.now F c.requires.stamped (c.idle.ensures c.if-idle.true) c.take_insn.ensures)

pub returns-in_err-visit_insn : goal.returns-in_err-visit_insn
returns-in_err-visit_insn c =
    let e : c.from_residual-in_err-visit_insn.result ≡ Err c.in_err-visit_insn.field-0.0 = search rules in
    rw e (stamps_are c.args.tables.now (search rules) (step_insn c.args.tables.now c.args.state.now c.visit_insn.new.state c.args.stamps.now c.block_next.ensures c.if-block_next.false
    (rw c.in_err-visit_insn.was at c.visit_insn.ensures.timely)))

pub returns : goal.returns
returns c =
    stamps_are c.args.tables.now (search rules) (step_insn c.args.tables.now c.args.state.now c.visit_insn.new.state c.args.stamps.now c.block_next.ensures c.if-block_next.false
    (rw c.in_ok-visit_insn.was at c.visit_insn.ensures.timely))

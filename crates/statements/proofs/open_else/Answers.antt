-- `statements::open_else` meets its contract. Assumes nothing.
use native.Mathlib.Omega.{arith}
use Rattle.lexer.proofs.Tried.{failed}
use Rattle.statements.proofs.Readers.{open_no, open_no2, open_old, open_part, open_yes}
use Rattle.statements.proofs.open_else.Goals as goal

pub returns-in_err-b-clause-opens : goal.returns-in_err-b-clause-opens
returns-in_err-b-clause-opens c = λ c₀ a. rw (failed _ c.from_residual.ensures.1) (open_no c.args.p.now c.args.q c.requires.reading a c.new_block.ensures c.in_err-b.was)

pub returns-in_err-add_end-clause-opens : goal.returns-in_err-add_end-clause-opens
returns-in_err-add_end-clause-opens c = λ c₀ a. rw (failed _ c.from_residual-in_err-add_end.ensures.1)
    (open_no2 c.args.p.now c.args.q c.requires.reading a c.new_block.ensures c.in_ok-b.was c.add_end.ensures c.in_err-add_end.was)

pub overflow_sub-p : goal.overflow_sub-p
overflow_sub-p c = open_old c.args.p.now c.args.q c.requires.reading c.requires.arm.arm c.new_block.ensures c.in_ok-b.was c.add_end.ensures c.in_ok-add_end.was

pub set_aside-n-requires-clause-k_bound : goal.set_aside-n-requires-clause-k_bound
set_aside-n-requires-clause-k_bound c = open_part c.args.p.now c.args.q c.requires.reading c.requires.arm.arm c.new_block.ensures c.in_ok-b.was c.add_end.ensures c.in_ok-add_end.was

pub overflow_add-p : goal.overflow_add-p
overflow_add-p c = omega (
  arith,
  (open_part c.args.p.now c.args.q c.requires.reading c.requires.arm.arm c.new_block.ensures c.in_ok-b.was c.add_end.ensures
      c.in_ok-add_end.was).1,
  c.set_aside-n.ensures.less,
)

pub returns-clause-opens : goal.returns-clause-opens
returns-clause-opens c = λ c₀ a. record { opens = open_yes c.args.p.now c.args.q c.requires.reading a c.new_block.ensures c.in_ok-b.was c.add_end.ensures c.in_ok-add_end.was c.set_aside-n.ensures }

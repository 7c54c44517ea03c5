-- `machine::opnds::choose` meets its contract. Assumes nothing.
use mathlib.Core.Path.{◌≡◌, refl}
use Rattle.std.specs.Prelude.{Ok, Err}
use borrow.Author.Rules.{rules}
use Rattle.state.specs.Changes.{Every}
use Rattle.state.specs.Methods.{Did}
use Rattle.machine.proofs.opnds.Acting.{push_block_if, block_pushed, block_passed, choice_both, choice_stop}
use Rattle.machine.proofs.opnds.choose.Goals.{Joined-admits, then-admits+in_ok-push_block, else-admits}
use Rattle.machine.proofs.opnds.choose.Goals as goal

-- the then arm waits where it is admitted
first : (c : Joined-admits) → Did Every (λ L p. push_block_if L p c.admits.result c.args.t.0) c.args.state.now c.if-admits.state (Ok tt)
first c = elim c.if-admits.branch [
  | then-admits+in_ok-push_block w ↦ rw w.state-is (block_pushed _ _ _ _ w.if-admits.true (rw w.in_ok-push_block.was at w.push_block.ensures))
  | else-admits w ↦ rw w.state-is (block_passed _ _ _ w.if-admits.false)
]

pub returns-in_err-push_block : goal.returns-in_err-push_block
returns-in_err-push_block c =
    let e : c.from_residual.result ≡ Err c.in_err-push_block.field-0.0 = search rules in
    rw e (choice_stop c.args.state.now c.args.o c.args.t.0 c.args.e.0 (rw (c.tables.ensures.0, c.tables.ensures.1) at c.kind_of-k.ensures) c.admits.ensures refl
    (block_pushed _ _ _ _ c.if-admits.true c.push_block.ensures) c.in_err-push_block.was)

pub returns-in_err-push_block-2 : goal.returns-in_err-push_block-2
returns-in_err-push_block-2 c =
    let e : c.from_residual-in_err-push_block-2.result ≡ Err c.in_err-push_block-2.field-0.0 = search rules in
    rw e (choice_both c.args.state.now c.args.o c.args.t.0 c.args.e.0
    (rw (c.tables.ensures.0, c.tables.ensures.1) at c.kind_of-k.ensures) c.admits.ensures c.admits-2.ensures _
    (first (goal.at.returns-in_err-push_block-2 c).Joined-admits) refl
    (block_pushed _ _ _ _ c.if-admits-2.true (rw c.in_err-push_block-2.was at c.push_block-then-admits-2.ensures)))

pub returns-in_ok-push_block-2 : goal.returns-in_ok-push_block-2
returns-in_ok-push_block-2 c =
    choice_both c.args.state.now c.args.o c.args.t.0 c.args.e.0
    (rw (c.tables.ensures.0, c.tables.ensures.1) at c.kind_of-k.ensures) c.admits.ensures c.admits-2.ensures _
    (first (goal.at.returns-in_ok-push_block-2 c).Joined-admits) refl
    (block_pushed _ _ _ _ c.if-admits-2.true (rw c.in_ok-push_block-2.was at c.push_block-then-admits-2.ensures))

pub returns-else-admits-2 : goal.returns-else-admits-2
returns-else-admits-2 c =
    choice_both c.args.state.now c.args.o c.args.t.0 c.args.e.0 (rw (c.tables.ensures.0, c.tables.ensures.1) at c.kind_of-k.ensures) c.admits.ensures c.admits-2.ensures _
    (first (goal.at.returns-else-admits-2 c).Joined-admits) refl (block_passed _ _ _ c.if-admits-2.false)

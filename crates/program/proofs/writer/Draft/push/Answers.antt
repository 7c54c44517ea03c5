-- `program::writer::Draft::push` meets its contract. Assumes nothing.
use Rattle.std.proofs.lemmas.Result.{err_from_is_err_and}
use Rattle.program.proofs.Refusing.{positive}
use Rattle.program.proofs.Calling.{given_ready, args_fit, args_ready, push_room, push_stop, push_grew}
use Rattle.program.proofs.writer.Draft.push.Goals as goal

pub returns-in_err-may_push-clause-did : goal.returns-in_err-may_push-clause-did
returns-in_err-may_push-clause-did c =
    let p = err_from_is_err_and c.from_residual.result c.from_residual.ensures.1 in
    rw (p.1, p.2) (search (push_stop, positive, c.in_err-may_push.ensures))

pub invariant_of-self : goal.invariant_of-self
invariant_of-self c = search (given_ready, c.in_ok-may_push.ensures)

pub copy_opnds-requires : goal.copy_opnds-requires
copy_opnds-requires c = search (args_fit, c.in_ok-may_push.ensures)

pub invariant_of-self-2 : goal.invariant_of-self-2
invariant_of-self-2 c = search (args_ready, c.in_ok-may_push.ensures)

pub commit-requires : goal.commit-requires
commit-requires c = search (push_room, c.in_ok-may_push.ensures)

pub returns-clause-did : goal.returns-clause-did
returns-clause-did c = search (push_grew, c.in_ok-may_push.ensures)

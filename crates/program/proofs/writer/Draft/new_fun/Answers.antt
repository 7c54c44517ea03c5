-- `program::writer::Draft::new_fun` meets its contract. Assumes nothing.
use Rattle.std.proofs.lemmas.Result.{err_from_is_err_and}
use Rattle.program.proofs.Adding.{fun_no_block, fun_full, fun_after, fun_grew}
use Rattle.program.proofs.writer.Draft.new_fun.Goals as goal

pub returns-in_err-entry-clause-did : goal.returns-in_err-entry-clause-did
returns-in_err-entry-clause-did c =
    let p = err_from_is_err_and c.from_residual.result c.from_residual.ensures.1 in
    rw (p.1, p.2) (search (fun_no_block, c.in_err-entry.ensures))

pub returns-then-self-n-clause-did : goal.returns-then-self-n-clause-did
returns-then-self-n-clause-did c = search fun_full

pub invariant_of-self : goal.invariant_of-self
invariant_of-self c = search (fun_after, c.in_ok-entry.ensures)

pub returns-clause-did : goal.returns-clause-did
returns-clause-did c = search (fun_grew, c.in_ok-entry.ensures)

-- `uses::compute_uses` meets its contract. Assumes nothing.
use Rattle.uses.proofs.Laying.{lay_start, copy_start, copy_done, on_room, lay_done, copy_rises, copy_room, copy_more}
use borrow.Author.Rules.{rules}
use Rattle.uses.proofs.Linking.{cell_some, cell_none}
use native.Mathlib.Omega.{arith}
use Rattle.uses.proofs.compute_uses.Goals as goal

pub loop-j-init : goal.loop-j-init
loop-j-init c =
    lay_start c.args.program.now.ready _ _ _ c.requires.instructions_most_bound.0 c.requires.instructions_most_bound.1

pub loop-i-init : goal.loop-i-init
loop-i-init c =
    copy_start c.args.program.now.ready _ _ _
    c.requires.instructions_most_bound.0 c.requires.instructions_most_bound.1
    c.loop-j.invariant c.linked-cells.ensures (omega arith)

pub prove-unreachable-requires : goal.prove-unreachable-requires
prove-unreachable-requires c =
    let cell = cell_some _ _ c.user.ensures c.in-Some.is in
    omega (arith, c.if-prove.true, copy_room c.args.program.now.ready _ _ c.requires.instructions_most_bound.0 c.loop-i.invariant cell.0)

pub overflow_add-h : goal.overflow_add-h
overflow_add-h c =
    let cell = cell_some _ _ c.user.ensures c.in-Some.is in
    omega (arith, cell.0)

pub offset_bounds-cells-h : goal.offset_bounds-cells-h
offset_bounds-cells-h c =
    let cell = cell_some _ _ c.user.ensures c.in-Some.is in
    omega (arith, cell.0)

pub bounds-cells-h : goal.bounds-cells-h
bounds-cells-h c =
    let cell = cell_some _ _ c.user.ensures c.in-Some.is in
    search rules

pub loop-i-smaller : goal.loop-i-smaller
loop-i-smaller c =
    let cell = cell_some _ _ c.user.ensures c.in-Some.is in
    omega (arith, cell.0, copy_rises c.args.program.now.ready _ _ c.requires.instructions_most_bound.0 c.loop-i.invariant cell.0)

pub loop-i-preserved : goal.loop-i-preserved
loop-i-preserved c =
    let cell = cell_some _ _ c.user.ensures c.in-Some.is in
    rw cell.1 (copy_more c.args.program.now.ready _ _
    c.requires.instructions_most_bound.0 c.loop-i.invariant cell.0
    (on_room c.args.program.now.ready _ _ _
    c.requires.instructions_most_bound.0
    c.requires.instructions_most_bound.1
    c.loop-j.invariant))

pub loop-j-preserved : goal.loop-j-preserved
loop-j-preserved c =
    copy_done c.args.program.now.ready _ _ _
    c.requires.instructions_most_bound.0
    c.requires.instructions_most_bound.1 c.loop-j.invariant c.loop-i.invariant
    (cell_none _ _ c.user.ensures (search rules))

pub returns : goal.returns
returns c =
    lay_done c.args.program.now.ready _ _ _ c.requires.instructions_most_bound.0
    c.requires.instructions_most_bound.1 c.loop-j.invariant (omega arith)

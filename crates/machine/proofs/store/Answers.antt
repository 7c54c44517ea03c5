-- `machine::store` meets its contract. Assumes nothing.
use mathlib.Core.Path.{◌≡◌}
use native.Mathlib.Omega.{arith}
use Rattle.std.specs.Prelude.{Err}
use borrow.Author.Rules.{rules}
use Rattle.kinds.proofs.Same.{eq_same, ne_same}
use Rattle.machine.proofs.Storing.{start-few, users-inside, users-listed, refused_way, same_way, new_way}
use Rattle.machine.proofs.store.Goals as goal

pub returns-in_err-union : goal.returns-in_err-union
returns-in_err-union c =
    let e : c.from_residual.result ≡ Err c.in_err-union.field-0.0 = search rules in
    let p = c.args.program.now in
    rw e (refused_way p.words.now p.counts c.args.users.now c.args.state.now c.requires.users p.ready c.requires.machine_sized c.args.i.0 c.args.k c.requires.i_lt_insns
    c.kind_at-old.ensures c.union.ensures c.in_err-union.field-0.0 c.in_err-union.was)

pub returns-then-eq : goal.returns-then-eq
returns-then-eq c =
    let p = c.args.program.now in
    same_way p.words.now p.counts c.args.users.now c.args.state.now c.requires.users p.ready c.requires.machine_sized c.args.i.0 c.args.k c.requires.i_lt_insns
    c.kind_at-old.ensures c.union.ensures c.in_ok-union.field-0 c.in_ok-union.was (eq_same _ _ (search rules))

pub overflow_add-from-2 : goal.overflow_add-from-2
overflow_add-from-2 c = let f = start-few c.args.program.now.words.now c.args.program.now.counts c.args.users.now c.requires.users
    c.args.state.now.sizes c.requires.machine_sized c.args.i.0 c.requires.i_lt_insns in
    rw c.index-n.ensures (record { fits = omega (arith, f.0) })

pub overflow_add-to-3 : goal.overflow_add-to-3
overflow_add-to-3 c = let f = start-few c.args.program.now.words.now c.args.program.now.counts c.args.users.now c.requires.users
    c.args.state.now.sizes c.requires.machine_sized c.args.i.0 c.requires.i_lt_insns in
    rw c.index-n.ensures (record { fits = omega (arith, f.1) })

pub offset_bounds-users-from : goal.offset_bounds-users-from
offset_bounds-users-from c = let f = start-few c.args.program.now.words.now c.args.program.now.counts c.args.users.now c.requires.users
    c.args.state.now.sizes c.requires.machine_sized c.args.i.0 c.requires.i_lt_insns in
    rw c.index-n.ensures (record { fits = omega (arith, f.0) })

pub slice_bounds-push_users-end : goal.slice_bounds-push_users-end
slice_bounds-push_users-end c = let f = users-inside c.args.program.now.words.now c.args.program.now.counts c.args.users.now c.requires.users
    c.args.state.now.sizes c.requires.machine_sized c.args.i.0 c.requires.i_lt_insns in
    rw c.index-n.ensures (omega (arith, f))

pub push_users-requires-clause-listed : goal.push_users-requires-clause-listed
push_users-requires-clause-listed c =
    rw (c.set_kind.ensures.lent.sizes, c.index-n.ensures) (users-listed c.args.program.now.words.now c.args.program.now.counts c.args.users.now c.requires.users
    c.args.state.now.sizes c.requires.machine_sized c.args.i.0 c.requires.i_lt_insns)

pub returns : goal.returns
returns c =
    let p = c.args.program.now in
    new_way p.words.now p.counts c.args.users.now c.args.state.now c.requires.users p.ready c.requires.machine_sized c.args.i.0 c.args.k c.requires.i_lt_insns
    c.kind_at-old.ensures c.union.ensures c.in_ok-union.field-0 c.push_users.result c.in_ok-union.was (ne_same _ _ (search rules)) c.set_kind.ensures (rw c.index-n.ensures at c.push_users.ensures)

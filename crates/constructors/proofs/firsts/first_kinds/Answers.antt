-- `constructors::firsts::first_kinds` meets its contract. Assumes nothing.
use Rattle.std.proofs.lemmas.Result.{err_from_is_err_and}
use Rattle.constructors.proofs.firsts.Laws.{ctor_below, entry-below, first-none, first_refused, first_some}
use Rattle.constructors.proofs.firsts.first_kinds.Goals.{in-Some+in_ok-bits-in-Some, in-None}
use Rattle.constructors.proofs.firsts.first_kinds.Goals as goal

pub fun-requires : goal.fun-requires
fun-requires c = ctor_below c.constructor_of.ensures c.in-Some.is

pub analyze_ctor-requires : goal.analyze_ctor-requires
analyze_ctor-requires c = record {
  walk_size_in_bounds = (
    c.requires.walk_size_in_bounds.0,
    (c.requires.walk_size_in_bounds.1, entry-below c.requires.entries (ctor_below c.constructor_of.ensures c.in-Some.is) c.fun.ensures.row),
  );
}

pub returns-in_err-bits-in-Some : goal.returns-in_err-bits-in-Some
returns-in_err-bits-in-Some c =
    let p = err_from_is_err_and c.from_residual.result c.from_residual.ensures.1 in
    rw (p.1, p.2)
    (first_refused c.args.flow.now.indexed.program.script.now c.args.flow.now.indexed.program.words.now c.args.flow.now.indexed.program.counts c.args.k.0
    c.requires.walk_size_in_bounds.1 (c.args.flow.now.indexed.program.ready.ivars _ c.requires.walk_size_in_bounds.1) c.constructor_of.ensures c.in-Some.is
    (ctor_below c.constructor_of.ensures c.in-Some.is) c.fun.ensures.row c.in_err-bits-in-Some.ensures _ _ _)

pub returns : goal.returns
returns c =
    elim c.match-constructor_of.branch [
      | in-Some+in_ok-bits-in-Some w ↦
          first_some c.args.flow.now.indexed.program.script.now c.args.flow.now.indexed.program.words.now c.args.flow.now.indexed.program.counts c.args.k.0
          c.requires.walk_size_in_bounds.1 (c.args.flow.now.indexed.program.ready.ivars _ c.requires.walk_size_in_bounds.1) c.constructor_of.ensures w.in-Some.is
          (ctor_below c.constructor_of.ensures w.in-Some.is) w.fun.ensures.row w.in_ok-bits-in-Some.ensures (rw (w.bits-is, c.index-row.ensures, c.ivars_of-n.ensures) at c.put_kinds.ensures)
      | in-None w ↦
          first-none c.args.flow.now.indexed.program.script.now c.args.flow.now.indexed.program.words.now c.args.flow.now.indexed.program.counts c.args.k.0
          c.requires.walk_size_in_bounds.1 (c.args.flow.now.indexed.program.ready.ivars _ c.requires.walk_size_in_bounds.1) c.constructor_of.ensures w.in-None.is
          (rw (w.bits-is, c.index-row.ensures, c.ivars_of-n.ensures) at c.put_kinds.ensures)
    ]

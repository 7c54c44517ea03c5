-- `call::analyze_script` meets its contract. Assumes nothing.
use native.Mathlib.Omega.{arith}
use borrow.Author.Rules.{rules}
use Rattle.call.proofs.Laws.{tables_room, tables_read, reading_refused, reading_finished, parsed, sized_kept}
use Rattle.call.proofs.analyze_script.Goals as goal

pub slice_bounds-read-end-2 : goal.slice_bounds-read-end-2
slice_bounds-read-end-2 c = omega (arith, tables_room c.requires)

pub read-requires-clause-program_size_in_bounds : goal.read-requires-clause-program_size_in_bounds
read-requires-clause-program_size_in_bounds c = omega (arith, tables_room c.requires)

pub returns-in_err-counts : goal.returns-in_err-counts
returns-in_err-counts c = record {
  is = reading_refused _ _ (tables_read c.requires c.read.ensures c.read.auto.program) c.args.answer.now c.in_err-counts.was (search rules);
  sized = search (rules, sized_kept);
}

pub analyze_program-requires-clause-parsed : goal.analyze_program-requires-clause-parsed
analyze_program-requires-clause-parsed c = parsed _ _ (tables_read c.requires c.read.ensures c.read.auto.program) c.in_ok-counts.was

pub returns : goal.returns
returns c = record {
  is = reading_finished _ _ (tables_read c.requires c.read.ensures c.read.auto.program) c.in_ok-counts.was _ _ c.analyze_program.ensures;
  sized = record { answer = search rules; program = search rules; state = search rules };
}

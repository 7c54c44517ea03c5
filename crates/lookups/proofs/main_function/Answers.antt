-- `lookups::main_function` meets its contract. Assumes nothing.
use Rattle.std.proofs.Common.{rules, tests, arith, ◌∙◌}
use Rattle.lookups.specs.Look.{is_main, fun_row}
use Rattle.lookups.proofs.Finds.{final_found, found_or}
use Rattle.lookups.proofs.Rows.{main_is_found}
use Rattle.lookups.proofs.main_function.Goals as goal

pub overflow_cast-result : goal.overflow_cast-result
overflow_cast-result c =
    let found = final_found is_main (fun_row c.args.program.now.script.now c.args.program.now.words.now) _ c.rev.ensures.source c.find-found.ensures.ran (λ x b q k. search (rules, tests)) in
    omega (arith, found_or _ _ found, c.unwrap_or.ensures, c.args.program.now.ready.functions)

pub returns : goal.returns
returns c =
    let found = final_found is_main (fun_row c.args.program.now.script.now c.args.program.now.words.now) _ c.rev.ensures.source c.find-found.ensures.ran (λ x b q k. search (rules, tests)) in
    c.unwrap_or.ensures ∙ main_is_found c.args.program.now.script.now c.args.program.now.words.now c.args.program.now.counts _ found.is

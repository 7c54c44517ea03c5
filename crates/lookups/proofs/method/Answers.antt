-- `lookups::method` meets its contract. Assumes nothing.
use Rattle.std.proofs.Common.{rules, tests, arith, ap, ◌∙◌}
use Rattle.lookups.specs.Look.{is_method, fun_row, fun_found}
use Rattle.lookups.proofs.Finds.{first_found, found_none, found_some, found_here}
use Rattle.lookups.proofs.Rows.{method_is_found, methods_from}
use Rattle.lookups.proofs.method.Goals as goal

pub returns-in_err-i-clause-is : goal.returns-in_err-i-clause-is
returns-in_err-i-clause-is c =
    let found = first_found (is_method c.args.k.0 c.args.wanted.now)
    (fun_row c.args.program.now.script.now c.args.program.now.words.now) _ c.find.ensures.ran (methods_from _ _ c.first_function-from.ensures)
    (λ x b q k. search (rules, tests)) in
    ap fun_found c.from_residual.ensures ∙ method_is_found c.args.program.now.script.now c.args.program.now.words.now c.args.program.now.counts _ _ (found_none _ _ found c.in_err-i.was)

pub overflow_cast-result : goal.overflow_cast-result
overflow_cast-result c =
    let found = first_found (is_method c.args.k.0 c.args.wanted.now)
    (fun_row c.args.program.now.script.now c.args.program.now.words.now) _ c.find.ensures.ran (methods_from _ _ c.first_function-from.ensures)
    (λ x b q k. search (rules, tests)) in
    let here = found_here _ _ found c.in_ok-i.was in
    omega (arith, here.0, c.args.program.now.ready.functions)

pub returns-clause-is : goal.returns-clause-is
returns-clause-is c =
    let found = first_found (is_method c.args.k.0 c.args.wanted.now)
    (fun_row c.args.program.now.script.now c.args.program.now.words.now) _ c.find.ensures.ran (methods_from _ _ c.first_function-from.ensures)
    (λ x b q k. search (rules, tests)) in
    method_is_found c.args.program.now.script.now c.args.program.now.words.now c.args.program.now.counts _ _ (found_some _ _ found c.in_ok-i.was)

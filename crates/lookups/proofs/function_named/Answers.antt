-- `lookups::function_named` meets its contract. Assumes nothing.
use Rattle.std.proofs.Common.{rules, tests, arith, ap, ◌∙◌}
use Rattle.lookups.specs.Look.{is_fun, fun_row, fun_found}
use Rattle.lookups.proofs.Finds.{final_found, found_none, found_some, found_here}
use Rattle.lookups.proofs.Rows.{fun_is_found}
use Rattle.lookups.proofs.function_named.Goals as goal

pub returns-in_err-i : goal.returns-in_err-i
returns-in_err-i c =
    let found = final_found (is_fun c.name-wanted.result.now)
    (fun_row c.args.program.now.script.now c.args.program.now.words.now) _ c.rev.ensures.source c.find.ensures.ran
    (λ x b q k. search (rules, tests)) in
    ap fun_found c.from_residual.ensures ∙ fun_is_found c.args.program.now.script.now c.args.program.now.words.now c.args.program.now.counts
    c.name-wanted.ensures
    (found_none _ _ found c.in_err-i.was)

pub overflow_cast-result : goal.overflow_cast-result
overflow_cast-result c =
    let found = final_found (is_fun c.name-wanted.result.now)
    (fun_row c.args.program.now.script.now c.args.program.now.words.now) _ c.rev.ensures.source c.find.ensures.ran
    (λ x b q k. search (rules, tests)) in
    let here = found_here _ _ found c.in_ok-i.was in
    omega (arith, here.0, c.args.program.now.ready.functions)

pub returns : goal.returns
returns c =
    let found = final_found (is_fun c.name-wanted.result.now)
    (fun_row c.args.program.now.script.now c.args.program.now.words.now) _ c.rev.ensures.source c.find.ensures.ran
    (λ x b q k. search (rules, tests)) in
    fun_is_found c.args.program.now.script.now c.args.program.now.words.now c.args.program.now.counts c.name-wanted.ensures (found_some _ _ found c.in_ok-i.was)

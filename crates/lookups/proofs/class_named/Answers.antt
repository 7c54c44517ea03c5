-- `lookups::class_named` meets its contract. Assumes nothing.
use Rattle.std.proofs.Common.{rules, tests, arith, ap, ◌∙◌}
use Rattle.program.specs.Rows.{class_at, owner_in}
use Rattle.lookups.specs.Look.{is_class}
use Rattle.lookups.proofs.Finds.{final_found, found_none, found_some, found_here}
use Rattle.lookups.proofs.Rows.{class_is_found}
use Rattle.lookups.proofs.class_named.Goals as goal

pub returns-in_err-i : goal.returns-in_err-i
returns-in_err-i c =
    let found = final_found (is_class c.name-wanted.result.now)
    (class_at c.args.program.now.script.now c.args.program.now.words.now) _ c.rev.ensures.source c.find.ensures.ran
    (λ x b q k. search (rules, tests)) in
    class_is_found c.args.program.now.script.now c.args.program.now.words.now c.args.program.now.counts c.args.k c.args.n c.known.ensures
    c.from_residual.result c.name-wanted.ensures
    (ap owner_in c.from_residual.ensures ∙ found_none _ _ found c.in_err-i.was)

pub overflow_cast-result : goal.overflow_cast-result
overflow_cast-result c =
    let found = final_found (is_class c.name-wanted.result.now)
    (class_at c.args.program.now.script.now c.args.program.now.words.now) _ c.rev.ensures.source c.find.ensures.ran
    (λ x b q k. search (rules, tests)) in
    let here = found_here _ _ found c.in_ok-i.was in
    omega (arith, here.0, c.known.ensures, c.args.program.now.ready.classes)

pub returns : goal.returns
returns c =
    let found = final_found (is_class c.name-wanted.result.now)
    (class_at c.args.program.now.script.now c.args.program.now.words.now) _ c.rev.ensures.source c.find.ensures.ran
    (λ x b q k. search (rules, tests)) in
    class_is_found c.args.program.now.script.now c.args.program.now.words.now c.args.program.now.counts c.args.k c.args.n c.known.ensures _
    c.name-wanted.ensures
    (found_some _ _ found c.in_ok-i.was)

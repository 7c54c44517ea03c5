-- `lookups::ivar_named` meets its contract. Assumes nothing.
use Rattle.std.proofs.Common.{rules, tests, arith}
use Rattle.lookups.specs.Look.{is_ivar, ivar_row}
use Rattle.lookups.proofs.Finds.{first_found}
use Rattle.lookups.proofs.Rows.{ivar_is_found}
use Rattle.lookups.proofs.ivar_named.Goals as goal

pub returns : goal.returns
returns c =
    let found = first_found (is_ivar c.name-wanted.result.now)
    (ivar_row c.args.program.now.script.now c.args.program.now.words.now c.args.k.0) _ c.find.ensures.ran (λ j h. absurd (omega arith))
    (λ x b q k. search (rules, tests)) in
    ivar_is_found c.args.program.now.script.now c.args.program.now.words.now c.args.program.now.counts c.args.k.0 c.requires c.name-wanted.ensures (rw c.ivars_of.ensures at found.is)

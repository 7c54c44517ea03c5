-- `statements::finish_else` meets its contract. Assumes nothing.
use mathlib.Core.Path.{ap}
use Rattle.cursor.specs.Parsers.{parsed_in, moved_in}
use Rattle.lexer.proofs.Tried.{failed}
use Rattle.cursor.proofs.Kept.{after_none, after_kept, did_of}
use Rattle.statements.proofs.Paths.{both_no, both_yes}
use Rattle.statements.proofs.Standing.{finish_arms}
use Rattle.statements.proofs.finish_else.Goals as goal

pub returns-in_err-join_vars-clause-finishes : goal.returns-in_err-join_vars-clause-finishes
returns-in_err-join_vars-clause-finishes c = λ c₀ e i.
    let a1 = after_kept (after_none c.args.p.now) c.join_vars.ensures.kept in
    rw (failed _ c.from_residual.ensures.1)
    (finish_arms a1 (both_no c.args.p.now.program.limits c.args.q c.args.b c.args.y (c.join_vars.ensures.joins c₀ e i).joins (ap (moved_in c.join_vars.new.p) c.in_err-join_vars.was)))

pub returns-clause-finishes : goal.returns-clause-finishes
returns-clause-finishes c = λ c₀ e i.
    let a1 = after_kept (after_none c.args.p.now) c.join_vars.ensures.kept in
    finish_arms (after_kept a1 c.join_value.ensures.kept)
    (both_yes c.args.p.now.program.limits c.args.q c.args.b c.args.y (c.join_vars.ensures.joins c₀ e i).joins (ap (moved_in c.join_vars.new.p) c.in_ok-join_vars.was)
    {p = parsed_in c.join_value.new.p c.join_value.result} (did_of a1 c.join_value.ensures))

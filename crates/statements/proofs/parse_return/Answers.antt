-- `statements::parse_return` meets its contract. Assumes nothing.
use mathlib.Core.Path.{ap}
use Rattle.cursor.specs.Parsers.{parsed_in, moved_in}
use Rattle.lexer.proofs.Tried.{failed}
use Rattle.cursor.proofs.Kept.{after_none, after_kept, after_adds, finish}
use Rattle.statements.proofs.Paths.{return_no, return_no2, return_yes}
use Rattle.statements.proofs.Standing.{adds_of}
use Rattle.statements.proofs.parse_return.Goals as goal

pub returns-in_err-v : goal.returns-in_err-v
returns-in_err-v c =
    rw (failed _ c.from_residual.ensures.1)
    (finish (after_kept (after_none c.args.p.now) c.parse_expr.ensures.kept)
    (return_no c.args.p.now.program.limits _ c.args.depth {p = parsed_in c.parse_expr.new.p c.parse_expr.result} c.parse_expr.ensures.did (ap (parsed_in c.parse_expr.new.p) c.in_err-v.was)))

pub returns-in_err-add_end : goal.returns-in_err-add_end
returns-in_err-add_end c =
    let a1 = after_kept (after_none c.args.p.now) c.parse_expr.ensures.kept in
    rw (failed _ c.from_residual-in_err-add_end.ensures.1)
    (finish (after_adds a1 c.add_end.ensures.kept)
    (return_no2 c.args.p.now.program.limits _ c.args.depth {p = parsed_in c.parse_expr.new.p c.parse_expr.result} c.parse_expr.ensures.did (ap (parsed_in c.parse_expr.new.p) c.in_ok-v.was)
    (adds_of a1 c.add_end.ensures) (ap (moved_in c.add_end.new.p) c.in_err-add_end.was)))

pub returns : goal.returns
returns c =
    let a1 = after_kept (after_none c.args.p.now) c.parse_expr.ensures.kept in
    finish (after_adds a1 c.add_end.ensures.kept)
    (return_yes c.args.p.now.program.limits _ c.args.depth {p = parsed_in c.parse_expr.new.p c.parse_expr.result} c.parse_expr.ensures.did (ap (parsed_in c.parse_expr.new.p) c.in_ok-v.was)
    (adds_of a1 c.add_end.ensures) (ap (moved_in c.add_end.new.p) c.in_ok-add_end.was))

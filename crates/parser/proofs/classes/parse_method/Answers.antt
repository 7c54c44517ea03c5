-- `parser::classes::parse_method` meets its contract. Assumes nothing.
use Rattle.std.proofs.Common.{rules}
use Rattle.lexer.proofs.Tried.{failed}
use Rattle.parser.proofs.classes.Readers.{method_no, method_yes, method_other}
use Rattle.parser.proofs.classes.parse_method.Goals as goal

pub returns-in_err-f : goal.returns-in_err-f
returns-in_err-f c =
    rw (failed _ c.from_residual.ensures.1) (method_no c.args.p.now c.args.k c.parse_fun.ensures c.in_err-f.was)

pub returns-then-eq : goal.returns-then-eq
returns-then-eq c =
    let e = c.program_so_far-program.ensures in
    method_yes c.args.p.now c.args.k c.parse_fun.ensures c.in_ok-f.was (rw (e.words, e.counts) at c.fun-x.ensures) _ (rw (e.script, e.words, e.counts) at c.method_named.ensures) (search rules)

pub returns : goal.returns
returns c =
    let e = c.program_so_far-program.ensures in
    method_other c.args.p.now c.args.k c.parse_fun.ensures c.in_ok-f.was (rw (e.words, e.counts) at c.fun-x.ensures) _ (rw (e.script, e.words, e.counts) at c.method_named.ensures) (search rules)

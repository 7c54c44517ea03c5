-- `parser::classes::parse_class` meets its contract. Assumes nothing.
use mathlib.Core.Path.{sym, ◌∙◌}
use Rattle.lexer.proofs.Tried.{failed}
use Rattle.parser.proofs.classes.Readers.{class_no, class_no2, class_no3, class_twice, class_single}
use Rattle.parser.proofs.classes.parse_class.Goals as goal

pub returns-in_err-n : goal.returns-in_err-n
returns-in_err-n c =
    rw (failed _ c.from_residual.ensures.1) (class_no c.args.p.now c.requires.rests c.expect_ident.ensures c.in_err-n.was)

pub returns-in_err-k : goal.returns-in_err-k
returns-in_err-k c =
    rw (failed _ c.from_residual-in_err-k.ensures.1) (class_no2 c.args.p.now c.requires.rests c.expect_ident.ensures c.in_ok-n.was c.new_class.ensures.kept _ c.new_class.ensures.did c.in_err-k.was)

pub returns-in_err-parse_members : goal.returns-in_err-parse_members
returns-in_err-parse_members c =
    rw (failed _ c.from_residual-in_err-parse_members.ensures.1)
    (class_no3 c.args.p.now c.requires.rests c.expect_ident.ensures c.in_ok-n.was c.new_class.ensures.kept _ c.new_class.ensures.did c.in_ok-k.was _ c.parse_members.ensures
    c.in_err-parse_members.was)

pub returns-then-is_some : goal.returns-then-is_some
returns-then-is_some c =
    let e = c.program_so_far-program.ensures in
    class_twice c.args.p.now c.requires.rests c.expect_ident.ensures c.in_ok-n.was c.new_class.ensures.kept _ c.new_class.ensures.did c.in_ok-k.was _ c.parse_members.ensures
    c.in_ok-parse_members.was _ (rw (e.script, e.words, e.counts) at c.class_named.ensures) (sym c.is_some.ensures ∙ c.if-is_some.true)

pub returns : goal.returns
returns c =
    let e = c.program_so_far-program.ensures in
    class_single c.args.p.now c.requires.rests c.expect_ident.ensures c.in_ok-n.was c.new_class.ensures.kept _ c.new_class.ensures.did c.in_ok-k.was _ c.parse_members.ensures
    c.in_ok-parse_members.was _ (rw (e.script, e.words, e.counts) at c.class_named.ensures) (sym c.is_some.ensures ∙ c.if-is_some.false) c.requires.class_value

-- `parser::parse_top` meets its contract. Assumes nothing.
use Rattle.lexer.proofs.Tried.{failed}
use Rattle.parser.proofs.Readers.{top_none, top_ends, top_def_no, top_def, top_class_no, top_class, top_other}
use Rattle.parser.proofs.parse_top.Goals as goal

pub returns-in_err-x : goal.returns-in_err-x
returns-in_err-x c =
    rw (failed _ c.from_residual.ensures.1) (top_none c.args.p.now c.requires.rests c.peek.ensures c.in_err-x.was)

pub returns-in-EndOfText : goal.returns-in-EndOfText
returns-in-EndOfText c = top_ends c.args.p.now c.requires.rests c.peek.ensures c.in_ok-x.was c.in-EndOfText.is

pub returns-in_err-parse_fun-in-Def : goal.returns-in_err-parse_fun-in-Def
returns-in_err-parse_fun-in-Def c =
    rw (failed _ c.from_residual-in_err-parse_fun-in-Def.ensures.1)
    (top_def_no c.args.p.now c.requires.rests c.peek.ensures c.in_ok-x.was c.in-Def.is c.parse_fun.ensures c.in_err-parse_fun-in-Def.was)

pub returns-in_ok-parse_fun-in-Def : goal.returns-in_ok-parse_fun-in-Def
returns-in_ok-parse_fun-in-Def c = top_def c.args.p.now c.requires.rests c.peek.ensures c.in_ok-x.was c.in-Def.is c.parse_fun.ensures c.in_ok-parse_fun-in-Def.was

pub returns-in_err-parse_class-in-Class : goal.returns-in_err-parse_class-in-Class
returns-in_err-parse_class-in-Class c =
    rw (failed _ c.from_residual-in_err-parse_class-in-Class.ensures.1)
    (top_class_no c.args.p.now c.requires.rests c.peek.ensures c.in_ok-x.was c.in-Class.is _ c.parse_class.ensures
    c.in_err-parse_class-in-Class.was)

pub returns-in_ok-parse_class-in-Class : goal.returns-in_ok-parse_class-in-Class
returns-in_ok-parse_class-in-Class c = top_class c.args.p.now c.requires.rests c.peek.ensures c.in_ok-x.was c.in-Class.is _ c.parse_class.ensures c.in_ok-parse_class-in-Class.was

pub returns-in_default : goal.returns-in_default
returns-in_default c =
    top_other c.args.p.now c.requires.rests c.peek.ensures c.in_ok-x.was c.in_default.not-EndOfText c.in_default.not-Def c.in_default.not-Class

-- `parser::classes::parse_member` meets its contract. Assumes nothing.
use Rattle.lexer.proofs.Tried.{failed}
use Rattle.parser.proofs.classes.Readers.{member_none, member_over, member_ends, member_def_no, member_def, member_attr_no, member_attr, member_other}
use Rattle.parser.proofs.classes.parse_member.Goals as goal

pub returns-in_err-x : goal.returns-in_err-x
returns-in_err-x c =
    rw (failed _ c.from_residual.ensures.1) (member_none c.args.p.now c.args.k c.requires.rests c.peek.ensures c.in_err-x.was)

pub returns-in-EndOfText : goal.returns-in-EndOfText
returns-in-EndOfText c = member_over c.args.p.now c.args.k c.requires.rests c.peek.ensures c.in_ok-x.was c.in-EndOfText.is

pub returns-in-End : goal.returns-in-End
returns-in-End c = member_ends c.args.p.now c.args.k c.requires.rests c.peek.ensures c.in_ok-x.was c.in-End.is

pub returns-in_err-parse_method-in-Def : goal.returns-in_err-parse_method-in-Def
returns-in_err-parse_method-in-Def c =
    rw (failed _ c.from_residual-in_err-parse_method-in-Def.ensures.1)
    (member_def_no c.args.p.now c.args.k c.requires.rests c.peek.ensures c.in_ok-x.was c.in-Def.is _ c.parse_method.ensures c.in_err-parse_method-in-Def.was)

pub returns-in_ok-parse_method-in-Def : goal.returns-in_ok-parse_method-in-Def
returns-in_ok-parse_method-in-Def c =
    member_def c.args.p.now c.args.k c.requires.rests c.peek.ensures c.in_ok-x.was c.in-Def.is _ c.parse_method.ensures c.in_ok-parse_method-in-Def.was

pub returns-in_err-parse_attr-in-AttrAccessor : goal.returns-in_err-parse_attr-in-AttrAccessor
returns-in_err-parse_attr-in-AttrAccessor c =
    rw (failed _ c.from_residual-in_err-parse_attr-in-AttrAccessor.ensures.1)
    (member_attr_no c.args.p.now c.args.k c.requires.rests c.peek.ensures c.in_ok-x.was c.in-AttrAccessor.is _ c.parse_attr.ensures c.in_err-parse_attr-in-AttrAccessor.was)

pub returns-in_ok-parse_attr-in-AttrAccessor : goal.returns-in_ok-parse_attr-in-AttrAccessor
returns-in_ok-parse_attr-in-AttrAccessor c =
    member_attr c.args.p.now c.args.k c.requires.rests c.peek.ensures c.in_ok-x.was c.in-AttrAccessor.is _ c.parse_attr.ensures c.in_ok-parse_attr-in-AttrAccessor.was

pub returns-in_default : goal.returns-in_default
returns-in_default c =
    member_other c.args.p.now c.args.k c.requires.rests c.peek.ensures c.in_ok-x.was c.in_default.not-EndOfText c.in_default.not-End c.in_default.not-Def
    c.in_default.not-AttrAccessor

-- What the functions here do to a parser. Assumes nothing.
use Rattle.std.specs.Prelude.{◌≡◌, ℕ, Result, Ok, Err}
use Rattle.ids.specs.declared.FunId.{FunId}
use Rattle.refusals.specs.declared.Refusal.{Refusal}
use Rattle.refusals.specs.Refusals.{number_of}
use Rattle.program.specs.declared.Name.{Name}
use Rattle.cursor.specs.Parsers.{cursor_of, moved_in, ParserKept, AddsKept}
use Rattle.cursor.specs.declared.Parser.{Parser}
use Rattle.functions.specs.outcomes.OpenedFun.{OpenedFun}
use Rattle.functions.specs.params.Promises.{Params, PushesParam, PushesParams, PushesSelf, Funs}

-- a function, with the parser behind it
abbrev pub fun_in : Parser → Result FunId Refusal → OpenedFun
fun_in p (Ok f) = OpenedFun.Done (cursor_of p) f
fun_in p (Err e) = OpenedFun.Refused (number_of e)

-- names wait; the program stays
pub record ParserParams (p p' : Parser) (r : Result (Unit {0}) Refusal) : Type 0 where
  pub kept : ParserKept p p'
  pub program : p'.program ≡ p.program
  pub named : Params p.script.now p.scratch.now (cursor_of p) p'.scratch.now (moved_in p' r)

-- the k-th name is bound
pub record ParserParam (k : ℕ) (p p' : Parser) (r : Result (Unit {0}) Refusal) : Type 0 where
  pub kept : ParserKept p p'
  pub pushes : PushesParam p.program.limits k p.program.words.now p.scratch.now (cursor_of p) p'.program.words.now p'.scratch.now (moved_in p' r)

-- all names are bound
pub record ParserBinds (p p' : Parser) (r : Result (Unit {0}) Refusal) : Type 0 where
  pub kept : ParserKept p p'
  pub pushes : PushesParams p.program.limits p.program.words.now p.scratch.now (cursor_of p) p'.program.words.now p'.scratch.now (moved_in p' r)

-- a method's receiver is there
pub record ParserSelf (p p' : Parser) (r : Result (Unit {0}) Refusal) : Type 0 where
  pub kept : AddsKept p p'
  pub pushes : PushesSelf p.program.limits p.program.words.now (cursor_of p) p'.program.words.now (moved_in p' r)

-- a function is there
pub record ParserEnters (n : Name) (p p' : Parser) (r : Result FunId Refusal) : Type 0 where
  pub kept : AddsKept p p'
  pub funs : Funs p.program.limits n p.program.words.now (cursor_of p) p'.program.words.now (fun_in p' r)

-- What the readers of functions rely on of a parser, and what they do to it. Assumes nothing.
use Rattle.std.specs.Prelude.{List, ℕ, Result}
use Rattle.ids.specs.declared.FunId.{FunId}
use Rattle.refusals.specs.declared.Refusal.{Refusal}
use Rattle.rules.specs.Program as P
use Rattle.rules.specs.Reading.{Reads}
use Rattle.program.specs.View.{limits_of}
use Rattle.cursor.specs.Promises.{Out, moved_of}
use Rattle.cursor.specs.Parsers.{cursor_of, moved_in, ParserKept}
use Rattle.cursor.specs.declared.Parser.{Parser}
use Rattle.functions.specs.params.Promises.{ParamsFilled}
use Rattle.functions.specs.params.Parsers.{fun_in}
use Rattle.functions.specs.Bodies.{clear_cur, Heads, Rests, Takes, BodyBegun, Taken}

-- the names of a function's parameters wait, for its receiver and parameters, or for its whole body
abbrev pub HeadWaits : Parser → Type 0
HeadWaits p = ParamsFilled p.program.words.now p.scratch.now (clear_cur (cursor_of p))

abbrev pub BodyWaits : Parser → Type 0
BodyWaits p = BodyBegun p.script.now p.program.words.now p.scratch.now (cursor_of p)

-- between functions
abbrev pub Resting : Parser → Type 0
Resting p = Rests p.script.now p.program.words.now p.scratch.now (cursor_of p)

-- an answer without a value, with the parser behind it
abbrev pub through : Parser → Result (Unit {0}) Refusal → Out (Unit {0})
through p r = moved_of (moved_in p r)

pub record ParserHeads (p p' : Parser) (r : Result (Unit {0}) Refusal) : Type 0 where
  pub kept : ParserKept p p'
  pub heads : Heads p.program.limits p.program.words.now p.scratch.now (cursor_of p) p'.program.words.now p'.scratch.now (moved_in p' r)

-- f for the parser's limits and script, over at least k bytes, from between functions to between functions
pub record ParserTakes {A : Type 0} (f : P.Limits → List ℕ → Reads A) (k : ℕ) (p p' : Parser) (o : Out A) : Type 0 where
  pub kept : ParserKept p p'
  pub takes : Takes (f (limits_of p.program.limits) p.script.now) k p.script.now p.program.words.now p.scratch.now (cursor_of p)
      p'.program.words.now p'.scratch.now o

-- a function is read
pub record ParserTaken (p p' : Parser) (r : Result FunId Refusal) : Type 0 where
  pub kept : ParserKept p p'
  pub taken : Taken p.program.limits p.script.now p.program.words.now p.scratch.now (cursor_of p) p'.program.words.now p'.scratch.now (fun_in p' r)

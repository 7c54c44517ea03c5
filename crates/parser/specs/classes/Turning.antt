-- Classes, and readers of one thing among several: what they promise. Assumes nothing.
use Rattle.std.specs.Prelude.{Bool as 𝔹, true, false, List, ℕ, ◌<◌, Option, Result, Ok, Err}
use Rattle.ids.specs.declared.ClassId.{ClassId}
use Rattle.refusals.specs.declared.Refusal.{Refusal}
use Rattle.refusals.specs.Refusals.{number_of}
use Rattle.rules.specs.Actions.{Turn, again, ends}
use Rattle.rules.specs.Program as P
use Rattle.rules.specs.Reading.{Reads}
use Rattle.program.specs.View.{limits_of}
use Rattle.cursor.specs.Promises.{Out, done, stop}
use Rattle.cursor.specs.Cursor.{Cursor}
use Rattle.cursor.specs.Parsers.{cursor_of, ParserKept}
use Rattle.cursor.specs.declared.Parser.{Parser}
use Rattle.functions.specs.Bodies.{Takes}
use Rattle.parser.specs.classes.Turned.{Turned, Again, Ends, Refused}

abbrev pub class_cur : Option ClassId → Cursor → Cursor
class_cur k c = record { at = c.at; counts = c.counts; class = k; receiver = c.receiver; block = c.block; vars = c.vars; aside = c.aside; args = c.args }

abbrev pub turned_of : Turned → Out (Turn (Unit {0}) (Unit {0}))
turned_of (Again c) = done (again tt) c
turned_of (Ends c) = done (ends tt) c
turned_of (Refused e) = stop e

-- a turn that goes on has moved
abbrev pub FurtherIf : Cursor → Turned → Type 0
FurtherIf c (Again c') = c.at < c'.at
FurtherIf c (Ends c') = Unit {0}
FurtherIf c (Refused e) = Unit {0}

-- one turn of a loop over things
pub record Turns (f : Reads (Turn (Unit {0}) (Unit {0}))) (s m w : List ℕ) (c : Cursor) (m' w' : List ℕ) (r : Turned) : Type 0 where
  pub takes : Takes f 0 s m w c m' w' (turned_of r)
  pub further : FurtherIf c r

-- ---- the same of a parser

abbrev pub turned_if : Parser → 𝔹 → Turned
turned_if p true = Again (cursor_of p)
turned_if p false = Ends (cursor_of p)

abbrev pub turned_in : Parser → Result 𝔹 Refusal → Turned
turned_in p (Ok b) = turned_if p b
turned_in p (Err e) = Refused (number_of e)

pub record ParserTurns (f : P.Limits → List ℕ → Reads (Turn (Unit {0}) (Unit {0}))) (p p' : Parser) (r : Result 𝔹 Refusal) : Type 0 where
  pub kept : ParserKept p p'
  pub turns : Turns (f (limits_of p.program.limits) p.script.now) p.script.now p.program.words.now p.scratch.now (cursor_of p)
      p'.program.words.now p'.scratch.now (turned_in p' r)

-- The parser as the laws see it: its cursor, what stays of it, and what a reader does to it. Assumes nothing.
use Rattle.std.specs.Prelude.{Bool as 𝔹, true, false, ◌≡◌, List, ℕ, Result, Ok, Err, length}
use Rattle.refusals.specs.declared.Refusal.{Refusal}
use Rattle.refusals.specs.Refusals.{number_of}
use Rattle.rules.specs.Program as P
use Rattle.rules.specs.Reading.{Reads}
use Rattle.lexer.specs.declared.Token.{Token}
use Rattle.program.specs.View.{limits_of}
use Rattle.program.specs.declared.Name.{Name}
use Rattle.program.specs.declared.Opnd.{Opnd}
use Rattle.cursor.specs.Cursor.{Cursor, In, Open}
use Rattle.cursor.specs.Promises.{Out, CursorDid, Idents, Expects, CursorMatches, parsed_of, parsed_at}
use Rattle.cursor.specs.outcomes.Parsed.{Parsed}
use Rattle.cursor.specs.outcomes.Moved.{Moved}
use Rattle.cursor.specs.outcomes.Ident.{Ident}
use Rattle.cursor.specs.outcomes.Matched.{Matched}
use Rattle.cursor.specs.declared.Parser.{Parser}

abbrev pub cursor_of : Parser → Cursor
cursor_of p =
    record {
      at = p.at;
      counts = p.program.counts;
      class = p.class;
      receiver = p.receiver;
      block = p.block;
      vars = p.vars;
      aside = p.aside;
      args = p.args;
    }

-- inside a function
abbrev pub Reading : Parser → Type 0
Reading p = In p.script.now p.program.words.now p.scratch.now (cursor_of p)

-- an instruction may be added
abbrev pub CanAdd : Parser → Type 0
CanAdd p = Open p.program.words.now (cursor_of p)

-- the script and the limits stay, and the parser goes on in the same memories, which keep their lengths, after a refusal too
pub record ParserKept (p p' : Parser) : Type 0 where
  pub script : p'.script ≡ p.script
  pub limits : p'.program.limits ≡ p.program.limits
  pub words_loan : p'.program.words.ghost_name ≡ p.program.words.ghost_name
  pub scratch_loan : p'.scratch.ghost_name ≡ p.scratch.ghost_name
  pub words_room : length p'.program.words.now ≡ length p.program.words.now
  pub scratch_room : length p'.scratch.now ≡ length p.scratch.now

-- the same where only the program grows
pub record AddsKept (p p' : Parser) : Type 0 where
  pub kept : ParserKept p p'
  pub scratch : p'.scratch.now ≡ p.scratch.now

-- the place in the script is another, and nothing else
abbrev pub placed : ℕ → Parser → Parser
placed at p = record p { at = at }

-- ---- answers, with the parser behind them

abbrev pub parsed_in : Parser → Result Opnd Refusal → Parsed
parsed_in p r = parsed_at (cursor_of p) r

abbrev pub moved_in : Parser → Result (Unit {0}) Refusal → Moved
moved_in p (Ok u) = Moved.On (cursor_of p)
moved_in p (Err e) = Moved.Refused (number_of e)

abbrev pub ident_in : Parser → Result Name Refusal → Ident
ident_in p (Ok n) = Ident.Found (cursor_of p) n
ident_in p (Err e) = Ident.Refused (number_of e)

abbrev pub matched_if : Parser → 𝔹 → Matched
matched_if p true = Matched.Yes (cursor_of p)
matched_if p false = Matched.Not

abbrev pub matched_in : Parser → Result 𝔹 Refusal → Matched
matched_in p (Ok b) = matched_if p b
matched_in p (Err e) = Matched.Refused (number_of e)

abbrev pub operand : Parser → Result Opnd Refusal → Out P.Opnd
operand p r = parsed_of (parsed_in p r)

-- ---- the readers of one word

pub record ParserIdents (p p' : Parser) (r : Result Name Refusal) : Type 0 where
  pub same : p' ≡ placed p'.at p
  pub idents : Idents p.script.now (cursor_of p) (ident_in p' r)

pub record ParserExpects (k : Token) (p p' : Parser) (r : Result (Unit {0}) Refusal) : Type 0 where
  pub same : p' ≡ placed p'.at p
  pub expects : Expects p.script.now k (cursor_of p) (moved_in p' r)

pub record ParserMatches (k : Token) (p p' : Parser) (r : Result 𝔹 Refusal) : Type 0 where
  pub same : p' ≡ placed p'.at p
  pub matches : CursorMatches p.script.now k (cursor_of p) (matched_in p' r)
  pub stays : r ≡ Ok false → p' ≡ p

-- ---- what a reader does: the rules' action for its limits and its script, over at least k bytes

pub record ParserDid {A : Type 0} (f : P.Limits → List ℕ → Reads A) (k : ℕ) (p p' : Parser) (o : Out A) : Type 0 where
  pub kept : ParserKept p p'
  pub did : CursorDid (f (limits_of p.program.limits) p.script.now) k p.script.now p.program.words.now p.scratch.now (cursor_of p)
      p'.program.words.now p'.scratch.now o

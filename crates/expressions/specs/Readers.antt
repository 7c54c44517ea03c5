-- What the readers of arguments and of what follows an operand promise. Assumes nothing.
use Rattle.std.specs.Prelude.{Bool as 𝔹, true, false, ◌≡◌, List, ℕ, ◌+◌, ◌-◌, ◌*◌, ◌≤◌, ◌<◌, Option, Some, None, Result, Ok, Err}
use Rattle.refusals.specs.declared.Refusal.{Refusal}
use Rattle.refusals.specs.Refusals.{number_of}
use Rattle.program.specs.View.{limits_of}
use Rattle.cursor.specs.Parsers.{cursor_of, ParserKept}
use Rattle.cursor.specs.declared.Parser.{Parser}
use Rattle.rules.specs.Actions.{Turn, again, ends}
use Rattle.rules.specs.Program as P
use Rattle.rules.specs.Reading.{Reads, parse_arg}
use Rattle.program.specs.Rows.{opnd_of}
use Rattle.program.specs.declared.Opnd.{Opnd}
use Rattle.cursor.specs.Cursor.{parser_of, waiting, stack_cur, In, CursorStep}
use Rattle.cursor.specs.Promises.{Out, done, stop, outcome, CursorDid}
use Rattle.cursor.specs.Cursor.{Cursor}
use Rattle.cursor.specs.outcomes.Parsed.{Parsed}
use Rattle.memory.specs.Layout.{operands_most}
use Rattle.expressions.specs.outcomes.ArgTurn.{ArgTurn}
use Rattle.expressions.specs.outcomes.Args.{Args}
use Rattle.expressions.specs.outcomes.Suffixed.{Suffixed}

abbrev pub again_of : Parsed → Suffixed
again_of (Parsed.Done c v) = Suffixed.Again c v
again_of (Parsed.Refused e) = Suffixed.Refused e

abbrev pub taken_of : ℕ → Cursor → Args
taken_of base c = Args.Done (stack_cur base c) (c.args - base)

-- ---- one argument; those of its call are the waiting ones from the k-th on

abbrev pub arg_of : List ℕ → ℕ → ArgTurn → Out (Turn (List P.Opnd) (List P.Opnd))
arg_of w k (ArgTurn.Again c) = done (again (waiting w k (c.args - k))) c
arg_of w k (ArgTurn.Ends c) = done (ends (waiting w k (c.args - k))) c
arg_of w k (ArgTurn.Refused e) = stop e

pub record ArgStep (k : ℕ) (s w : List ℕ) (c : Cursor) (m' w' : List ℕ) (c' : Cursor) : Type 0 where
  pub here : In s m' w' c'
  pub step : CursorStep k c w (stack_cur c.args c') w'
  pub more : c.args ≤ c'.args

abbrev pub ArgOk : List ℕ → List ℕ → Cursor → List ℕ → List ℕ → ArgTurn → Type 0
ArgOk s w c m' w' (ArgTurn.Again c') = ArgStep 1 s w c m' w' c' × (2 * c'.args < c'.at)
ArgOk s w c m' w' (ArgTurn.Ends c') = ArgStep 0 s w c m' w' c'
ArgOk s w c m' w' (ArgTurn.Refused e) = Unit {0}

pub record ArgDid (L : P.Limits) (s : List ℕ) (E : ℕ → Reads P.Opnd) (m w : List ℕ) (c : Cursor) (m' w' : List ℕ) (r : ArgTurn) : Type 0 where
  pub is : (k : ℕ) → k ≤ c.args → outcome s m' w' (arg_of w' k r) ≡ parse_arg L s E (waiting w k (c.args - k)) (parser_of s m w c)
  pub ok : ArgOk s w c m' w' r

-- ---- all arguments of a call, which then stand behind those that wait

abbrev pub args_of : List ℕ → ℕ → Args → Out (List P.Opnd)
args_of w k (Args.Done c n) = done (waiting w k n) c
args_of w k (Args.Refused e) = stop e

pub record ArgsDid (f : Reads (List P.Opnd)) (s m w : List ℕ) (c : Cursor) (m' w' : List ℕ) (r : Args) : Type 0 where
  pub did : CursorDid f 1 s m w c m' w' (args_of w' c.args r)
  pub few : (c' : Cursor) (n : ℕ) → r ≡ Args.Done c' n → c'.args + n ≤ operands_most

-- ---- one thing behind an operand; where there is none, nothing moves

abbrev pub suffixed_of : Cursor → Opnd → Suffixed → Out (Turn P.Opnd P.Opnd)
suffixed_of c v (Suffixed.Again c' v') = done (again (opnd_of v')) c'
suffixed_of c v Suffixed.Ends = done (ends (opnd_of v)) c
suffixed_of c v (Suffixed.Refused e) = stop e

pub record SuffixDid (f : Reads (Turn P.Opnd P.Opnd)) (v : Opnd) (s m w : List ℕ) (c : Cursor) (m' w' : List ℕ) (r : Suffixed) : Type 0 where
  pub did : CursorDid f 0 s m w c m' w' (suffixed_of c v r)
  pub further : (c' : Cursor) (v' : Opnd) → r ≡ Suffixed.Again c' v' → c.at < c'.at

-- ---- answers, with the parser behind them

abbrev pub arg_if : Parser → 𝔹 → ArgTurn
arg_if p true = ArgTurn.Again (cursor_of p)
arg_if p false = ArgTurn.Ends (cursor_of p)

abbrev pub arg_in : Parser → Result 𝔹 Refusal → ArgTurn
arg_in p (Ok b) = arg_if p b
arg_in p (Err e) = ArgTurn.Refused (number_of e)

abbrev pub args_in : Parser → Result ℕ Refusal → Args
args_in p (Ok n) = Args.Done (cursor_of p) n
args_in p (Err e) = Args.Refused (number_of e)

abbrev pub suffix_if : Parser → Option Opnd → Suffixed
suffix_if p (Some v) = Suffixed.Again (cursor_of p) v
suffix_if p None = Suffixed.Ends

abbrev pub suffix_in : Parser → Result (Option Opnd) Refusal → Suffixed
suffix_in p (Ok o) = suffix_if p o
suffix_in p (Err e) = Suffixed.Refused (number_of e)

-- ---- what the readers do, by the rules' actions for the parser's limits and its script; E reads expressions

pub record ParserArg (E : P.Limits → List ℕ → ℕ → Reads P.Opnd) (p p' : Parser) (r : Result 𝔹 Refusal) : Type 0 where
  pub kept : ParserKept p p'
  pub did : ArgDid (limits_of p.program.limits) p.script.now (E (limits_of p.program.limits) p.script.now) p.program.words.now p.scratch.now (cursor_of p)
      p'.program.words.now p'.scratch.now (arg_in p' r)

pub record ParserArgs (f : P.Limits → List ℕ → Reads (List P.Opnd)) (p p' : Parser) (r : Result ℕ Refusal) : Type 0 where
  pub kept : ParserKept p p'
  pub did : ArgsDid (f (limits_of p.program.limits) p.script.now) p.script.now p.program.words.now p.scratch.now (cursor_of p)
      p'.program.words.now p'.scratch.now (args_in p' r)

pub record ParserSuffix (f : P.Limits → List ℕ → Reads (Turn P.Opnd P.Opnd)) (v : Opnd) (p p' : Parser) (r : Result (Option Opnd) Refusal) : Type 0 where
  pub kept : ParserKept p p'
  pub did : SuffixDid (f (limits_of p.program.limits) p.script.now) v p.script.now p.program.words.now p.scratch.now (cursor_of p)
      p'.program.words.now p'.scratch.now (suffix_in p' r)
  pub stays : r ≡ Ok None → p' ≡ p

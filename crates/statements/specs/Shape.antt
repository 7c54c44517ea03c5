-- Cursors inside an `if`, and what its readers promise. Assumes nothing.
use Rattle.std.specs.Prelude.{Bool as 𝔹, true, false, ◌≡◌, List, map, ℕ, ◌+◌, ◌-◌, ◌*◌, ◌≤◌, ◌<◌, Option, Some, None, Result, Ok, Err}
use Rattle.refusals.specs.declared.Refusal.{Refusal}
use Rattle.refusals.specs.Refusals.{number_of}
use Rattle.ids.specs.declared.BlockId.{BlockId}
use Rattle.rules.specs.Actions.{◌>>=◌, give}
use Rattle.rules.specs.Program as P
use Rattle.rules.specs.Reading.{Reads, new_block, end_block}
use Rattle.rules.specs.Reading as R
use Rattle.variables.specs.Scopes.{Bindings, over, env_of}
use Rattle.variables.specs.Memory.{made, vars, row, Kept}
use Rattle.program.specs.Rows.{opnd_of, given, op_in}
use Rattle.program.specs.View as View
use Rattle.program.specs.declared.Given.{Given}
use Rattle.program.specs.declared.bounds.Limits.{Limits}
use Rattle.program.specs.declared.Op.{Op}
use Rattle.program.specs.declared.Opnd.{Opnd}
use Rattle.lexer.specs.declared.Word.{Word}
use Rattle.phis.specs.declared.Blocks.{Blocks}
use Rattle.cursor.specs.Cursor.{Cursor, parser_of, count_cur, In}
use Rattle.cursor.specs.Promises.{Out, done, stop, outcome, CursorAfter, CursorAdds, Sees, moved_of, parsed_of}
use Rattle.cursor.specs.outcomes.Moved.{Moved}
use Rattle.cursor.specs.outcomes.Parsed.{Parsed}
use Rattle.cursor.specs.Parsers.{cursor_of, AddsKept, parsed_in, moved_in}
use Rattle.cursor.specs.declared.Parser.{Parser}
use Rattle.variables.specs.Layout.{bindings_most}
use Rattle.statements.specs.outcomes.Opened.{Opened}
use Rattle.statements.specs.outcomes.Opened as O
use Rattle.statements.specs.outcomes.Stops.{Stops}
use Rattle.statements.specs.outcomes.Stops as H
use Rattle.statements.specs.declared.Before.{Before}
use Rattle.statements.specs.declared.Branch.{Branch}
use Rattle.statements.specs.Acts.{add_end, stops_at, open_else, join_arms, finish_else}

-- ---- a cursor with one part changed

abbrev pub block_cur : BlockId → Cursor → Cursor
block_cur b c = record { at = c.at; counts = c.counts; class = c.class; receiver = c.receiver; block = b; vars = c.vars; aside = c.aside; args = c.args }

abbrev pub vars_cur : ℕ → ℕ → Cursor → Cursor
vars_cur n top c = record { at = c.at; counts = c.counts; class = c.class; receiver = c.receiver; block = c.block; vars = n; aside = top; args = c.args }

-- ---- answers

abbrev pub opened_of : Opened → Out ℕ
opened_of (O.On c b) = done b.0 c
opened_of (O.Refused e) = stop e

abbrev pub stops_of : Cursor → Stops → Out 𝔹
stops_of c H.Here = done true c
stops_of c (H.Not x) = done false c
stops_of c (H.Refused e) = stop e

unfoldable pub halts : List ℕ → 𝔹 → Reads 𝔹
halts s arm = do
  x ← R.peek s
  give (stops_at arm x)

pub record Halts (s : List ℕ) (arm : 𝔹) (c : Cursor) (r : Stops) : Type 0 where
  pub is : (m w : List ℕ) → outcome s m w (stops_of c r) ≡ halts s arm (parser_of s m w c)
  pub next : (x : Word) → r ≡ H.Not x → Sees s c (Ok x)

-- ---- additions to the tables

-- a block is opened: no other part of the cursor changes
pub record Wider (m' : List ℕ) (c c' : Cursor) : Type 0 where
  pub ready : View.ProgramReady m' c'.counts
  pub cur : c' ≡ count_cur c'.counts c
  pub functions : c'.counts.functions ≡ c.counts.functions
  pub classes : c'.counts.classes ≡ c.counts.classes
  pub blocks : c.counts.blocks ≤ c'.counts.blocks

abbrev pub Widened : List ℕ → Cursor → Out ℕ → Type 0
Widened m' c (done b c') = Wider m' c c' × (b < c'.counts.blocks)
Widened m' c (stop e) = Unit {0}

pub record Opens (l : Limits) (m : List ℕ) (c : Cursor) (m' : List ℕ) (r : Opened) : Type 0 where
  pub is : (s w : List ℕ) → outcome s m' w (opened_of r) ≡ new_block (View.limits_of l) (parser_of s m w c)
  pub ok : Widened m' c (opened_of r)

-- a terminator is added to block b
pub record AddsEnd (l : Limits) (b : BlockId) (op : Op) (g : Given) (m : List ℕ) (c : Cursor) (m' : List ℕ) (r : Moved) : Type 0 where
  pub adds : (s w : List ℕ) → CursorAdds s w (add_end (View.limits_of l) b.0 (op_in s op (map opnd_of (given g)))) m c m' (moved_of r)

-- the block that takes instructions gets a terminator, unless it has one
pub record EndsBlock (l : Limits) (op : Op) (g : Given) (m : List ℕ) (c : Cursor) (m' : List ℕ) (r : Moved) : Type 0 where
  pub adds : (s w : List ℕ) (t : P.Terminator) → op_in s op (map opnd_of (given g)) ≡ P.Ends t → CursorAdds s w (end_block (View.limits_of l) s t) m c m' (moved_of r)

-- ---- inside an `if` whose condition was read up to c₀

pub record StatementInside (c₀ c : Cursor) : Type 0 where
  pub on : c₀.at ≤ c.at
  pub old : c₀.vars ≤ c.vars
  pub low : bindings_most ≤ c₀.aside
  pub above : c₀.aside ≤ c.aside
  pub paid : 2 * (c.vars + c.aside) + c₀.at ≤ 2 * (c₀.vars + c₀.aside) + c.at
  pub args : c.args ≡ c₀.args
  pub class : c.class ≡ c₀.class
  pub receiver : c.receiver ≡ c₀.receiver
  pub functions : c₀.counts.functions ≤ c.counts.functions
  pub classes : c₀.counts.classes ≤ c.counts.classes
  pub blocks : c₀.counts.blocks ≤ c.counts.blocks

-- f, from c on; of a done reading what a step from c₀ keeps
pub record DidFrom {A : Type 0} (f : Reads A) (k : ℕ) (s m w : List ℕ) (c₀ c : Cursor) (m' w' : List ℕ) (o : Out A) : Type 0 where
  pub is : outcome s m' w' o ≡ f (parser_of s m w c)
  pub ok : CursorAfter k s c₀ w m' w' o

-- what the first arm bound lies aside as a row, and the second arm's first block takes instructions
pub record StatementAside (s w : List ℕ) (c₀ c : Cursor) (m' w' : List ℕ) (b : ℕ) (c' : Cursor) : Type 0 where
  pub here : In s m' w' c'
  pub inside : StatementInside c₀ c'
  pub vars : c'.vars ≡ c₀.vars
  pub block : c'.block.0 ≡ b
  pub row : row s w' c₀.aside (c'.aside - c₀.aside) ≡ env_of (made s w c₀.vars (c.vars - c₀.vars))
  pub blocks : c.counts.blocks ≤ c'.counts.blocks
  pub low : Kept 0 c₀.aside w w'

abbrev pub AsideIf : List ℕ → List ℕ → Cursor → Cursor → List ℕ → List ℕ → Out ℕ → Type 0
AsideIf s w c₀ c m' w' (done b c') = StatementAside s w c₀ c m' w' b c'
AsideIf s w c₀ c m' w' (stop e) = Unit {0}

pub record OpensElse (l : Limits) (s m w : List ℕ) (c₀ c : Cursor) (q : Branch) (m' w' : List ℕ) (r : Opened) : Type 0 where
  pub is : outcome s m' w' (opened_of r) ≡ open_else (View.limits_of l) s c₀.block.0 (vars s w c₀.vars) (opnd_of q.cond) q.first.0 (parser_of s m w c)
  pub ok : AsideIf s w c₀ c m' w' (opened_of r)

-- the row aside is what the left arm bound, whatever bindings it is made of
pub record JoinsArms (l : Limits) (s m w : List ℕ) (c₀ c : Cursor) (q : Blocks) (m' w' : List ℕ) (r : Moved) : Type 0 where
  pub is : (left : Bindings) → row s w c₀.aside (c.aside - c₀.aside) ≡ env_of left
      → outcome s m' w' (moved_of r) ≡ join_arms (View.limits_of l) s q.at.0 (vars s w c₀.vars) q.left.0 (over left (vars s w c₀.vars)) q.right.0 (vars s w c.vars) (parser_of s m w c)
  pub ok : CursorAfter 0 s c₀ w m' w' (moved_of r)

pub record FinishesElse (l : Limits) (s m w : List ℕ) (c₀ c : Cursor) (q : Branch) (b : BlockId) (y : Opnd) (m' w' : List ℕ) (r : Parsed) : Type 0 where
  pub is : (left : Bindings) → row s w c₀.aside (c.aside - c₀.aside) ≡ env_of left
      → outcome s m' w' (parsed_of r)
      ≡ finish_else (View.limits_of l) s (vars s w c₀.vars) q.join.0 q.first.0 (over left (vars s w c₀.vars)) q.last.0 (opnd_of q.value) b.0 (opnd_of y) (parser_of s m w c)
  pub ok : CursorAfter 1 s c₀ w m' w' (parsed_of r)

-- what an `if` keeps of the place c₀ where it begins
abbrev pub before_of : Cursor → Before
before_of c = record { block = c.block; vars = c.vars; aside = c.aside }

-- an arm was read: nothing of it is aside, and the block before the `if` and the join are there
pub record Arm (c₀ c : Cursor) (q : Branch) : Type 0 where
  pub place : q.before ≡ before_of c₀
  pub inside : StatementInside c₀ c
  pub aside : c.aside ≡ c₀.aside
  pub before : c₀.block.0 < c.counts.blocks
  pub join : q.join.0 < c.counts.blocks

-- the same, wherever the `if` began
pub record InArm (c : Cursor) (q : Branch) : Type 0 where
  pub from : Cursor
  pub arm : Arm from c q

pub record Within (c : Cursor) (b : Before) : Type 0 where
  pub from : Cursor
  pub place : b ≡ before_of from
  pub inside : StatementInside from c

-- ---- answers, with the parser behind them

abbrev pub opened_in : Parser → Result BlockId Refusal → Opened
opened_in p (Ok b) = O.On (cursor_of p) b
opened_in p (Err e) = O.Refused (number_of e)

abbrev pub stops_if : Option Word → Stops
stops_if (Some x) = H.Not x
stops_if None = H.Here

abbrev pub stops_in : Result (Option Word) Refusal → Stops
stops_in (Ok o) = stops_if o
stops_in (Err e) = H.Refused (number_of e)

-- ---- what the readers do to a parser

pub record ParserOpens (p p' : Parser) (r : Result BlockId Refusal) : Type 0 where
  pub kept : AddsKept p p'
  pub opens : Opens p.program.limits p.program.words.now (cursor_of p) p'.program.words.now (opened_in p' r)

pub record ParserAddsEnd (b : BlockId) (op : Op) (g : Given) (p p' : Parser) (r : Result (Unit {0}) Refusal) : Type 0 where
  pub kept : AddsKept p p'
  pub adds : AddsEnd p.program.limits b op g p.program.words.now (cursor_of p) p'.program.words.now (moved_in p' r)

pub record ParserEndsBlock (op : Op) (g : Given) (p p' : Parser) (r : Result (Unit {0}) Refusal) : Type 0 where
  pub kept : AddsKept p p'
  pub ends : EndsBlock p.program.limits op g p.program.words.now (cursor_of p) p'.program.words.now (moved_in p' r)

pub record ParserDidFrom {A : Type 0} (f : P.Limits → List ℕ → Reads A) (k : ℕ) (c₀ : Cursor) (p p' : Parser) (o : Out A) : Type 0 where
  pub did : DidFrom (f (View.limits_of p.program.limits) p.script.now) k p.script.now p.program.words.now p.scratch.now c₀ (cursor_of p)
      p'.program.words.now p'.scratch.now o

pub record ParserOpensElse (c₀ : Cursor) (q : Branch) (p p' : Parser) (r : Result BlockId Refusal) : Type 0 where
  pub opens : OpensElse p.program.limits p.script.now p.program.words.now p.scratch.now c₀ (cursor_of p) q p'.program.words.now p'.scratch.now (opened_in p' r)

pub record ParserJoinsArms (c₀ : Cursor) (q : Blocks) (p p' : Parser) (r : Result (Unit {0}) Refusal) : Type 0 where
  pub joins : JoinsArms p.program.limits p.script.now p.program.words.now p.scratch.now c₀ (cursor_of p) q p'.program.words.now p'.scratch.now (moved_in p' r)

pub record ParserFinishesElse (c₀ : Cursor) (q : Branch) (b : BlockId) (y : Opnd) (p p' : Parser) (r : Result Opnd Refusal) : Type 0 where
  pub finishes : FinishesElse p.program.limits p.script.now p.program.words.now p.scratch.now c₀ (cursor_of p) q b y
      p'.program.words.now p'.scratch.now (parsed_in p' r)

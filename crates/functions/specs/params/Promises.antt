-- What each function relies on and promises. Assumes nothing.
use Rattle.std.specs.Prelude.{◌≡◌, List, [], ℕ, ◌+◌, ◌*◌, ◌≤◌, ◌<◌, length, get_or, Option, Result, Ok, Err}
use Rattle.ids.specs.declared.BlockId.{BlockId}
use Rattle.ids.specs.declared.InsnId.{InsnId}
use Rattle.refusals.specs.declared.Refusal.{Refusal}
use Rattle.refusals.specs.Refusals.{number_of}
use Rattle.rules.specs.Actions.{loop}
use Rattle.rules.specs.Program as P
use Rattle.rules.specs.Reading.{parse_param, turns, push_params, push_self, new_fun}
use Rattle.variables.specs.Memory.{Kept}
use Rattle.program.specs.Rows.{name_in, owner_in}
use Rattle.program.specs.View as View
use Rattle.program.specs.declared.Counts.{Counts}
use Rattle.program.specs.declared.bounds.Limits.{Limits}
use Rattle.program.specs.declared.Name.{Name}
use Rattle.cursor.specs.Cursor.{Cursor, parser_of, move_cur, count_cur, stack_cur}
use Rattle.cursor.specs.Promises.{Out, done, stop, outcome, moved_of}
use Rattle.cursor.specs.outcomes.Moved.{Moved, On, Refused}
use Rattle.memory.specs.Layout.{script_most, operands_most}
use Rattle.variables.specs.Layout.{bindings_most, entries_most}
use Rattle.cursor.specs.Layout.{stack_at, scratch_size}
use Rattle.functions.specs.outcomes.OpenedFun.{OpenedFun}
use Rattle.functions.specs.params.Names.{name_at, names_in, Lie, param_of}

-- ---- a cursor with some parts changed

abbrev pub receive_cur : Option InsnId → Cursor → Cursor
receive_cur r c = record { at = c.at; counts = c.counts; class = c.class; receiver = r; block = c.block; vars = c.vars; aside = c.aside; args = c.args }

abbrev pub enter_cur : Counts → BlockId → Cursor → Cursor
enter_cur n b c = record { at = c.at; counts = n; class = c.class; receiver = c.receiver; block = b; vars = c.vars; aside = c.aside; args = c.args }

-- ---- names

-- a name waits behind those that do
pub record PutsName (w : List ℕ) (c : Cursor) (n : Name) (w' : List ℕ) (r : Cursor) : Type 0 where
  pub cur : r ≡ stack_cur (c.args + 1) c
  pub long : length w' ≡ length w
  pub start : get_or w' (stack_at + 2 * c.args) 0 ≡ n.start
  pub len : get_or w' (stack_at + 2 * c.args + 1) 0 ≡ n.len
  pub other : (i : ℕ) → (i ≡ stack_at + 2 * c.args → ⊥) → (i ≡ stack_at + 2 * c.args + 1 → ⊥) → get_or w' i 0 ≡ get_or w i 0

-- what the reader of names relies on
pub record Head (s w : List ℕ) (c : Cursor) : Type 0 where
  pub script : length s ≤ script_most
  pub inside : c.at ≤ length s
  pub scratch : scratch_size ≤ length w
  pub args : c.args ≡ 0
  pub vars : c.vars ≤ bindings_most

pub record Named (s w : List ℕ) (c : Cursor) (w' : List ℕ) (c' : Cursor) : Type 0 where
  pub cur : c' ≡ stack_cur c'.args (move_cur c'.at c)
  pub on : c.at + 2 * c'.args ≤ c'.at + 1
  pub further : c.at ≤ c'.at
  pub inside : c'.at ≤ length s
  pub lies : Lie s w' c'.args
  pub low : (i : ℕ) → i < stack_at → get_or w' i 0 ≡ get_or w i 0
  pub long : length w' ≡ length w

abbrev pub names_of : List ℕ → List ℕ → Moved → Out (List P.Name)
names_of s w (On c) = done (names_in s w c.args) c
names_of s w (Refused e) = stop e

abbrev pub NamedIf : List ℕ → List ℕ → Cursor → List ℕ → Moved → Type 0
NamedIf s w c w' (On c') = Named s w c w' c'
NamedIf s w c w' (Refused e) = Unit {0}

pub record Params (s w : List ℕ) (c : Cursor) (w' : List ℕ) (r : Moved) : Type 0 where
  pub is : (L : P.Limits) (m : List ℕ) → outcome s m w' (names_of s w' r) ≡ loop (parse_param L s) (turns s) [] (parser_of s m w c)
  pub ok : NamedIf s w c w' r

-- the same of a script, a place and scratch memory, for every cursor that stands there
abbrev pub named_to : Cursor → Result (ℕ × ℕ) Refusal → Moved
named_to c (Ok n) = On (stack_cur n.0 (move_cur n.1 c))
named_to c (Err e) = Refused (number_of e)

abbrev pub ParamsAt : List ℕ → ℕ → List ℕ → List ℕ → Result (ℕ × ℕ) Refusal → Type 0
ParamsAt s at w w' r = (c : Cursor) → c.at ≡ at → Head s w c → Params s w c w' (named_to c r)

-- ---- parameters

-- room for one more instruction and one more variable; the k-th name is short
pub record ParamsRoom (k : ℕ) (m w : List ℕ) (c : Cursor) : Type 0 where
  pub tables : View.ProgramReady m c.counts
  pub block : c.block.0 < c.counts.blocks
  pub scratch : scratch_size ≤ length w
  pub vars : c.vars < bindings_most
  pub place : k < bindings_most
  pub start : get_or w (stack_at + 2 * k) 0 ≤ script_most
  pub len : get_or w (stack_at + 2 * k + 1) 0 ≤ script_most

-- n variables more; only instructions are added, and nothing changes but the variables
pub record Bound (n : ℕ) (w : List ℕ) (c : Cursor) (m' w' : List ℕ) (c' : Cursor) : Type 0 where
  pub tables : View.ProgramReady m' c'.counts
  pub at : c'.at ≡ c.at
  pub class : c'.class ≡ c.class
  pub receiver : c'.receiver ≡ c.receiver
  pub block : c'.block ≡ c.block
  pub vars : c'.vars ≡ c.vars + n
  pub aside : c'.aside ≡ c.aside
  pub functions : c'.counts.functions ≡ c.counts.functions
  pub classes : c'.counts.classes ≡ c.counts.classes
  pub blocks : c'.counts.blocks ≡ c.counts.blocks
  pub low : Kept 0 c.vars w w'
  pub rows : Kept bindings_most entries_most w w'
  pub long : length w' ≡ length w

abbrev pub BoundIf : ℕ → List ℕ → Cursor → List ℕ → List ℕ → Moved → Type 0
BoundIf n w c m' w' (On c') = Bound n w c m' w' c'
BoundIf n w c m' w' (Refused e) = Unit {0}

pub record PushesParam (l : Limits) (k : ℕ) (m w : List ℕ) (c : Cursor) (m' w' : List ℕ) (r : Moved) : Type 0 where
  pub is : (s : List ℕ) → outcome s m' w' (moved_of r) ≡ param_of (View.limits_of l) k (name_at s w k) (parser_of s m w c)
  pub ok : BoundIf 1 w c m' w' r

-- what the waiting names need
pub record ParamsFilled (m w : List ℕ) (c : Cursor) : Type 0 where
  pub tables : View.ProgramReady m c.counts
  pub block : c.block.0 < c.counts.blocks
  pub scratch : scratch_size ≤ length w
  pub vars : c.vars + c.args ≤ operands_most
  pub short : (k : ℕ) → k < c.args → (get_or w (stack_at + 2 * k) 0 ≤ script_most) × (get_or w (stack_at + 2 * k + 1) 0 ≤ script_most)

pub record PushesParams (l : Limits) (m w : List ℕ) (c : Cursor) (m' w' : List ℕ) (r : Moved) : Type 0 where
  pub is : (s : List ℕ) → outcome s m' w' (moved_of r) ≡ push_params (View.limits_of l) s 0 (names_in s w c.args) (parser_of s m w c)
  pub ok : BoundIf c.args w c m' w' r

-- ---- receivers and functions

pub record Received (m' : List ℕ) (c c' : Cursor) : Type 0 where
  pub tables : View.ProgramReady m' c'.counts
  pub cur : c' ≡ receive_cur c'.receiver (count_cur c'.counts c)
  pub functions : c'.counts.functions ≡ c.counts.functions
  pub classes : c'.counts.classes ≡ c.counts.classes
  pub blocks : c'.counts.blocks ≡ c.counts.blocks

abbrev pub ReceivedIf : List ℕ → Cursor → Moved → Type 0
ReceivedIf m' c (On c') = Received m' c c'
ReceivedIf m' c (Refused e) = Unit {0}

pub record PushesSelf (l : Limits) (m : List ℕ) (c : Cursor) (m' : List ℕ) (r : Moved) : Type 0 where
  pub is : (s w : List ℕ) → outcome s m' w (moved_of r) ≡ push_self (View.limits_of l) s (owner_in c.class) (parser_of s m w c)
  pub ok : ReceivedIf m' c r

abbrev pub funned_of : OpenedFun → Out ℕ
funned_of (OpenedFun.Done c f) = done f.0 c
funned_of (OpenedFun.Refused e) = stop e

pub record Entered (m' : List ℕ) (f : ℕ) (c c' : Cursor) : Type 0 where
  pub tables : View.ProgramReady m' c'.counts
  pub cur : c' ≡ enter_cur c'.counts c'.block c
  pub block : c'.block.0 < c'.counts.blocks
  pub function : f < c'.counts.functions
  pub functions : c.counts.functions ≤ c'.counts.functions
  pub classes : c'.counts.classes ≡ c.counts.classes

abbrev pub EnteredIf : List ℕ → Cursor → Out ℕ → Type 0
EnteredIf m' c (done f c') = Entered m' f c c'
EnteredIf m' c (stop e) = Unit {0}

pub record Funs (l : Limits) (n : Name) (m : List ℕ) (c : Cursor) (m' : List ℕ) (r : OpenedFun) : Type 0 where
  pub is : (s w : List ℕ) → outcome s m' w (funned_of r) ≡ new_fun (View.limits_of l) (name_in s n) (parser_of s m w c)
  pub ok : EnteredIf m' c (funned_of r)

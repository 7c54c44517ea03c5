-- Functions: what their readers rely on and promise. Assumes nothing.
use Rattle.std.specs.Prelude.{false, ◌≡◌, List, [], ℕ, ◌+◌, ◌≤◌, ◌<◌, length}
use Rattle.std.proofs.Math.Option.{none}
use Rattle.rules.specs.Actions.{◌>>=◌, ◌>>◌, give, change, loop}
use Rattle.rules.specs.Program as P
use Rattle.rules.specs.Reading.{Reads, with_env, with_self, the_class, expect, expect_ident, push_self, push_params, parse_param, turns, parse_statements, parse_statement}
use Rattle.rules.specs.Reading.{end_block, new_fun, parse_fun}
use Rattle.program.specs.View as View
use Rattle.program.specs.declared.bounds.Limits.{Limits}
use Rattle.cursor.specs.Cursor.{Cursor, parser_of, CursorReady}
use Rattle.cursor.specs.Promises.{Out, done, stop, outcome, moved_of}
use Rattle.cursor.specs.outcomes.Moved.{Moved, On, Refused}
use Rattle.variables.specs.Layout.{bindings_most}
use Rattle.functions.specs.outcomes.OpenedFun.{OpenedFun}
use Rattle.functions.specs.params.Names.{names_in, Lie}
use Rattle.functions.specs.params.Promises.{funned_of}
use Rattle.statements.specs.Acts.{stops_at}

abbrev pub clear_cur : Cursor → Cursor
clear_cur c = record { at = c.at; counts = c.counts; class = c.class; receiver = c.receiver; block = c.block; vars = 0; aside = bindings_most; args = c.args }

-- ---- the parts of the rules' function

module _ (L : P.Limits) (s : List ℕ) where
  -- the receiver and the parameters
  unfoldable pub head_of : List P.Name → Reads (Unit {0})
  head_of l = do
    change (with_env [])
    c ← the_class
    push_self L s c
    push_params L s 0 l

  -- behind the parameters
  unfoldable pub body_of : List P.Name → Reads (Unit {0})
  body_of l = do
    head_of l
    v ← parse_statements L s (stops_at false) (parse_statement L s L.depth)
    end_block L s (P.Return v)
    expect s "end"
    change (with_self none)

  unfoldable pub fun_of : Reads ℕ
  fun_of = do
    n ← expect_ident s
    f ← new_fun L n
    expect s "("
    l ← loop (parse_param L s) (turns s) []
    expect s ")"
    body_of l
    give f

-- ---- promises

-- behind the head: the parameters are bound, and no name waits
pub record Headed (c : Cursor) (m' w' : List ℕ) (w : List ℕ) (c' : Cursor) : Type 0 where
  pub tables : View.ProgramReady m' c'.counts
  pub at : c'.at ≡ c.at
  pub class : c'.class ≡ c.class
  pub block : c'.block ≡ c.block
  pub vars : c'.vars ≡ c.args
  pub aside : c'.aside ≡ bindings_most
  pub args : c'.args ≡ 0
  pub functions : c'.counts.functions ≡ c.counts.functions
  pub classes : c'.counts.classes ≡ c.counts.classes
  pub blocks : c'.counts.blocks ≡ c.counts.blocks
  pub long : length w' ≡ length w

abbrev pub HeadedIf : Cursor → List ℕ → List ℕ → List ℕ → Moved → Type 0
HeadedIf c m' w' w (On c') = Headed c m' w' w c'
HeadedIf c m' w' w (Refused e) = Unit {0}

pub record Heads (l : Limits) (m w : List ℕ) (c : Cursor) (m' w' : List ℕ) (r : Moved) : Type 0 where
  pub is : (s : List ℕ) → outcome s m' w' (moved_of r) ≡ head_of (View.limits_of l) s (names_in s w c.args) (parser_of s m w c)
  pub ok : HeadedIf c m' w' w r

-- between functions no argument waits
pub record Rests (s m w : List ℕ) (c : Cursor) : Type 0 where
  pub ready : CursorReady s m w c
  pub args : c.args ≡ 0

-- a step over at least k bytes, functions and all
pub record Onto (k : ℕ) (c c' : Cursor) : Type 0 where
  pub on : c.at + k ≤ c'.at
  pub class : c'.class ≡ c.class
  pub functions : c.counts.functions ≤ c'.counts.functions
  pub classes : c.counts.classes ≤ c'.counts.classes

abbrev pub RestsIf : {A : Type 0} → ℕ → List ℕ → Cursor → List ℕ → List ℕ → Out A → Type 0
RestsIf k s c m' w' (done a c') = Rests s m' w' c' × Onto k c c'
RestsIf k s c m' w' (stop e) = Unit {0}

pub record Takes {A : Type 0} (f : Reads A) (k : ℕ) (s m w : List ℕ) (c : Cursor) (m' w' : List ℕ) (o : Out A) : Type 0 where
  pub is : outcome s m' w' o ≡ f (parser_of s m w c)
  pub ok : RestsIf k s c m' w' o

-- what a body relies on: its entry block, and the names of its parameters
pub record BodyBegun (s m w : List ℕ) (c : Cursor) : Type 0 where
  pub ready : CursorReady s m w c
  pub block : c.block.0 < c.counts.blocks
  pub lies : Lie s w c.args

-- a function, whose number is one of the table's
abbrev pub KnownIf : OpenedFun → Type 0
KnownIf (OpenedFun.Done c f) = f.0 < c.counts.functions
KnownIf (OpenedFun.Refused e) = Unit {0}

pub record Taken (l : Limits) (s m w : List ℕ) (c : Cursor) (m' w' : List ℕ) (r : OpenedFun) : Type 0 where
  pub takes : Takes (parse_fun (View.limits_of l) s) 1 s m w c m' w' (funned_of r)
  pub known : KnownIf r

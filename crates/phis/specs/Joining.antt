-- The parser's state as its two memories hold it, and what a join does to them. Assumes nothing.
use Rattle.std.specs.Prelude.{◌≡◌, List, ℕ, ◌+◌, ◌≤◌, length, Some, None, Ok, Err}
use Rattle.std.specs.declared.option.Option.{Option}
use Rattle.std.specs.declared.result.Result.{Result}
use Rattle.std.proofs.Math.Option as M
use Rattle.refusals.specs.Refusals.{number_of}
use Rattle.refusals.specs.declared.Refusal.{Refusal}
use Rattle.rules.specs.Actions.{Answer, answered, refused}
use Rattle.rules.specs.Program as P
use Rattle.rules.specs.Program.{Name}
use Rattle.rules.specs.Reading.{Parser, with_env, with_program, lookup, bind, all_keys, join_vars}
use Rattle.rules.specs.Reading as R
use Rattle.lexer.specs.Names.{name}
use Rattle.variables.specs.Scopes.{Bindings, over, env_of, join_one, join_rows}
use Rattle.variables.specs.Memory.{name_in, vars, row, Kept}
use Rattle.variables.specs.Promises as E
use Rattle.variables.specs.declared.Joint.{Joint}
use Rattle.variables.specs.declared.Rows.{Rows}
use Rattle.program.specs.Rows.{opnd_of}
use Rattle.program.specs.View.{program_view, ProgramReady, limits_of}
use Rattle.program.specs.declared.Counts.{Counts}
use Rattle.program.specs.declared.bounds.Limits.{Limits}
use Rattle.program.specs.declared.Opnd.{Opnd}
use Rattle.variables.specs.Layout.{bindings_most, entries_most}
use Rattle.phis.specs.declared.Blocks.{Blocks}

-- the rules' bind, for any script
pub record PhisSets (n a k : ℕ) (o : Opnd) (m m' : List ℕ) : Type 0 where
  pub len_same : length m' ≡ length m
  pub is : (s : List ℕ) → vars s m' (n + 1) ≡ bind (name s a k) (opnd_of o) (vars s m n)
  pub old : Kept 0 n m m'
  pub aside : Kept bindings_most entries_most m m'

abbrev pub var_of : Option Opnd → M.Option P.Opnd
var_of (Some o) = M.some (opnd_of o)
var_of None = M.none

pub record PhisFinds (s m : List ℕ) (n : ℕ) (k : Name) (r : Option Opnd) : Type 0 where
  pub is : var_of r ≡ lookup k (vars s m n)

-- ---- joins, for a parser whose instructions go to block `at`

abbrev pub phied : List ℕ → List ℕ → Counts → Result Opnd Refusal → Parser → Answer (P.Opnd × Parser)
phied s p c (Ok o) r = answered (opnd_of o, with_program (program_view s p c) r)
phied s p c (Err e) r = refused (number_of e)

-- only instructions were added
pub record PhisGrown (c d : Counts) : Type 0 where
  pub functions : d.functions ≡ c.functions
  pub classes : d.classes ≡ c.classes
  pub blocks : d.blocks ≡ c.blocks
  pub insns : c.insns ≤ d.insns

abbrev pub PhiReady : List ℕ → Counts → Counts → Result Opnd Refusal → Type 0
PhiReady p c d (Ok o) = ProgramReady p d × PhisGrown c d
PhiReady p c d (Err e) = Unit {0}

pub record Phis (l : Limits) (q : Blocks) (v w : Opnd) (p : List ℕ) (c : Counts) (p' : List ℕ) (c' : Counts) (x : Result Opnd Refusal) : Type 0 where
  pub is : (s : List ℕ) (r : Parser) → r.block ≡ q.at.0
      → phied s p' c' x r ≡ R.phi (limits_of l) q.left.0 (opnd_of v) q.right.0 (opnd_of w) (with_program (program_view s p c) r)
  pub ready : PhiReady p' c c' x

-- the parser's state with n bindings
abbrev pub state : List ℕ → List ℕ → ℕ → List ℕ → Counts → Parser → Parser
state s m n p c r = with_program (program_view s p c) (with_env (vars s m n) r)

abbrev pub joined : List ℕ → List ℕ → List ℕ → Counts → Result ℕ Refusal → Parser → Answer (Unit {0} × Parser)
joined s m p c (Ok n) r = answered (tt, state s m n p c r)
joined s m p c (Err e) r = refused (number_of e)

abbrev pub JoinReady : List ℕ → Counts → Counts → ℕ → ℕ → Result ℕ Refusal → Type 0
JoinReady p c d lo hi (Ok n) = ProgramReady p d × (PhisGrown c d × ((lo ≤ n) × (n ≤ hi)))
JoinReady p c d lo hi (Err e) = Unit {0}

-- one name
pub record One (l : Limits) (q : Blocks) (n : ℕ) (x : Joint) (m p : List ℕ) (c : Counts) (m' p' : List ℕ) (c' : Counts) (j : Result ℕ Refusal) : Type 0 where
  pub len_same : length m' ≡ length m
  pub is : (s : List ℕ) (r : Parser) → r.block ≡ q.at.0
      → joined s m' p' c' j r ≡ join_one (limits_of l) q.left.0 q.right.0 (name_in s x.word) (E.opnd_of x.left) (E.opnd_of x.right) (state s m n p c r)
  pub old : Kept 0 n m m'
  pub aside : Kept bindings_most entries_most m m'
  pub ready : JoinReady p' c c' (n + 1) (n + 1) j

-- two rows
pub record RowsJoined (s : List ℕ) (l : Limits) (q : Blocks) (base : ℕ) (x : Rows) (m p : List ℕ) (c : Counts) (m' p' : List ℕ) (c' : Counts) (j : Result ℕ Refusal) : Type 0 where
  pub len_same : length m' ≡ length m
  pub is : (r : Parser) → r.block ≡ q.at.0
      → joined s m' p' c' j r ≡ join_rows (limits_of l) q.left.0 q.right.0 (vars s m base) (row s m x.left.lo x.left.len) (row s m x.right.lo x.right.len) (state s m base p c r)
  pub old : Kept 0 base m m'
  pub aside : Kept bindings_most entries_most m m'
  pub ready : JoinReady p' c c' base (base + (x.left.len + x.right.len)) j

-- the older bindings are among all, and the right arm's row fits behind the left one's
pub record Arms (mark n top ln : ℕ) : Type 0 where
  pub old : mark ≤ n
  pub low : bindings_most ≤ top
  pub room : (n + ln) + top ≤ entries_most

-- the rules' join of all names that are bound in either arm, whatever bindings the left arm's row is made of
pub record IfEnd (s : List ℕ) (l : Limits) (q : Blocks) (mark n top ln : ℕ) (m p : List ℕ) (c : Counts) (m' p' : List ℕ) (c' : Counts) (j : Result ℕ Refusal) : Type 0 where
  pub len_same : length m' ≡ length m
  pub is : (left : Bindings) → row s m top ln ≡ env_of left → (r : Parser) → r.block ≡ q.at.0
      → joined s m' p' c' j r
      ≡ join_vars (limits_of l) q.left.0 (over left (vars s m mark)) q.right.0 (vars s m n) (all_keys (over left (vars s m mark)) (vars s m n)) (state s m mark p c r)
  pub old : Kept 0 mark m m'
  pub aside : Kept bindings_most top m m'
  pub ready : JoinReady p' c c' mark (n + ln) j

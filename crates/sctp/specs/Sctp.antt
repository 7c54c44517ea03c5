-- What the analysis of a program that was read promises of the lent parts. Assumes nothing.
use Rattle.std.specs.Prelude.{◌≡◌, List, ℕ, ◌+◌, ◌≤◌, ◌<◌, length, get_or, take, drop}
use Rattle.rules.specs.Actions.{if_answered}
use Rattle.rules.specs.Program.{Limits}
use Rattle.rules.specs.Bound.{bound}
use Rattle.rules.specs.Machine.{state_of, start, run}
use Rattle.program.specs.View as P
use Rattle.program.specs.declared.Counts.{Counts}
use Rattle.chains.specs.Chains.{Index}
use Rattle.state.specs.declared.Sizes.{Sizes}
use Rattle.state.specs.Acted.{Acted}
use Rattle.state.specs.View.{Attrs}
use Rattle.state.specs.Changes.{went}
use Rattle.answer.specs.Layout.{starts_at, users_at, callers_at, answer_length}
use Rattle.machine.specs.Analysed.{sizes_of, Users, Suited, MachineFits}
use Rattle.program.specs.Layout.{program_size}
use Rattle.memory.specs.Layout.{instructions_most}
use Rattle.chains.specs.Layout.{program_length}
use Rattle.sctp.specs.starts.Starts.{Started}
use Rattle.run.specs.Runs.{RestedIf}

-- the program part: its tables, then room for the chains of the index
abbrev pub tables_of : List ℕ → List ℕ
tables_of p = take program_size p

abbrev pub chains_of : List ℕ → List ℕ
chains_of p = drop program_size p

-- the lent parts, and a program that was read; t has room for the stamps
pub record Given (s p : List ℕ) (c : Counts) (z : Sizes) (u t : List ℕ) : Type 0 where
  pub limits : Limits
  pub suited : Suited s (tables_of p) c limits
  pub ready : P.ProgramReady (tables_of p) c
  pub program : length p ≡ program_length
  pub sizes : z ≡ sizes_of c
  pub answer : length u ≡ answer_length
  pub stamps : length t ≡ instructions_most

-- the chains stand behind the tables
pub record SctpChained (c : Counts) (p p' : List ℕ) : Type 0 where
  pub tables : tables_of p' ≡ tables_of p
  pub index : Index (tables_of p) c (chains_of p')

-- the answer's callers are cleared, and the rest of it stays
pub record SctpAside (u u' : List ℕ) : Type 0 where
  pub same : (k : ℕ) → k < callers_at → get_or u' k 0 ≡ get_or u k 0
  pub clear : (k : ℕ) → callers_at ≤ k → get_or u' k 0 ≡ 0

-- the start, which may use the answer's callers
pub record StartsAside (s p : List ℕ) (c : Counts) (z : Sizes) (u u' m' : List ℕ) (r : Acted) : Type 0 where
  pub started : Started s p c z m' r
  pub same : (k : ℕ) → k < callers_at → get_or u' k 0 ≡ get_or u k 0

pub record Begins (s p : List ℕ) (c : Counts) (z : Sizes) (u u' m' : List ℕ) (r : Acted) : Type 0 where
  pub started : Started s p c z m' r
  pub aside : SctpAside u u'

-- the outcome is the rules': the start, then the run with the bound as its number of steps
pub record SctpOutcome (s p : List ℕ) (c : Counts) (z : Sizes) (m' : List ℕ) (r : Acted) : Type 0 where
  pub is : (L : Limits) → Suited s p c L → (v : Attrs) → MachineFits s p c (P.program_view s p c) v
      → state_of L (P.program_view s p c) (went z v m' r) ≡ if_answered (start L (P.program_view s p c)) (run L (P.program_view s p c) (bound (P.program_view s p c)))
  pub ok : RestedIf s p c z m' r

pub record Ends (s p : List ℕ) (c : Counts) (z : Sizes) (u u' m' : List ℕ) (r : Acted) : Type 0 where
  pub outcome : SctpOutcome s p c z m' r
  pub aside : SctpAside u u'

-- the users stand in the answer, and its other places are as before; those of the callers are cleared
pub record SctpLeft (p : List ℕ) (c : Counts) (u u' : List ℕ) : Type 0 where
  pub users : Users p c u'
  pub others : (k : ℕ) → k < callers_at → (starts_at ≤ k → k < starts_at + (c.insns + 1) → ⊥) → (users_at ≤ k → k < users_at + get_or u' (starts_at + c.insns) 0 → ⊥) → get_or u' k 0 ≡ get_or u k 0
  pub clear : (k : ℕ) → callers_at ≤ k → get_or u' k 0 ≡ 0

pub record Analyses (s p : List ℕ) (c : Counts) (u u' m' : List ℕ) (r : Acted) : Type 0 where
  pub outcome : SctpOutcome s p c (sizes_of c) m' r
  pub left : SctpLeft p c u u'

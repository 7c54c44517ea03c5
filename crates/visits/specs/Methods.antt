-- What the rules promise of the state that they change. Assumes nothing.
use Rattle.std.specs.Prelude.{ℕ, Result, Ok, Err}
use Rattle.refusals.specs.declared.Refusal.{Refusal}
use Rattle.kinds.specs.declared.Kind.{Kind}
use Rattle.kinds.specs.declared.Kind.TheVariants.{Empty}
use Rattle.kinds.specs.Union.{Joined}
use Rattle.rules.specs.Program.{Limits, Program}
use Rattle.rules.specs.Machine.{Acts}
use Rattle.state.specs.View.{Attrs}
use Rattle.state.specs.Methods.{Lent}
use Rattle.state.specs.declared.State.{State}
use Rattle.chains.specs.declared.view.Indexed.{Indexed}
use Rattle.machine.specs.Analysed as M
use Rattle.machine.specs.Analysed.{Analysed, MachineFits, Steady}
use Rattle.machine.specs.declared.tables.Tables.{Tables}
use Rattle.visits.specs.Visits.{kind_of, Rules, rule_of}

-- a change with no kind
abbrev pub nothing_in : Result (Unit {0}) Refusal → Joined
nothing_in (Ok a) = Ok Empty
nothing_in (Err e) = Err e

-- an action that gives a kind, of the state that is lent
pub record Gave (fits : Program → Attrs → Type 0) (f : Limits → Program → Acts Kind) (s t : State) (r : Joined) : Type 0 where
  pub lent : Lent s t
  pub rules : Rules s.sizes fits f s.words.now s.regs t.words.now (kind_of t.regs r)

-- what the rules of all sorts may rely on: a program that was read, and a state that its analysis comes to
pub record VisitOf (c : Indexed) (s : State) : Type 0 where
  pub indexed : M.Indexed c.program.script.now c.program.words.now c.program.counts c.chains.now s.sizes
  pub steady : Steady c.program.script.now c.program.words.now c.program.counts s.sizes s.words.now

-- and what the rule of instruction i promises
abbrev pub Gives : Indexed → State → State → ℕ → Joined → Type 0
Gives c s t i r = Gave (MachineFits c.program.script.now c.program.words.now c.program.counts) (rule_of i) s t r

-- what a visit may rely on: the tables of a program that was read, and a state that its analysis comes to
abbrev pub AnalysedIn : Tables → State → Type 0
AnalysedIn t s = Analysed t.code.program.script.now t.code.program.words.now t.code.program.counts t.code.chains.now t.users.now s.sizes

abbrev pub SteadyIn : Tables → State → Type 0
SteadyIn t s = Steady t.code.program.script.now t.code.program.words.now t.code.program.counts s.sizes s.words.now

-- a program that the tables stand for, by its numbers of attributes
abbrev pub FitsIn : Tables → Program → Attrs → Type 0
FitsIn t = MachineFits t.code.program.script.now t.code.program.words.now t.code.program.counts

-- What a step relies on and promises, of the tables, the state and the stamps that are lent. Assumes nothing.
use Rattle.std.specs.Prelude.{List, ℕ, Result, Ok, Err}
use Rattle.refusals.specs.declared.Refusal.{Refusal}
use Rattle.rules.specs.Actions.{Answer}
use Rattle.rules.specs.Program.{Limits, Program}
use Rattle.rules.specs.Machine as R
use Rattle.records.specs.declared.Record.{Record}
use Rattle.state.specs.declared.State.{State}
use Rattle.state.specs.Methods.{Lent}
use Rattle.machine.specs.declared.tables.Tables.{Tables}
use Rattle.settled.specs.Reads.{whole}
use Rattle.steps.specs.Stamps.{Dated, Stamped, Visited, Timely}
use Rattle.steps.specs.Steps.{insns_in, Facing}

abbrev pub Step : Type 0
Step = Limits → Program → R.State → Answer R.State

-- the step that takes an instruction
abbrev pub insn_next : Step
insn_next L P t = R.take_insn L P (insns_in t) t

abbrev pub FacingIn : Tables → State → ℕ → Record → Type 0
FacingIn t s i x = Facing t.code.program.script.now t.code.program.words.now t.code.program.counts t.code.chains.now t.users.now s.sizes s.words.now s.regs i x

abbrev pub DatedIn : Tables → State → List ℕ → ℕ → Type 0
DatedIn t s a epoch = Dated t.code.program.script.now t.code.program.words.now t.code.program.counts s.sizes (whole s a) s.regs epoch

abbrev pub StampedIn : Tables → State → List ℕ → ℕ → Type 0
StampedIn t s a epoch = Stamped t.code.program.script.now t.code.program.words.now t.code.program.counts s.sizes (whole s a) s.regs epoch

-- the epoch after a step, or its refusal
abbrev pub with_epoch : ℕ → Result (Unit {0}) Refusal → Result ℕ Refusal
with_epoch e (Ok x) = Ok e
with_epoch e (Err x) = Err x

-- from the state s with stamps a to the state r with stamps b
pub record VisitedIn (t : Tables) (s : State) (a : List ℕ) (r : State) (b : List ℕ) (e : Result ℕ Refusal) : Type 0 where
  pub lent : Lent s r
  pub visited : Visited t.code.program.script.now t.code.program.words.now t.code.program.counts s.sizes insn_next (whole s a) s.regs (whole r b) r.regs e

pub record TimelyIn (f : Step) (t : Tables) (s : State) (a : List ℕ) (r : State) (b : List ℕ) (e : Result ℕ Refusal) : Type 0 where
  pub lent : Lent s r
  pub timely : Timely t.code.program.script.now t.code.program.words.now t.code.program.counts s.sizes f (whole s a) s.regs (whole r b) r.regs e

-- Reading and setting an attribute by the classes of its receiver: the parts of their rules (01, "The analysis"). Assumes nothing.
use Rattle.std.specs.Prelude.{◌≡◌, List, [], ℕ, ◌<◌, length, get_or}
use Rattle.kinds.specs.declared.Kind.{Kind}
use Rattle.kinds.specs.declared.Kind.TheVariants.{Empty}
use Rattle.rules.specs.Actions.{◌>>=◌, the, change, each, fold}
use Rattle.rules.specs.Lists.{keep, places, is_just_name}
use Rattle.rules.specs.Program as P
use Rattle.rules.specs.Program.{Limits, Program, about, op_of, class}
use Rattle.rules.specs.Machine.{State, Acts, kind_of, classes_of, add_read, get_ivar, set_ivar, push_insn}
use Rattle.program.specs.declared.Counts.{Counts}
use Rattle.program.specs.declared.reader.Program.{Program as Tables}
use Rattle.program.specs.View.{program_view}
use Rattle.state.specs.declared.Sizes.{Sizes}
use Rattle.state.specs.View.{Attrs}
use Rattle.machine.specs.receivers.Receivers.{StateMatches}

-- the program that a script and tables stand for, and the numbers of its classes' attributes
pub record ProgramIs (s m : List ℕ) (c : Counts) (p : Program) (v : Attrs) : Type 0 where
  pub program : p ≡ program_view s m c
  pub attrs : (k : ℕ) → k < c.classes → v.count k ≡ length (class (program_view s m c) k).ivars

-- the same of values that are lent: the program that they stand for, and a state that has its sizes
abbrev pub ProgramOf : Tables → Program → Attrs → Type 0
ProgramOf t = ProgramIs t.script.now t.words.now t.counts

abbrev pub Matches : Tables → Sizes → Type 0
Matches t z = StateMatches z t.words.now t.counts

-- what a read sets off, and what it gives
abbrev pub mark_reads : ℕ → P.Opnd → Acts (Unit {0})
mark_reads i r = classes_of r >>= λ cs. each cs (λ c. change (add_read c i))

abbrev pub read_ivars : Limits → Program → P.Name → P.Opnd → Acts Kind
read_ivars L p n r = classes_of r >>= fold (get_ivar L p n) Empty

-- what a setting sets off; it gives nothing
abbrev pub set_ivars : Limits → Program → P.Name → P.Opnd → P.Opnd → Acts (Unit {0})
set_ivars L p n r v = classes_of r >>= λ cs. the (λ s. kind_of s v) >>= λ k. each cs (set_ivar L p n k)

-- the reads of attribute n that met class c wait
unfoldable pub wake_reads : Limits → Program → ℕ → P.Name → Acts (Unit {0})
wake_reads L p c n = do
  rs ← the (λ (s : State). places (λ b. b) (get_or s.ivar_reads c []))
  each (keep (λ i. is_just_name (about (op_of p i)).gets n) rs) (push_insn L p)

-- What calls set off before they give a kind: the parts of their rules (01, "The analysis"). Assumes nothing.
use Rattle.std.specs.Prelude.{true, not, ◌≡◌, List, ℕ, ◌<◌, length}
use Rattle.rules.specs.Actions.{◌>>=◌, ◌>>◌, ask, needed, each}
use Rattle.rules.specs.Lists.{has}
use Rattle.rules.specs.Program as P
use Rattle.rules.specs.Program.{Limits, Program, about, op_of, function, method_named}
use Rattle.rules.specs.Machine.{Acts, classes_of, add_call, pass_arguments}
use Rattle.program.specs.declared.Counts.{Counts}
use Rattle.program.specs.Rows.{fun_at}
use Rattle.program.specs.View.{program_view}
use Rattle.state.specs.declared.Sizes.{Sizes}
use Rattle.state.specs.View.{Attrs}
use Rattle.chains.specs.declared.view.Indexed.{Indexed}
use Rattle.chains.specs.Chains.{Index}
use Rattle.sends.specs.passing.Passing.{Caller}

-- instruction i calls f: 16 or 20, then f's Params
abbrev pub call_to : Limits → Program → ℕ → ℕ → Acts (Unit {0})
call_to L p i f = add_call L p i f >> pass_arguments L p i f

-- a bare call asks 17 in between
abbrev pub call_static : Limits → Program → ℕ → ℕ → Acts (Unit {0})
call_static L p i f = add_call L p i f >> (ask 17 (not (has (function p f).class)) >> pass_arguments L p i f)

-- the method of a name, of one class and of a receiver's
abbrev pub send_to : Limits → Program → ℕ → P.Name → ℕ → Acts (Unit {0})
send_to L p i n c = needed 15 (method_named p c n) >>= call_to L p i

abbrev pub send_all : Limits → Program → ℕ → P.Name → P.Opnd → Acts (Unit {0})
send_all L p i n r = classes_of r >>= λ cs. each cs (send_to L p i n)

-- instruction i is a call of the program in memory, x the program's index, and each function's entry one of its blocks
pub record Calling (z : Sizes) (m : List ℕ) (c : Counts) (x : List ℕ) (i : ℕ) : Type 0 where
  pub caller : Caller m c z i
  pub index : Index m c x
  pub functions : z.functions ≡ c.functions
  pub blocks : z.blocks ≡ c.blocks
  pub entries : (f : ℕ) → f < c.functions → (fun_at m f).entry.0 < c.blocks

-- the same of values that are lent
abbrev pub CallingOf : Indexed → Sizes → ℕ → Type 0
CallingOf c z i = Calling z c.program.words.now c.program.counts c.chains.now i

-- the program that a script and tables stand for, in which call i has k arguments
pub record CallsIn (s m : List ℕ) (c : Counts) (i k : ℕ) (p : Program) (v : Attrs) : Type 0 where
  pub program : p ≡ program_view s m c
  pub call : has (about (op_of (program_view s m c) i)).callee ≡ true
  pub args : length (about (op_of (program_view s m c) i)).listed ≡ k

abbrev pub CallsOf : Indexed → List ℕ → ℕ → ℕ → Program → Attrs → Type 0
CallsOf c s i k = CallsIn s c.program.words.now c.program.counts i k

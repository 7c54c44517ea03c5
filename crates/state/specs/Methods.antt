-- What the methods promise of the state that they change: a change of Changes, of its memory and registers. Assumes nothing.
use Rattle.std.specs.Prelude.{Bool as 𝔹, ◌≡◌, List, ◌∷◌, ℕ, ◌<◌, Result, Option, Some, None}
use Rattle.ids.specs.declared.InsnId.{InsnId}
use Rattle.refusals.specs.declared.Refusal.{Refusal}
use Rattle.rules.specs.Program.{Limits, Program}
use Rattle.rules.specs.Machine as R
use Rattle.memory.specs.tables.Bits.{with_bit}
use Rattle.state.specs.View.{Attrs, insns_of, state_view}
use Rattle.state.specs.Acted.{acted_of}
use Rattle.state.specs.Changes as C
use Rattle.state.specs.declared.State.{State}

-- it is lent the same words, for the same sizes
pub record Lent (s t : State) : Type 0 where
  pub words : t.words.ghost_name ≡ s.words.ghost_name
  pub sizes : t.sizes ≡ s.sizes

-- the state that it stands for, by the numbers of attributes
abbrev pub view : Attrs → State → R.State
view v s = state_view s.sizes v s.words.now s.regs

-- a change that can't fail, and leaves the registers
pub record Put (f : R.State → R.State) (s t : State) : Type 0 where
  pub lent : Lent s t
  pub regs : t.regs ≡ s.regs
  pub put : C.StatePut s.sizes f s.words.now t.words.now

-- the action of any program that fits what was handed in
pub record Did (fits : Program → Attrs → Type 0) (f : Limits → Program → R.Acts (Unit {0})) (s t : State) (r : Result (Unit {0}) Refusal) : Type 0 where
  pub lent : Lent s t
  pub did : C.StateDid s.sizes fits f s.words.now s.regs t.words.now (acted_of t.regs r)

-- a caller is added where it is new, and r says whether it was
pub record Added (f i : ℕ) (s t : State) (r : 𝔹) : Type 0 where
  pub lent : Lent s t
  pub regs : t.regs ≡ s.regs
  pub added : C.Added s.sizes f i s.words.now t.words.now r

-- i is the instruction in front
pub record InFront (i : ℕ) (s : State) : Type 0 where
  pub below : i < s.sizes.insns
  pub is : (j : ℕ) (l : List ℕ) → insns_of s.words.now s.regs ≡ j ∷ l → j ≡ i

-- the entry in front is taken off its worklist
pub record TookInsn (x : ℕ) (s t : State) : Type 0 where
  pub lent : Lent s t
  pub words : t.words.now ≡ s.words.now
  pub took : C.TookInsn s.sizes s.words.now s.regs x t.regs

pub record TookBlock (x : ℕ) (s t : State) : Type 0 where
  pub lent : Lent s t
  pub words : t.words.now ≡ s.words.now
  pub took : C.TookBlock s.sizes s.words.now s.regs x t.regs

-- ---- rows of bits

abbrev pub bit_of : Option InsnId → Option ℕ
bit_of (Some i) = Some i.0
bit_of None = None

pub record Marked (at i : ℕ) (s t : State) : Type 0 where
  pub lent : Lent s t
  pub regs : t.regs ≡ s.regs
  pub is : t.words.now ≡ with_bit s.words.now at i

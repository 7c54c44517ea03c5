-- The chains of blocks' instructions, and what a step that takes one entry promises. Assumes nothing.
use Rattle.std.specs.Prelude.{◌≡◌, List, ℕ, ◌+◌, ◌≤◌, ◌<◌, length, Result}
use Rattle.refusals.specs.declared.Refusal.{Refusal}
use Rattle.rules.specs.Actions.{Answer}
use Rattle.rules.specs.Program.{Limits, Program, code}
use Rattle.rules.specs.Machine.{State, state_of}
use Rattle.state.specs.declared.Sizes.{Sizes}
use Rattle.state.specs.declared.Regs.{Regs}
use Rattle.state.specs.View.{Attrs, state_view, StateReady}
use Rattle.state.specs.Acted.{Acted, On, Refused, acted_of}
use Rattle.state.specs.Changes.{went}
use Rattle.state.specs.Methods.{Lent}
use Rattle.state.specs.declared.State as S
use Rattle.chains.specs.Chains.{ChainIs}
use Rattle.memory.specs.Layout.{worklist_most, blocks_room}
use Rattle.chains.specs.Layout.{chains_size}

-- each block has a chain, and there are not too many blocks for the heads
pub record HasCode (z : Sizes) (x : List ℕ) : Type 0 where
  pub long : chains_size ≤ length x
  pub few : z.blocks ≤ blocks_room
  pub list : ℕ → List ℕ
  pub held : (b : ℕ) → b < z.blocks → ChainIs x z.insns 0 b (list b)

-- the chains are those of a program
pub record CodeIs (z : Sizes) (x : List ℕ) (p : Program) (v : Attrs) : Type 0 where
  pub held : (b : ℕ) → b < z.blocks → ChainIs x z.insns 0 b (code p b)

abbrev pub blocks_in : State → List ℕ
blocks_in s = s.block_worklist

-- ready again, and the count is one more
pub record BlockCounted (z : Sizes) (q : Regs) (w : List ℕ) (r : Regs) : Type 0 where
  pub ready : StateReady z w r
  pub count : r.count ≡ q.count + 1

abbrev pub ReadyNext : Sizes → Regs → List ℕ → Acted → Type 0
ReadyNext z q w (On r) = BlockCounted z q w r
ReadyNext z q w (Refused n) = Unit {0}

-- a step of any program that fits, under limits that let worklist_most entries wait
pub record BlockStepped (z : Sizes) (fits : Program → Attrs → Type 0) (f : Limits → Program → State → Answer State) (m : List ℕ) (q : Regs) (w : List ℕ) (r : Acted) : Type 0 where
  pub is : (L : Limits) → L.worklist ≡ worklist_most → (p : Program) (v : Attrs) → fits p v → state_of L p (went z v w r) ≡ f L p (state_view z v m q)
  pub ok : ReadyNext z q w r

-- such a step of a state
pub record Stepped (fits : Program → Attrs → Type 0) (f : Limits → Program → State → Answer State) (s t : S.State) (r : Result (Unit {0}) Refusal) : Type 0 where
  pub lent : Lent s t
  pub step : BlockStepped s.sizes fits f s.words.now s.regs t.words.now (acted_of t.regs r)

-- Stamps: which instructions a visit would leave all as it is. Assumes nothing.
use Rattle.std.specs.Prelude.{◌≡◌, List, ◌∷◌, ℕ, ◌+◌, ◌≤◌, ◌<◌, length, Result, Ok, Err}
use Rattle.refusals.specs.declared.Refusal.{Refusal}
use Rattle.refusals.specs.Refusals.{number_of}
use Rattle.rules.specs.Actions.{Answer, answered}
use Rattle.rules.specs.Program.{Limits, Program}
use Rattle.rules.specs.Machine.{State, visit}
use Rattle.program.specs.declared.Counts.{Counts}
use Rattle.records.specs.Records.{record_at}
use Rattle.state.specs.declared.Sizes.{Sizes}
use Rattle.state.specs.declared.Regs.{Regs}
use Rattle.state.specs.Acted.{Acted, On, Refused}
use Rattle.state.specs.View.{Attrs, kinds_of, live_of, called_of, insns_of, state_view, StateReady}
use Rattle.machine.specs.blocks.Blocks.{BlockStepped}
use Rattle.machine.specs.Analysed.{MachineFits}
use Rattle.settled.specs.Reads.{name_of, SettledFor}
use Rattle.memory.specs.Layout.{instructions_most, worklist_most}
use Rattle.state.specs.Layout.{stamps_at}
pub use Rattle.settled.specs.Reads.{tables_of, stamp_of}

-- a visit of i leaves every state as it is that has the kinds, the live blocks and the callers of these tables
abbrev pub Idles : List ℕ → List ℕ → Counts → Sizes → List ℕ → ℕ → Type 0
Idles s p c z m i =
    (L : Limits) → L.worklist ≡ worklist_most → (P : Program) (v : Attrs) → MachineFits s p c P v → (t : State) → t.kinds ≡ kinds_of z m
    → t.live ≡ live_of z m → t.called_by ≡ called_of z m → visit L P i
    t ≡ answered (tt, t)

-- a visit of i leaves the state of these tables as it is, whatever waits
pub record Passes (s p : List ℕ) (c : Counts) (z : Sizes) (m : List ℕ) (i : ℕ) : Type 0 where
  pub is : (L : Limits) → L.worklist ≡ worklist_most → (P : Program) (v : Attrs) → MachineFits s p c P v → (q : Regs) → visit L P i (state_view z v m q) ≡ answered (tt, state_view z v m q)

-- no instruction is stamped
pub record StampsFresh (z : Sizes) (m : List ℕ) (q : Regs) : Type 0 where
  pub long : length m ≡ stamps_at + instructions_most
  pub ready : StateReady z (tables_of m) q
  pub none : (i : ℕ) → i < z.insns → stamp_of m i ≡ 0

-- i is the instruction in front
pub record Fronts (z : Sizes) (m : List ℕ) (q : Regs) (i : ℕ) : Type 0 where
  pub inside : i < z.insns
  pub is : (j : ℕ) (l : List ℕ) → insns_of m q ≡ j ∷ l → j ≡ i

-- of the instructions that neither read nor set an attribute: no stamp is of a later epoch, and one of this epoch says that a visit would do nothing; the epoch rises no faster than the count
pub record Dated (s p : List ℕ) (c : Counts) (z : Sizes) (m : List ℕ) (q : Regs) (epoch : ℕ) : Type 0 where
  pub long : length m ≡ stamps_at + instructions_most
  pub past : (i : ℕ) → i < z.insns → (record_at p i).tag < 13 → stamp_of m i ≤ epoch
  pub idle : (i : ℕ) → i < z.insns → (record_at p i).tag < 13 → stamp_of m i ≡ epoch → Idles s p c z (tables_of m) i
  pub slow : epoch ≤ q.count + 1

-- and a read of an attribute is settled for the classes of its stamp
pub record Stamped (s p : List ℕ) (c : Counts) (z : Sizes) (m : List ℕ) (q : Regs) (epoch : ℕ) : Type 0 where
  pub dated : Dated s p c z m q epoch
  pub reads : (i : ℕ) → i < z.insns → (record_at p i).tag ≡ 13 → SettledFor s p c z (tables_of m) (name_of (record_at p i)) i (stamp_of m i)

-- what a step comes to, by the registers that it leaves and what it gives back: the epoch after it, or a refusal
abbrev pub went_to : Regs → Result ℕ Refusal → Acted
went_to q (Ok epoch) = On q
went_to q (Err x) = Refused (number_of x)

abbrev pub DatedIf : List ℕ → List ℕ → Counts → Sizes → List ℕ → Regs → Result ℕ Refusal → Type 0
DatedIf s p c z m q (Ok epoch) = Dated s p c z m q epoch
DatedIf s p c z m q (Err x) = Unit {0}

abbrev pub StampedIf : List ℕ → List ℕ → Counts → Sizes → List ℕ → Regs → Result ℕ Refusal → Type 0
StampedIf s p c z m q (Ok epoch) = Stamped s p c z m q epoch
StampedIf s p c z m q (Err x) = Unit {0}

-- a step of the tables, after which the stamps of the instructions that neither read nor set an attribute hold again, and those of the others are as they were
pub record Visited (s p : List ℕ) (c : Counts) (z : Sizes) (f : Limits → Program → State → Answer State) (m : List ℕ) (q : Regs) (w : List ℕ) (r : Regs) (t : Result ℕ Refusal) : Type 0 where
  pub step : BlockStepped z (MachineFits s p c) f (tables_of m) q (tables_of w) (went_to r t)
  pub dated : DatedIf s p c z w r t
  pub others : (i : ℕ) → 13 ≤ (record_at p i).tag → stamp_of w i ≡ stamp_of m i

-- a step of the tables, after which all stamps hold again
pub record Timely (s p : List ℕ) (c : Counts) (z : Sizes) (f : Limits → Program → State → Answer State) (m : List ℕ) (q : Regs) (w : List ℕ) (r : Regs) (t : Result ℕ Refusal) : Type 0 where
  pub step : BlockStepped z (MachineFits s p c) f (tables_of m) q (tables_of w) (went_to r t)
  pub stamps : StampedIf s p c z w r t

-- What a step relies on: which entry is next, and the instruction in front with its record. Assumes nothing.
use Rattle.std.specs.Prelude.{Bool as 𝔹, false, not, ◌&&◌, ◌||◌, ◌≡◌, List, ◌∷◌, ℕ, ◌^◌, ◌<◌, eqb}
use Rattle.rules.specs.Machine.{State}
use Rattle.program.specs.declared.Counts.{Counts}
use Rattle.records.specs.Records.{record_at}
use Rattle.records.specs.declared.Record.{Record}
use Rattle.state.specs.declared.Sizes.{Sizes}
use Rattle.state.specs.declared.Regs.{Regs}
use Rattle.state.specs.View.{insns_of, StateReady}
use Rattle.machine.specs.Analysed.{Analysed, Steady}
use Rattle.memory.specs.Layout.{instructions_most}
use Rattle.steps.specs.Stamps.{Fronts}

abbrev pub insns_in : State → List ℕ
insns_in s = s.insn_worklist

-- whether the next entry is a block: while blocks are being taken and any waits, or where no instruction waits
abbrev pub block_next : Regs → 𝔹
block_next q = (q.draining && not (eqb q.blocks.len 0)) || eqb q.insns.len 0

-- x is the record of the instruction in front
abbrev pub RecordOf : List ℕ → List ℕ → Regs → Record → Type 0
RecordOf p m q x = (i : ℕ) (l : List ℕ) → insns_of m q ≡ i ∷ l → x ≡ record_at p i

-- what a visit of the instruction i in front, with record x, relies on
pub record Facing (s p : List ℕ) (c : Counts) (y u : List ℕ) (z : Sizes) (m : List ℕ) (q : Regs) (i : ℕ) (x : Record) : Type 0 where
  pub analysed : Analysed s p c y u z
  pub steady : Steady s p c z m
  pub ready : StateReady z m q
  pub some : 0 < q.insns.len
  pub small : q.count < 2 ^ 63
  pub record_of : RecordOf p m q x
  pub front : Fronts z m q i

-- where an instruction is next, r is the one in front
pub record Front (z : Sizes) (m : List ℕ) (q : Regs) (r : ℕ) : Type 0 where
  pub below : r < instructions_most
  pub inside : block_next q ≡ false → r < z.insns
  pub is : block_next q ≡ false → (i : ℕ) (l : List ℕ) → insns_of m q ≡ i ∷ l → i ≡ r

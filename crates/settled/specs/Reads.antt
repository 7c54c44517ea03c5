-- Reads of attributes that are settled, in the tables; and the stamps behind them. Assumes nothing.
use Rattle.std.specs.Prelude.{Bool as 𝔹, true, false, ◌⊎◌, ◌≡◌, List, ◌++◌, ℕ, ◌+◌, ◌*◌, ◌≤◌, ◌<◌, length, get_or, take}
use Rattle.kinds.specs.declared.Kind.{Kind}
use Rattle.kinds.specs.declared.Kind.TheVariants.{Empty}
use Rattle.rules.specs.Program.{Program}
use Rattle.idle.specs.Settled.{Covered, SettledIn, Settled}
use Rattle.program.specs.declared.Counts.{Counts}
use Rattle.program.specs.declared.Name.{Name}
use Rattle.program.specs.declared.reader.Program.{Program as Tables}
use Rattle.program.specs.Rows.{opnd_at, name_in, nth}
use Rattle.program.specs.View.{ProgramReady}
use Rattle.records.specs.declared.Record.{Record}
use Rattle.records.specs.Records.{record_at, row_of}
use Rattle.state.specs.declared.Sizes.{Sizes}
use Rattle.state.specs.declared.State.{State}
use Rattle.state.specs.View.{Attrs, kinds_of, ivars_of, reads_of}
use Rattle.machine.specs.opnds.Reads.{OperandInside, kind_in}
use Rattle.machine.specs.Analysed.{MachineFits}
use Rattle.visits.specs.Visits.{operands_of}
use Rattle.program.specs.Layout.{opnds_at}
use Rattle.state.specs.Layout.{stamps_at}

-- the state's tables, and the stamps behind them
abbrev pub tables_of : List ℕ → List ℕ
tables_of m = take stamps_at m

abbrev pub stamp_of : List ℕ → ℕ → ℕ
stamp_of m i = get_or m (stamps_at + i) 0

-- the two as one, where they are lent apart
abbrev pub whole : State → List ℕ → List ℕ
whole s t = s.words.now ++ t

-- the name that an instruction's record has
abbrev pub name_of : Record → Name
name_of x = record { start = x.x; len = x.y }

-- read i of attribute n, whose kind is k, is settled in class x
pub record SettledAt (s p : List ℕ) (c : Counts) (z : Sizes) (m : List ℕ) (n : Name) (i : ℕ) (k : Kind) (x : ℕ) : Type 0 where
  pub is : (P : Program) (v : Attrs) → MachineFits s p c P v → SettledIn P (name_in s n) k i (ivars_of z v m) (reads_of z m) x

-- in each class of set b, with the kind that it has
pub record SettledFor (s p : List ℕ) (c : Counts) (z : Sizes) (m : List ℕ) (n : Name) (i b : ℕ) : Type 0 where
  pub is : (P : Program) (v : Attrs) → MachineFits s p c P v → Settled P (name_in s n) i b (kinds_of z m) (ivars_of z v m) (reads_of z m)

-- the same of values that are lent
abbrev pub ClassSettled : Tables → Sizes → List ℕ → Name → ℕ → Kind → ℕ → Type 0
ClassSettled t z m n i k x = SettledAt t.script.now t.words.now t.counts z m n i k x

abbrev pub ClassesSettled : Tables → Sizes → List ℕ → Name → ℕ → ℕ → Type 0
ClassesSettled t z m n i b = SettledFor t.script.now t.words.now t.counts z m n i b

-- the operands of an instruction are in the tables; a read's receiver and a setting's value are the program's
pub record Operands (p : List ℕ) (c : Counts) (z : Sizes) (x : Record) : Type 0 where
  pub ready : ProgramReady p c
  pub range : x.first + x.count ≤ c.opnds
  pub receiver : x.tag ≡ 13 → 0 < x.count → OperandInside z (opnd_at p (opnds_at + 2 * x.first + 2 * 0))
  pub value : 13 < x.tag → 1 < x.count → OperandInside z (opnd_at p (opnds_at + 2 * x.first + 2 * 1))

-- k is the kind of a read's receiver, or of a setting's value
pub record Decides (p : List ℕ) (z : Sizes) (m : List ℕ) (x : Record) (k : Kind) : Type 0 where
  pub receiver : x.tag ≡ 13 → k ≡ kind_in (kinds_of z m) (nth (operands_of p (row_of x)) 0)
  pub value : 13 < x.tag → k ≡ kind_in (kinds_of z m) (nth (operands_of p (row_of x)) 1)

-- where t is false, instruction j is no read, or its kind covers k
pub record Touched (p : List ℕ) (z : Sizes) (m : List ℕ) (j : ℕ) (k : Kind) (t : 𝔹) : Type 0 where
  pub read : t ≡ true → (record_at p j).tag ≡ 13
  pub covers : t ≡ false → (record_at p j).tag ≡ 13 → Covered (get_or (kinds_of z m) j Empty) k

-- of the first n instructions the stamps of reads are 0 unless their kinds cover k; all else is as it was
pub record Unsettled (p : List ℕ) (z : Sizes) (k : Kind) (n : ℕ) (m w : List ℕ) : Type 0 where
  pub long : length w ≡ length m
  pub tables : tables_of w ≡ tables_of m
  pub stamps : (j : ℕ) → (stamp_of w j ≡ stamp_of m j) ⊎ ((stamp_of w j ≡ 0) × ((record_at p j).tag ≡ 13))
  pub reads : (j : ℕ) → j < n → (record_at p j).tag ≡ 13 → (stamp_of w j ≡ 0) ⊎ Covered (get_or (kinds_of z (tables_of m)) j Empty) k

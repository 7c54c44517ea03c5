-- An operand of an instruction, in words. Assumes nothing.
use mathlib.Core.Path.{◌≡◌, refl, ap, ◌∙◌}
use mathlib.Core.List.{List}
use Prim.Native.Nat.{ℕ, ◌+◌, ◌*◌, ◌≤◌, ◌<◌}
use Rattle.kinds.specs.declared.Kind.{Kind}
use Rattle.kinds.specs.Kinds.{kind_from}
use Rattle.program.specs.declared.Counts.{Counts}
use Rattle.program.specs.Rows.{opnd_at, opnd_of, nth}
use Rattle.program.specs.View.{ProgramReady}
use Rattle.records.specs.declared.Record.{Record}
use Rattle.records.specs.Records.{row_of}
use Rattle.program.proofs.Reading.{operand_read}
use Rattle.machine.specs.opnds.Reads.{kind_in}
use Rattle.visits.specs.Visits.{operands_of}
use Rattle.visits.proofs.Given.{operand_none}
use Rattle.program.specs.Layout.{opnds_at}

module _ {p : List ℕ} {c : Counts} (insn : Record) (j : ℕ) (r : ProgramReady p c) (range : insn.first + insn.count ≤ c.opnds) where
  -- the operand that stands there, and Nil where there is none
  pub operand_kind : (ks : List Kind) {k : Kind} → j < insn.count → k ≡ kind_in ks (opnd_of (opnd_at p (opnds_at + 2 * insn.first + 2 * j))) → k ≡ kind_in ks (nth (operands_of p (row_of insn)) j)
  unfolding row_of
  operand_kind ks h e = e ∙ ap (kind_in ks) (operand_read p (opnds_at + 2 * insn.first) insn.count j h refl)

  pub operand_nil : (ks : List Kind) → insn.count ≤ j → kind_from 1 0 ≡ kind_in ks (nth (operands_of p (row_of insn)) j)
  unfolding row_of kind_from
  operand_nil ks h = ap (kind_in ks) (operand_none p (row_of insn) j h)

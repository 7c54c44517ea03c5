-- The record of an instruction, and what it means. Assumes nothing.
use mathlib.Core.Path.{◌≡◌, refl, sym, ap, subst, ◌∙◌}
use mathlib.Core.List.{List}
use Prim.Native.Nat.{ℕ, ◌<◌}
use lib.ListN.{get_or}
use Rattle.program.specs.View.{ProgramReady, ReadsInsn}
use Rattle.program.specs.declared.Counts.{Counts}
use Rattle.program.specs.declared.Row.{Row}
use Rattle.program.proofs.Reading.{insn_read}
use Rattle.records.specs.declared.Record.{Record}
use Rattle.records.specs.Records.{Holds, none, record_at, row_of}

-- ---- what a record that is read means

module _ {m : List ℕ} {c : Counts} (i : ℕ) (r : ProgramReady m c) where
  pub record_row : i < c.insns → ReadsInsn m c i (row_of (record_at m i))
  unfolding record_at row_of
  record_row h = insn_read i r h refl

  -- a record that is read from a table that holds the program's instructions means its row
  pub holds_read : {t : List Record} → Holds t m c → {x : Record} {w : Row} → i < c.insns → x ≡ get_or t i none → w ≡ row_of x → ReadsInsn m c i w
  holds_read holds h e f = subst (ReadsInsn m c i) (sym (f ∙ ap row_of (e ∙ holds.records i h))) (record_row h)

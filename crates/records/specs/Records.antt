-- An instruction's record, and the table of records that the analysis reads. Assumes nothing.
use Rattle.std.specs.Prelude.{◌≡◌, List, ℕ, ◌+◌, ◌*◌, ◌%◌, ◌^◌, ◌<◌, length, get_or}
use Rattle.program.specs.Rows.{op_from}
use Rattle.program.specs.declared.Counts.{Counts}
use Rattle.program.specs.declared.Row.{Row}
use Rattle.memory.specs.Layout.{instructions_most}
use Rattle.program.specs.Layout.{insns_at, insn_words}
use Rattle.records.specs.declared.Record.{Record}

-- what stands past the end of a table, and at every place of an empty one
abbrev pub none : Record
none = record { tag = 0; block = 0; x = 0; y = 0; first = 0; count = 0 }

-- the record of row i of the program's words
unfoldable pub record_at : List ℕ → ℕ → Record
record_at m i =
    record {
      tag = get_or m (insns_at + insn_words * i) 0;
      block = get_or m (insns_at + insn_words * i + 1) 0;
      x = get_or m (insns_at + insn_words * i + 2) 0;
      y = get_or m (insns_at + insn_words * i + 3) 0;
      first = get_or m (insns_at + insn_words * i + 4) 0;
      count = get_or m (insns_at + insn_words * i + 5) 0;
    }

-- the row that a record stands for
unfoldable pub row_of : Record → Row
row_of x = record { block = record { 0 = x.block % 2 ^ 32 }; op = op_from x.tag x.x x.y; first = x.first; count = x.count }

-- the table holds the program's instructions
pub record Holds (t : List Record) (m : List ℕ) (c : Counts) : Type 0 where
  pub len_table : length t ≡ instructions_most
  pub records : (i : ℕ) → i < c.insns → get_or t i none ≡ record_at m i

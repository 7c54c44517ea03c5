-- The first k instructions are appended.
use Rattle.std.proofs.Common.{ℕ, ◌≡◌, ◌<◌, length}
use lib.ListN.{get_or}
use Rattle.memory.specs.Layout.{instructions_most}
use Rattle.records.specs.Records.{none, record_at}
use Rattle.records.proofs.commit.Given as goal

abbrev pub invariant-loop-k : goal.invariant-loop-k
invariant-loop-k l = record { len_table : length l.t ≡ instructions_most; records : (i : ℕ) → i < l.k → get_or l.t i none ≡ record_at l.program.words.now i }

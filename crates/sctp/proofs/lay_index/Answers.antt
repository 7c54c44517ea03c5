-- `sctp::lay_index` meets its contract. Assumes nothing.
use Rattle.sctp.proofs.Parts.{built_taken, index-laid}
use lib.Seq.{length-take-le}
use mathlib.Core.Path.{sym}
use native.Mathlib.Omega.{arith}
use Rattle.program.specs.Layout.{program_size}
use Rattle.sctp.proofs.lay_index.Goals as goal

pub slice_bounds-tables-end-2 : goal.slice_bounds-tables-end-2
slice_bounds-tables-end-2 c = sym (length-take-le program_size c.args.program.now (omega (arith, c.requires.program_len)))

pub slice_bounds-copy_index-end-2 : goal.slice_bounds-copy_index-end-2
slice_bounds-copy_index-end-2 c =
    sym (built_taken c.args.scratch.now c.build_index.new.scratch c.requires.scratch_len c.build_index.auto.scratch)

pub copy_index-requires-clause-chains_size_in_bounds : goal.copy_index-requires-clause-chains_size_in_bounds
copy_index-requires-clause-chains_size_in_bounds c = (
  omega (arith, built_taken c.args.scratch.now c.build_index.new.scratch c.requires.scratch_len c.build_index.auto.scratch),
  c.requires.program_ready.insns,
)

pub returns : goal.returns
returns c =
    index-laid c.args.scratch.now c.build_index.new.scratch c.requires.scratch_len c.build_index.auto.scratch c.args.counts c.args.program.now
    c.copy_index.new.t c.requires.program_len c.build_index.ensures c.copy_index.ensures

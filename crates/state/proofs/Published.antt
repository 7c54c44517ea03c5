-- The state part has its tables where published. Assumes nothing.
use mathlib.Core.Path.{◌≡◌, refl}
use Rattle.kinds.specs.Kinds.{kind_from}
use Rattle.memory.specs.tables.Tables.{listed}
use Rattle.memory.specs.tables.Bits.{bit_at}
use Rattle.memory.specs.tables.Rings.{waiting}
use Rattle.state.specs.View.{state_view, kinds_of, live_of, ivars_of, called_of, reads_of, insns_of, blocks_of}
use Rattle.state.specs.Published.{tables, laid, sizes, attrs, regs, told}

pub tables-told : state_view sizes attrs (laid tables) regs ≡ told
unfolding kind_from listed bit_at waiting kinds_of live_of ivars_of called_of reads_of insns_of blocks_of
tables-told = refl

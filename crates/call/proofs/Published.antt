-- The lent parts are as long, and the program's tables stand, as published. Assumes nothing.
use mathlib.Core.Path.{◌≡◌, refl}
use mathlib.Core.List.{[], ◌∷◌}
use Prim.Native.Nat.{◌+◌, ◌≤◌}
use lib.Dec.{lit≤}
use Rattle.rules.specs.Program.{limits}
use Rattle.answer.specs.Layout.{answer_length}
use Rattle.program.specs.Layout.{insns_at, opnds_at, blocks_at, functions_at, classes_at, ivars_at, program_size}
use Rattle.chains.specs.Layout.{chains_size, program_length}
use Rattle.state.specs.Layout.{state_length, stamps_at}
use Rattle.cursor.specs.Layout.{stack_at, scratch_size}
use Rattle.call.specs.Published.{published, program, state, scratch}

pub lengths : published ≡ ("SCRIPT_MOST", limits.script) ∷ ("ANSWER_WORDS", answer_length) ∷ ("PROGRAM_WORDS", program_length) ∷ ("STATE_WORDS", state_length) ∷ []
lengths = refl

pub program-places : program
    ≡ ("INSNS", insns_at) ∷ ("OPNDS", opnds_at) ∷ ("BLOCKS", blocks_at) ∷ ("FUNCTIONS", functions_at) ∷ ("CLASSES", classes_at) ∷ ("IVARS", ivars_at)
    ∷ ("TABLES", program_size) ∷ ("INDEX", chains_size) ∷ []
program-places = refl

pub state-places : state ≡ ("STAMPS", stamps_at) ∷ []
state-places = refl

pub scratch-places : scratch ≡ ("STACK", stack_at) ∷ ("SCRATCH", scratch_size) ∷ []
scratch-places = refl

-- the tables and the index fill the program part, the tables and a stamp for each instruction the state part, and there the scratch has room
pub program-filled : program_size + chains_size ≡ program_length
program-filled = refl

pub state-filled : stamps_at + limits.instructions ≡ state_length
state-filled = refl

pub scratch-fits : scratch_size ≤ state_length
scratch-fits = lit≤ tt

-- `frames::Frames::instruction` meets its contract. Assumes nothing.
use Rattle.frames.proofs.Steps.{kind_end}
use Rattle.frames.proofs.Frames.instruction.Goals as goal

pub returns-then-instructions-index : goal.returns-then-instructions-index
returns-then-instructions-index c = search kind_end

-- Limits are within the tables' room. Assumes nothing.
use Rattle.program.specs.View.{Small}
use Rattle.program.specs.declared.bounds.Limits.{Limits}

pub small_of : (l : Limits) → Small l
small_of l =
    record {
      functions = l.small.functions;
      classes = l.small.classes;
      blocks = l.small.blocks;
      instructions = l.small.instructions;
      operands = l.small.operands;
      ivars = l.small.ivars;
    }

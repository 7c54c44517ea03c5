-- The scratch memory of a reading: the variables, then the stack of call arguments, two words each. Assumes nothing.
use Rattle.std.specs.Prelude.{ℕ, ◌+◌, ◌*◌}
use Rattle.memory.specs.Layout.{operands_most}
use Rattle.program.specs.Layout.{opnd_words}
use Rattle.variables.specs.Layout.{variables_size}

-- where the stack starts, and how many words scratch memory takes
abbrev pub stack_at : ℕ
stack_at = variables_size

abbrev pub scratch_size : ℕ
scratch_size = stack_at + opnd_words * operands_most

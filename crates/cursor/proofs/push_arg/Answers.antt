-- `cursor::push_arg` meets its contract. Assumes nothing.
use mathlib.Core.Path.{sym, ap}
use Prim.Native.Nat.{◌+◌}
use Rattle.cursor.specs.Cursor.{stack_cur}
use Rattle.cursor.proofs.push_arg.Goals as goal

pub returns : goal.returns
returns c = λ d e. record { cur = ap (λ k. stack_cur (k + 1) d) (sym e); puts = rw (← e) at c.put_opnd.ensures }

-- `flows::argument_at` meets its contract. Assumes nothing.
use mathlib.Core.Path.{◌≡◌}
use native.Mathlib.Omega.{arith}
use mir.Val.{bool_byte}
use Rattle.std.proofs.Common.{rules}
use Rattle.flows.proofs.Callers.{skip_of, argument-here, argument-none}
use Rattle.flows.proofs.argument_at.Goals as goal

pub returns-then-j-row : goal.returns-then-j-row
returns-then-j-row c =
    let e : bool_byte c.match-matches.matches ≡ skip_of c.insn-row.result.op = search rules in
    rw e (argument-here c.args.program.now c.args.i.0 c.args.n c.insn-row.ensures (rw (← e) c.if-j-row.true))

pub returns-else-j-row : goal.returns-else-j-row
returns-else-j-row c =
    let e : bool_byte c.match-matches.matches ≡ skip_of c.insn-row.result.op = search rules in
    argument-none c.args.program.now c.args.i.0 c.args.n c.insn-row.ensures (rw (← e) c.if-j-row.false)

pub returns-else-n-row : goal.returns-else-n-row
returns-else-n-row c = argument-none c.args.program.now c.args.i.0 c.args.n c.insn-row.ensures (omega arith)

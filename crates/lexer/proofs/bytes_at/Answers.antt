-- `lexer::bytes_at` meets its contract. Assumes nothing.
use Rattle.std.proofs.Common.{◌≡◌, ◌-◌, length, take, drop, arith}
use Rattle.std.proofs.lemmas.Grind.{common_steps}
use Rattle.lexer.proofs.Names.{name-is}
use Rattle.lexer.proofs.bytes_at.Goals as goal

pub returns : goal.returns
returns c =
    let rest : take (length c.args.script.now - c.min.result) (drop c.min.result c.args.script.now) ≡ drop c.args.a c.args.script.now = grind (arith, common_steps, c.min.ensures) in
    name-is _ _ _ rest c.min-2.ensures

-- `sends::Call::set_off` meets its contract. Assumes nothing.
use mathlib.Core.Path.{◌≡◌}
use Rattle.std.specs.Prelude.{Err}
use borrow.Author.Rules.{rules}
use Rattle.sends.proofs.Called.{calling_kept, to_both, to_stop}
use Rattle.sends.proofs.Call.set_off.Goals as goal

pub pass-requires-clause-calling : goal.pass-requires-clause-calling
pass-requires-clause-calling c = calling_kept c.enter.ensures c.requires.calling

pub returns-in_err-enter : goal.returns-in_err-enter
returns-in_err-enter c =
    let e : c.from_residual.result ≡ Err c.in_err-enter.field-0.0 = search rules in
    rw e (to_stop c.args.self.now.code.now.program.words.now c.args.self.now.code.now.program.counts c.args.self.now.i.0 c.args.self.now.args c.args.f.0 c.enter.ensures c.in_err-enter.was)

pub returns : goal.returns
returns c =
    to_both c.args.self.now.code.now.program.words.now c.args.self.now.code.now.program.counts c.args.self.now.i.0 c.args.self.now.args c.args.f.0
    c.enter.ensures c.pass.result c.in_ok-enter.was c.pass.ensures

-- `sends::send_static` meets its contract. Assumes nothing.
use mathlib.Core.Path.{◌≡◌, refl}
use Rattle.std.specs.Prelude.{Err}
use borrow.Author.Rules.{rules}
use Rattle.sends.proofs.Called.{calling_kept, static_both, static_method, static_stop}
use Rattle.sends.proofs.send_static.Goals as goal

pub pass-requires-clause-calling : goal.pass-requires-clause-calling
pass-requires-clause-calling c = calling_kept c.enter.ensures c.requires.calling

pub returns-in_err-enter : goal.returns-in_err-enter
returns-in_err-enter c =
    let e : c.from_residual.result ≡ Err c.in_err-enter.field-0.0 = search rules in
    rw e (static_stop c.args.code.now.program.words.now c.args.code.now.program.counts c.args.i.0 c.args.args c.args.f.0 c.enter.ensures c.in_err-enter.was)

pub returns-in-Some : goal.returns-in-Some
returns-in-Some c =
    static_method c.args.code.now.program.words.now c.args.code.now.program.counts c.args.i.0 c.args.args c.args.f.0 c.enter.ensures c.fun-class.ensures refl c.in_ok-enter.was c.in-Some.is

pub returns-in-None : goal.returns-in-None
returns-in-None c =
    static_both c.args.code.now.program.words.now c.args.code.now.program.counts c.args.i.0 c.args.args c.args.f.0 c.enter.ensures
    c.fun-class.ensures refl c.pass.result c.in_ok-enter.was c.in-None.is c.pass.ensures

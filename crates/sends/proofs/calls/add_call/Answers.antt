-- `sends::calls::add_call` meets its contract. Assumes nothing.
use mathlib.Core.Path.{◌≡◌}
use Rattle.std.specs.Prelude.{Err}
use borrow.Author.Rules.{rules}
use Rattle.sends.proofs.calls.Adding.{call-old, call-new, call-short, call-stop}
use Rattle.sends.proofs.calls.add_call.Goals as goal

pub returns-then-not-add_caller : goal.returns-then-not-add_caller
returns-then-not-add_caller c = call-old c.args.state.now c.args.i.0 c.args.f.0 c.args.entry.0 c.args.params c.args.args c.add_caller.ensures c.if-not-add_caller.true

pub returns-in_err-push_block : goal.returns-in_err-push_block
returns-in_err-push_block c =
    let e : c.from_residual.result ≡ Err c.in_err-push_block.field-0.0 = search rules in
    rw e (call-stop c.args.state.now c.args.i.0 c.args.f.0 c.args.entry.0 c.args.params c.args.args c.add_caller.ensures c.if-not-add_caller.false c.push_block.ensures c.in_err-push_block.was)

pub returns-then-params-args : goal.returns-then-params-args
returns-then-params-args c = call-new c.args.state.now c.args.i.0 c.args.f.0 c.args.entry.0 c.args.params c.args.args c.add_caller.ensures
    c.if-not-add_caller.false c.push_block.ensures c.in_ok-push_block.was c.if-params-args.true

pub returns : goal.returns
returns c = call-short c.args.state.now c.args.i.0 c.args.f.0 c.args.entry.0 c.args.params c.args.args c.add_caller.ensures c.if-not-add_caller.false
    c.push_block.ensures c.in_ok-push_block.was c.if-params-args.false

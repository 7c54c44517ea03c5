-- `machine::push_users` meets its contract. Assumes nothing.
use mathlib.Core.Path.{◌≡◌, refl}
use Rattle.std.specs.Prelude.{Err}
use borrow.Author.Rules.{rules}
use Rattle.state.proofs.Lists.{waking_start, waking_more, waking_stop, waking_done}
use Rattle.machine.specs.Analysed.{homes_of}
use Rattle.machine.proofs.Storing.{at_home}
use Rattle.machine.proofs.push_users.Goals as goal

pub loop-user-init : goal.loop-user-init
loop-user-init c = waking_start c.args.users.now (homes_of c.args.program.now.words.now c.args.program.now.counts) c.args.state.now

pub returns-in_err-push_live : goal.returns-in_err-push_live
returns-in_err-push_live c =
    let e : c.from_residual.result ≡ Err c.in_err-push_live.field-0.0 = search rules in
    let p = c.args.program.now in
    let b = c.requires.listed c.loop-user.user-index 0 c.loop-user-test.true in
    rw e (waking_stop c.loop-user.invariant c.loop-user-test.true c.insn.result.block.0 _ refl
    (at_home p.words.now p.counts c.args.state.now.sizes p.ready c.requires.machine_sized b c.insn.ensures) b c.push_live.ensures c.in_err-push_live.was)

pub loop-user-preserved : goal.loop-user-preserved
loop-user-preserved c =
    let p = c.args.program.now in
    let b = c.requires.listed c.loop-user.user-index 0 c.loop-user-test.true in
    waking_more c.loop-user.invariant c.loop-user-test.true c.insn.result.block.0 _ refl
    (at_home p.words.now p.counts c.args.state.now.sizes p.ready c.requires.machine_sized b c.insn.ensures) b c.push_live.ensures c.in_ok-push_live.was

pub returns : goal.returns
returns c = waking_done c.loop-user.invariant c.loop-user-test.false
